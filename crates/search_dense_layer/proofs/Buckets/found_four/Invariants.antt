-- Each turn finds one pose more.
use Rattle.search_lanes.specs.Store.{Written}
use Rattle.search_dense_layer.specs.Thin.{with_apart, found_four}
use Rattle.search_dense_layer.proofs.Buckets.found_four.Given as goal

abbrev pub invariant-loop-v : goal.invariant-loop-v
invariant-loop-v l =
    Written (found_four l.row (with_apart l.apart l.self) l.k l.e) 0 l.v l.initial.words l.words
