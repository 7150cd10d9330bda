-- Each turn writes one pose more of the four that were found.
use Prim.Native.Nat.{◌+◌, ◌*◌}
use Rattle.search_lanes.specs.Store.{Written}
use Rattle.search_dense_layer.specs.Thin.{with_apart, found_four}
use Rattle.search_dense_layer.proofs.put_four.Given as goal

abbrev pub invariant-loop-v : goal.invariant-loop-v
invariant-loop-v l =
    Written (found_four l.row (with_apart l.apart l.buckets) l.k l.e) (l.to + l.e * 4) l.v l.initial.store l.store
