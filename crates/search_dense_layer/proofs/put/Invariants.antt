-- Each turn writes the poses of one site more.
use Prim.Native.Nat.{◌*◌}
use Rattle.search_lanes.specs.Store.{Written}
use Rattle.search_dense_layer.specs.Thin.{with_apart, found_of}
use Rattle.search_dense_layer.proofs.put.Given as goal

abbrev pub invariant-loop-e : goal.invariant-loop-e
invariant-loop-e l = Written (found_of l.row (with_apart l.apart l.buckets) l.k) l.to (l.e * 4) l.initial.store l.store
