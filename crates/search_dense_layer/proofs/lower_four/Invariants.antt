-- Each turn lowers one word more of the row.
use Prim.Native.Nat.{◌+◌, ◌*◌}
use Rattle.search_lanes.specs.Lanes.{Lowered}
use Rattle.search_dense_layer.specs.Thin.{four_of}
use Rattle.search_dense_layer.proofs.lower_four.Given as goal

abbrev pub invariant-loop-v : goal.invariant-loop-v
invariant-loop-v l =
    Lowered (four_of l.t l.x l.pays l.p) (l.t * 4 + l.v) l.initial.words l.words
