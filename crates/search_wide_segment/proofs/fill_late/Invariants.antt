-- Each turn fills one state more; the costs of the states to come are kept.
use Prim.Native.Nat.{◌+◌, ◌*◌}
use Rattle.search_store.specs.Map.{state_block}
use Rattle.search_lanes.specs.Store.{Frame, Filled}
use Rattle.search_wide_segment.specs.Runs.{late_in}
use Rattle.search_wide_segment.proofs.fill_late.Given as goal

abbrev pub invariant-loop-q : goal.invariant-loop-q
invariant-loop-q l =
    Filled (late_in l.row.sizes.reordering l.layer.cells l.tall l.initial.store l.costs) l.layer.lanes l.row.sizes.poses l.costs l.q l.initial.store l.store
    × Frame l.costs (l.costs + l.q * state_block) l.initial.store l.store
