-- Each turn costs one state more; the layer before and the costs of the states to come are kept.
use Prim.Native.Nat.{◌+◌, ◌*◌}
use Rattle.search_store.specs.Map.{state_block}
use Rattle.search_lanes.specs.Store.{Frame, Filled}
use Rattle.search_row.specs.Words.{deck_in}
use Rattle.search_wide_buckets.specs.Table.{TableLent}
use Rattle.search_wide_segment.specs.Runs.{last_in}
use Rattle.search_wide_segment.proofs.last_layer.Given as goal

abbrev pub invariant-loop-q : goal.invariant-loop-q
invariant-loop-q l =
    Filled (last_in (deck_in l.row.words.now l.row.sizes) l.row.sizes.reordering l.layer.cells l.tall l.initial.store l.layer.at l.costs) l.layer.lanes
    l.row.sizes.poses l.costs l.q l.initial.store l.store
    × Frame l.costs (l.costs + l.q * state_block) l.initial.store l.store × TableLent l.table
