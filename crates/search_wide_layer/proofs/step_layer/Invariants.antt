-- After q turns the blocks below q are those of the next layer; the layer before is kept.
use Rattle.search_row.specs.Words.{deck_in}
use Rattle.search_wide_buckets.specs.Table.{TableLent}
use Rattle.search_wide_layer.specs.Loops.{next_from}
use Rattle.search_lanes.specs.Store.{Filled}
use Rattle.search_wide_layer.proofs.step_layer.Given as goal

abbrev pub invariant-loop-q : goal.invariant-loop-q
invariant-loop-q l =
    Filled (next_from (deck_in l.row.words.now l.row.sizes) l.row.sizes.reordering l.initial.store l.layer.at l.layer.cells) l.layer.lanes
    l.row.sizes.poses l.to l.q l.initial.store l.store × TableLent l.table
