-- Each turn writes one block more.
use Rattle.search_lanes.specs.Store.{Filled}
use Rattle.search_row.specs.Words.{deck_in}
use Rattle.search_wide_buckets.specs.Table.{TableLent}
use Rattle.search_wide_first.specs.Firsts.{after_from}
use Rattle.search_wide_first.proofs.first_layer.Given as goal

abbrev pub invariant-loop-q : goal.invariant-loop-q
invariant-loop-q l =
    Filled (after_from (deck_in l.row.words.now l.row.sizes) l.row.sizes.reordering l.i l.m l.p) l.lanes l.row.sizes.poses 0 l.q l.initial.store l.store × TableLent l.table
