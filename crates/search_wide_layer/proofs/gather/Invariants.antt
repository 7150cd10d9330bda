-- After p turns the states below p are gathered.
use Rattle.search_row.specs.Words.{deck_in}
use Rattle.search_wide_buckets.specs.Table.{GatheredIf, states_in}
use Rattle.search_wide_layer.specs.Loops.{buckets_for}
use Rattle.search_wide_layer.proofs.gather.Given as goal

abbrev pub invariant-loop-p : goal.invariant-loop-p
invariant-loop-p l =
    GatheredIf l.used (states_in l.store l.row.words.now (deck_in l.row.words.now l.row.sizes) l.row.sizes.reordering l.layer.at l.layer.cells l.q l.p) l.rows
    (buckets_for l.row.words.now l.row.sizes l.layer l.q) l.layer.lanes l.initial.table l.table
