-- The least of the states and poses passed, and a place that has it.
use Rattle.search_row.specs.Words.{deck_in}
use Rattle.search_dense_layer.specs.Kept.{kept_in}
use Rattle.search_back_segment.specs.Traces.{LeastOf}
use Rattle.search_back_segment.proofs.find_last.Given as goal

abbrev pub invariant-loop-q : goal.invariant-loop-q
invariant-loop-q l =
    LeastOf (deck_in l.row.words.now l.row.sizes) l.row.sizes.reordering (kept_in l.store l.row.sizes.cells) l.q 0 l.best l.last

abbrev pub invariant-loop-b : goal.invariant-loop-b
invariant-loop-b l =
    LeastOf (deck_in l.row.words.now l.row.sizes) l.row.sizes.reordering (kept_in l.store l.row.sizes.cells) l.q l.b l.best l.last
