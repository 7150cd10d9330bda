-- The layers up to that with so many cells are kept.
use Rattle.search_row.specs.Words.{deck_in}
use Rattle.search_dense_layer.specs.Kept.{SegmentKept}
use Rattle.search_dense_layer.proofs.segment_kept.Given as goal

abbrev pub invariant-loop-cells : goal.invariant-loop-cells
invariant-loop-cells l =
    SegmentKept (deck_in l.row.words.now l.row.sizes) l.row.sizes.reordering l.i l.cells l.initial.store l.store
