-- After q turns the states below q are those of the next layer.
use Rattle.search_row.specs.Words.{deck_in}
use Rattle.search_dense_layer.specs.Thin.{Stepped}
use Rattle.search_dense_layer.proofs.step.Given as goal

abbrev pub invariant-loop-q : goal.invariant-loop-q
invariant-loop-q l =
    Stepped (deck_in l.row.words.now l.row.sizes) l.row.sizes.reordering l.q l.i l.from l.initial.store l.store
