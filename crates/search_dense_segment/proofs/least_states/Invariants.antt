-- After q turns x is the least of the states below q.
use mathlib.Core.Path.{◌≡◌}
use Rattle.search_buckets.specs.Ends.{least_states}
use Rattle.search_row.specs.Words.{deck_in}
use Rattle.search_dense_layer.specs.Thin.{thin_in}
use Rattle.search_dense_segment.proofs.least_states.Given as goal

abbrev pub invariant-loop-q : goal.invariant-loop-q
invariant-loop-q l =
    l.x ≡ least_states (deck_in l.row.words.now l.row.sizes) l.row.sizes.reordering (thin_in l.store l.at) l.q
