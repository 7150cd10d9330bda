-- No state passed has a pose that fits; if none had, the tables would say otherwise.
use Prim.Native.Nat.{ℕ, ◌<◌}
use Rattle.search_row.specs.Words.{deck_in}
use Rattle.search_dense_layer.specs.Kept.{kept_in}
use Rattle.search_back_segment.specs.Sources.{Misses}
use Rattle.search_back_segment.proofs.find_source.Given as goal

abbrev pub invariant-loop-p : goal.invariant-loop-p
invariant-loop-p l =
    (j : ℕ) → j < l.p → Misses (deck_in l.row.words.now l.row.sizes) l.row.sizes.reordering (kept_in l.store l.i) l.i l.q l.a l.want j
