-- Each return reads the tests on its way.
use Prim.Native.Nat.{ℕ, ◌+◌, ◌*◌}
use mathlib.Core.Path.{sym, ap, ap₂, ◌∙◌}
use native.Mathlib.Omega.{arith}
use lib.Dec.{eqb}
use lib.ListN.{get_or}
use borrow.Author.Tests.{eq-eqb, ne_eqb}
use Rattle.theory_tables.specs.Steps.{pose_slots}
use Rattle.search_row.specs.Words.{word_of, back_in, deck_in, tall_word}
use Rattle.search_row.specs.Laws.{back_low}
use Rattle.search_dense_layer.specs.Kept.{kept_in}
use Rattle.search_back_segment.specs.Lasts.{last_in_lem, last_out, last-tall}
use Rattle.search_back_segment.proofs.last_word.Goals as goal

pub returns-then-not-is_there : goal.returns-then-not-is_there
returns-then-not-is_there c =
    sym (last_out (deck_in c.args.row.words.now c.args.row.sizes) c.args.row.sizes.reordering (kept_in c.args.store.now c.args.row.sizes.cells) c.args.q c.args.b
    (sym c.is_there.ensures ∙ c.if-not-is_there.true))

pub returns-then-row-k-eq1 : goal.returns-then-row-k-eq1
returns-then-row-k-eq1 c =
    let e = ap (λ (p : ℕ). eqb (word_of c.args.row.words.now p tall_word) 1) c.last_at-k.ensures in
    sym (last-tall (deck_in c.args.row.words.now c.args.row.sizes) c.args.row.sizes.reordering (kept_in c.args.store.now c.args.row.sizes.cells) c.args.q c.args.b
    (sym e ∙ eq-eqb _ _ c.if-row-k-eq1.true))

pub overflow_add-result-3 : goal.overflow_add-result-3
overflow_add-result-3 c =
    omega (
      arith,
      c.requires.back.low.word (c.kept_at.result + c.args.q * pose_slots + c.args.b),
      c.back.ensures,
      back_low c.args.row.words.now c.last_at-k.result c.args.b,
    )

pub returns : goal.returns
returns c =
    let e = ap (λ (p : ℕ). eqb (word_of c.args.row.words.now p tall_word) 1) c.last_at-k.ensures in
    ap₂ (λ (x y : ℕ). x + y) (ap (λ (k : ℕ). get_or c.args.store.now k 0) (omega (arith, c.kept_at.ensures)))
    (c.back.ensures ∙ ap (λ (k : ℕ). back_in c.args.row.words.now k c.args.b) c.last_at-k.ensures)
    ∙ sym (last_in_lem (deck_in c.args.row.words.now c.args.row.sizes) c.args.row.sizes.reordering (kept_in c.args.store.now c.args.row.sizes.cells) c.args.q c.args.b
    c.requires.pose (sym c.is_there.ensures ∙ c.if-not-is_there.false) (sym e ∙ ne_eqb _ _ c.if-row-k-eq1.false))
