-- The heights of a cell, by edge, type and variant, and all its words as the search reads them.
use Prim.Native.Nat.{ℕ, zero, suc, ◌+◌, ◌-◌, ◌*◌, ◌/◌, ◌%◌, ◌≤◌, ◌<◌}
use Rattle.std.specs.Prelude.{◌≡◌, Bool, true, false, cond, eqb}
use Rattle.std.proofs.Math.Path.{refl, ap₂}
use Rattle.std.proofs.Common.{sym, ap, ◌∙◌, add_assoc, lit≤}
use native.Mathlib.Omega.{arith}
use Rattle.definition.specs.Job.{Job}
use Rattle.definition.specs.Rules.{cell_at}
use Rattle.definition.specs.Cost.{first_height}
use Rattle.lists.specs.Compare.{Eq?, same, differs, eq?}
use Rattle.theory_bridge.specs.Paired.{pose_number, width_of, left_of, right_of}
use Rattle.job.specs.Parts.{width_in, height_in}
use Rattle.search_row.specs.Words as words
use Rattle.search_row.specs.Words.{variant, first_word, width_word, tall_word, touching_word, number_word, filled_word}
use Rattle.search_row.specs.Words.{front_barred, back_barred, words_used}
use Rattle.search_row_fill.specs.Words.{edge, shape_word, height_word, end_word}
use Rattle.search_row_fill.specs.Words.{cell_word}
use Rattle.search_row_fill.specs.Cell.{CellWords, own_at, height-at}

-- the mark as a number, and the edge that it leaves
mark-two : (m : ℕ) → m < 2 → cond (eqb m 1) 2 0 ≡ m * 2
mark-two m h = go (eqb m 1) (eq? m 1)
  where
    go : (t : Bool) → Eq? m 1 t → cond t 2 0 ≡ m * 2
    go true (same e) = omega arith
    go false (differs d) = omega arith

mark-none : (m : ℕ) → m < 2 → cond (eqb m 1) 0 2 ≡ 2 - m * 2
mark-none m h = go (eqb m 1) (eq? m 1)
  where
    go : (t : Bool) → Eq? m 1 t → cond t 0 2 ≡ 2 - m * 2
    go true (same e) = omega arith
    go false (differs d) = omega arith

-- where a height stands among the row's four: P or N, by variant, of the left edge and of the right one
edge-left : (type v : ℕ) → type < 2 → v < 4 → edge (4 * type + v) ≡ v % 2 * 2 + type
edge-left zero zero h g = refl
edge-left zero (suc zero) h g = refl
edge-left zero (suc (suc zero)) h g = refl
edge-left zero (suc (suc (suc zero))) h g = refl
edge-left (suc zero) zero h g = refl
edge-left (suc zero) (suc zero) h g = refl
edge-left (suc zero) (suc (suc zero)) h g = refl
edge-left (suc zero) (suc (suc (suc zero))) h g = refl
edge-left zero (suc (suc (suc (suc v)))) h g = absurd (omega arith)
edge-left (suc zero) (suc (suc (suc (suc v)))) h g = absurd (omega arith)
edge-left (suc (suc type)) v h g = absurd (omega arith)

edge-right : (type v : ℕ) → type < 2 → v < 4 → edge (8 + 4 * type + v) ≡ 2 - v % 2 * 2 + type
edge-right zero zero h g = refl
edge-right zero (suc zero) h g = refl
edge-right zero (suc (suc zero)) h g = refl
edge-right zero (suc (suc (suc zero))) h g = refl
edge-right (suc zero) zero h g = refl
edge-right (suc zero) (suc zero) h g = refl
edge-right (suc zero) (suc (suc zero)) h g = refl
edge-right (suc zero) (suc (suc (suc zero))) h g = refl
edge-right zero (suc (suc (suc (suc v)))) h g = absurd (omega arith)
edge-right (suc zero) (suc (suc (suc (suc v)))) h g = absurd (omega arith)
edge-right (suc (suc type)) v h g = absurd (omega arith)

low_digit : (a : ℕ) → a % 4 % 2 ≡ a % 2
low_digit a = omega arith

-- and of the layout's eight, from the row's first on
module _ (first type a : ℕ) (h : type < 2) where
  place-left : first + edge (4 * type + a % 4) ≡ first + cond (eqb (a % 2) 1) 2 0 + type
  place-left =
      ap (λ x. first + x) (edge-left type (a % 4) h (omega arith) ∙ ap (λ x. x * 2 + type) (low_digit a)
      ∙ ap (λ x. x + type) (sym (mark-two (a % 2) (omega arith))))
      ∙ sym (add_assoc first (cond (eqb (a % 2) 1) 2 0) type)

  place-right : first + edge (8 + 4 * type + a % 4) ≡ first + cond (eqb (a % 2) 1) 0 2 + type
  place-right =
      ap (λ x. first + x) (edge-right type (a % 4) h (omega arith) ∙ ap (λ x. 2 - x * 2 + type) (low_digit a)
      ∙ ap (λ x. x + type) (sym (mark-none (a % 2) (omega arith))))
      ∙ sym (add_assoc first (cond (eqb (a % 2) 1) 0 2) type)

  layout-left : (4 * type + a % 4) % 4 / 2 ≡ a % 4 / 2
  layout-left = ap (λ x. x / 2) (omega arith)

  layout-right : (8 + 4 * type + a % 4) % 4 / 2 ≡ a % 4 / 2
  layout-right = ap (λ x. x / 2) (omega arith)

module _ (j : Job) (row k : ℕ) where
  left_word : (type a : ℕ) → type < 2 → height_word j row k (4 * type + a % 4) ≡ left_of j row k (pose_number j k a) type
  unfolding height_word pose_number
  left_word type a h = ap₂ (height_in (cell_at j k)) (layout-left (first_height j row k) type a h)
      (place-left (first_height j row k) type a h)

  right-word : (type a : ℕ) → type < 2
      → height_word j row k (8 + 4 * type + a % 4) ≡ right_of j row k (pose_number j k a) type
  unfolding height_word pose_number
  right-word type a h = ap₂ (height_in (cell_at j k)) (layout-right (first_height j row k) type a h)
      (place-right (first_height j row k) type a h)

  module _ (n : ℕ) where
    width-at : (l : ℕ) → l < 2 → cell_word j row k n (width_word + l) ≡ width_in (cell_at j k) l
    unfolding cell_word shape_word
    width-at zero h = refl
    width-at (suc zero) h = refl
    width-at (suc (suc l)) h = absurd (omega arith)

  pub cell-words : (word : ℕ → ℕ) → ((i : ℕ) → i < words_used → word i ≡ cell_word j row k k i) → CellWords j row k word
  unfolding cell_word shape_word end_word width_of pose_number
  cell-words word w = record {
    own = λ a h. w a (omega arith) ∙ own_at j row k k a (omega arith);
    first = w first_word (lit≤ tt);
    width = λ a. w (width_word + a % 4 / 2) (omega arith) ∙ width-at k (a % 4 / 2) (omega arith);
    tall = w tall_word (lit≤ tt);
    left_p = λ a. height words.left_p 0 a refl (lit≤ tt) ∙ left_word 0 a (lit≤ tt);
    left_n = λ a. height words.left_n (4 * 1) a refl (lit≤ tt) ∙ left_word 1 a (lit≤ tt);
    right_p = λ a. height words.right_p 8 a refl (lit≤ tt) ∙ right-word 0 a (lit≤ tt);
    right_n = λ a. height words.right_n (8 + 4 * 1) a refl (lit≤ tt) ∙ right-word 1 a (lit≤ tt);
    weight = w touching_word (lit≤ tt);
    number = w number_word (lit≤ tt);
    filled = w filled_word (lit≤ tt);
    front = w front_barred (lit≤ tt);
    back = w back_barred (lit≤ tt);
  }
    where
      -- the word of a height, u of whose kind come first
      height : (at u a : ℕ) → at ≡ words.left_p + u → u ≤ 12 → word (at + a % 4) ≡ height_word j row k (u + a % 4)
      height at u a e h =
          w (at + a % 4) (omega arith) ∙ height-at j row k k (at + a % 4) (u + a % 4) (omega arith) (omega arith)
