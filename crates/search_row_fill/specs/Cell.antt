-- The words of a cell as the terms of the cost: what the state's row has at its place.
use Prim.Native.Nat.{ℕ, ◌+◌, ◌-◌, ◌/◌, ◌≤◌, ◌<◌}
use Rattle.std.specs.Prelude.{◌≡◌, cond}
use Rattle.std.proofs.Math.Path.{refl}
use native.Mathlib.Omega.{arith}
use borrow.Author.Tests.{lt-ltb, le-ltb}
use Rattle.definition.specs.Job.{Job, is_tall}
use Rattle.definition.specs.Rules.{cell_at, forbidden_gap}
use Rattle.theory_bridge.specs.Paired.{is_offered, pose_number, width_of, own_of, left_of, right_of}
use Rattle.search_store.specs.Map.{max_poses}
use Rattle.search_row.specs.Words as words
use Rattle.search_row.specs.Words.{variant, first_word, width_word, tall_word, touching_word, number_word, filled_word}
use Rattle.search_row.specs.Words.{front_barred, back_barred, words_used}
use Rattle.search_row_fill.specs.Words.{alone, own_word, first_site, shape_word, height_word, end_word}
use Rattle.search_row_fill.specs.Words.{cell_word}

-- ---- a cell alone

pub word-alone : (j : Job) (row k i : ℕ) → cell_word (alone j.header (cell_at j k)) row 0 k i ≡ cell_word j row k k i
unfolding cell_word own_word shape_word height_word end_word is_offered pose_number width_of own_of
word-alone j row k i = refl

-- ---- the words of cell k in a row, as the search reads them

pub record CellWords (j : Job) (row k : ℕ) (word : ℕ → ℕ) : Type 0 where
  pub own : (a : ℕ) → a < max_poses → word a ≡ own_word j row k a
  pub first : word first_word ≡ first_site j k
  pub width : (a : ℕ) → word (width_word + variant a / 2) ≡ width_of j k (pose_number j k a)
  pub tall : word tall_word ≡ cond (is_tall (cell_at j k)) 1 0
  pub left_p : (a : ℕ) → word (words.left_p + variant a) ≡ left_of j row k (pose_number j k a) 0
  pub left_n : (a : ℕ) → word (words.left_n + variant a) ≡ left_of j row k (pose_number j k a) 1
  pub right_p : (a : ℕ) → word (words.right_p + variant a) ≡ right_of j row k (pose_number j k a) 0
  pub right_n : (a : ℕ) → word (words.right_n + variant a) ≡ right_of j row k (pose_number j k a) 1
  pub weight : word touching_word ≡ j.header.step_weight
  pub number : word number_word ≡ k
  pub filled : word filled_word ≡ j.header.filled_weight
  pub front : word front_barred ≡ j.header.displacement + forbidden_gap
  pub back : word back_barred ≡ j.header.sites + j.header.displacement - forbidden_gap

module _ (j : Job) (row k : ℕ) where
  module _ (n : ℕ) where
    pub own_at : (a : ℕ) → a < first_word → cell_word j row k n a ≡ own_word j row k a
    unfolding cell_word
    own_at a h = rw (lt-ltb a first_word h)

    pub shape_at : (i : ℕ) → first_word ≤ i → i < words.left_p → cell_word j row k n i ≡ shape_word j k i
    unfolding cell_word
    shape_at i g h = rw (le-ltb i first_word g, lt-ltb i words.left_p h)

    pub height-at : (i u : ℕ) → i ≡ words.left_p + u → u < 16 → cell_word j row k n i ≡ height_word j row k u
    unfolding cell_word
    height-at i u q h =
        let e : i - words.left_p ≡ u = omega arith in
        rw (
          le-ltb i first_word (omega arith),
          le-ltb i words.left_p (omega arith),
          lt-ltb i touching_word (omega arith),
          e,
        )
