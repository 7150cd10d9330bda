-- The positions of a row's tall cells as words: those below a count are written, and the others are still to come.
use Rattle.std.specs.Prelude.{ℕ, ◌+◌, ◌≤◌, ◌<◌, ◌≡◌, Bool, true, false, cond, List, ◌∷◌, length, get_or, drop, set, eqb}
use Rattle.std.proofs.Math.Path.{sym, ap}
use Rattle.std.proofs.Common.{◌∙◌, arith, below_more, length-set, get_or-set_same, get_or-set_other}
use Rattle.std.proofs.Math.Decide.{ℕ_discrete}
use Rattle.definition.specs.Job.{Job, max_cells}
use Rattle.definition_laws.specs.Sound.{Sound}
use Rattle.lists.specs.Numbers.{from, in_from}
use Rattle.theory_pair.specs.Pick.{pick}
use Rattle.theory_pair.specs.Cells.{Side, members, tall_count, pos}
use Rattle.theory_bridge.specs.Paired.{pair_job}
use Rattle.search_row.specs.Words.{word_of, tall_word}
use Rattle.search_states.specs.Rest.{rest, rest-none, rest_more, rest_all, Next, next, done}
use Rattle.search_row_fill.specs.Filled.{Lined}
use Rattle.search_row_fill.specs.Talls.{pick_same, few-talls, tall_places, places_count, places-pos}

-- the positions whose word says tall, of the first n
abbrev pub tall_at : List ℕ → ℕ → Bool
tall_at row p = eqb (word_of row p tall_word) 1

unfoldable pub talls_in : List ℕ → ℕ → List ℕ
talls_in row n = pick (tall_at row) (from 0 n)

-- the first `count` are written, and those from position p on are still to come
pub record TallsUpto (row : List ℕ) (n : ℕ) (talls : List ℕ) (count p : ℕ) : Type 0 where
  pub room : length (talls_in row n) ≤ length talls
  pub below : count ≤ length (talls_in row n)
  pub left : drop count (talls_in row n) ≡ rest (tall_at row) p n
  pub words : (I : ℕ) → I < count → get_or talls I 0 ≡ get_or (talls_in row n) I 0
  pub small : (I : ℕ) → get_or talls I 0 < max_cells

-- all are written, so many
pub record TallWords (row : List ℕ) (n : ℕ) (talls : List ℕ) (count : ℕ) : Type 0 where
  pub all : count ≡ length (talls_in row n)
  pub words : (I : ℕ) → I < count → get_or talls I 0 ≡ get_or (talls_in row n) I 0
  pub small : (I : ℕ) → get_or talls I 0 < max_cells

module _ {row : List ℕ} {n : ℕ} where
  pub talls-none : {talls : List ℕ} → length (talls_in row n) ≤ length talls → ((I : ℕ) → get_or talls I 0 < max_cells)
      → TallsUpto row n talls 0 0
  unfolding talls_in
  talls-none h s =
      record {
        room = h;
        below = omega arith;
        left = sym (rest_all (tall_at row) n);
        words = λ I g. absurd (omega arith);
        small = s;
      }

  module _ {talls : List ℕ} {count p : ℕ} (u : TallsUpto row n talls count p) where
    abbrev coming : List ℕ
    coming = rest (tall_at row) (p + 1) n

    module _ (h : p < n) (e : tall_at row p ≡ true) where
      upcoming : Next 0 (talls_in row n) count p coming
      upcoming =
          next (talls_in row n) count (u.left ∙ rest_more (tall_at row) p n h ∙ ap (λ t. cond t (p ∷ coming) coming) e)

      pub talls-room : count < length talls
      talls-room = let r = u.room in let i = upcoming.inside in omega arith

      pub talls-more : n ≤ max_cells → TallsUpto row n (set talls count p) (count + 1) (p + 1)
      talls-more few = record {
        room = simp length-set u.room;
        below = let i = upcoming.inside in omega arith;
        left = upcoming.after;
        words = below_more (λ I. get_or (set talls count p) I 0 ≡ get_or (talls_in row n) I 0) count
            (λ I g. get_or-set_other talls count I p 0 (omega arith) ∙ u.words I g)
            (get_or-set_same talls count p 0 talls-room ∙ sym upcoming.here);
        small = λ I. one I (ℕ_discrete count I);
      }
        where
          one : (I : ℕ) → Dec (count ≡ I) → get_or (set talls count p) I 0 < max_cells
          one I (yes z) =
              omega (arith, ap (λ k. get_or (set talls count p) k 0) z, get_or-set_same talls count p 0 talls-room)
          one I (no z) = omega (arith, get_or-set_other talls count I p 0 (λ y. z (sym y)), u.small I)

    pub talls-skip : p < n → tall_at row p ≡ false → TallsUpto row n talls count (p + 1)
    talls-skip h e = record {
      room = u.room;
      below = u.below;
      left = u.left ∙ rest_more (tall_at row) p n h ∙ ap (λ t. cond t (p ∷ coming) coming) e;
      words = u.words;
      small = u.small;
    }

    pub talls-all : n ≤ p → TallWords row n talls count
    talls-all h = record {
      all = done (talls_in row n) count u.below (u.left ∙ rest-none (tall_at row) p n h);
      words = u.words;
      small = u.small;
    }

-- ---- the tall cells of a row of a job

module _ {j : Job} {s : Side} {row : List ℕ} {n : ℕ} (w : Lined j s row n) where
  places : talls_in row n ≡ tall_places (pair_job j) s
  unfolding talls_in
  places =
      ap (λ m. pick (tall_at row) (from 0 m)) w.matched.size
      ∙ pick_same (tall_at row) _ (from 0 (length (members (pair_job j) s)))
      (λ p m. let h = in_from 0 (length (members (pair_job j) s)) m in w.matched.tall p (omega arith))

  pub talls-count : length (talls_in row n) ≡ tall_count (pair_job j)
  talls-count = ap length places ∙ places_count (pair_job j) s

  -- 24 words are enough
  pub talls-few : Sound j → length (talls_in row n) ≤ 24
  talls-few sound = let a = talls-count in let b = few-talls j sound in omega arith

  -- the words are the positions of the tall cells, and there are so many
  pub talls-pos : {talls : List ℕ} {count : ℕ} → TallWords row n talls count
      → (count ≡ tall_count (pair_job j)) × ((I : ℕ) → I < tall_count (pair_job j) → get_or talls I 0 ≡ pos (pair_job j) s I)
  talls-pos {talls} {count} t = (
    t.all ∙ talls-count,
    λ I h. t.words I (let a = t.all in let b = talls-count in omega arith)
        ∙ ap (λ l. get_or l I 0) places
        ∙ places-pos (pair_job j) s I (let b = places_count (pair_job j) s in omega arith),
  )
