-- A row's end: the least of the layer with all cells placed, as the loops come to it, and what the cost to the end
-- is by how many cells the start has placed.
use Rattle.std.specs.Prelude.{ℕ, suc, ◌+◌, ◌-◌, ◌≤◌, ◌<◌, min, ◌≡◌, true, false, not, ◌&&◌}
use Rattle.std.proofs.Math.Path.{refl, ap}
use Rattle.std.proofs.Common.{◌∙◌, arith}
use Rattle.std.proofs.Math.Bool.{cond}
use borrow.Author.Tests.{le-leb, lt-leb, eq-eqb, ne_eqb}
use Rattle.lists.specs.Numbers.{from}
use Rattle.theory_pair.specs.Coded.{lowest, lowest-low}
use Rattle.theory_tables.specs.Steps.{B, Deck, Layer, state_count, last_at, is_there, layers, ends, cost_end}
use Rattle.search_buckets.specs.Loops.{lowest-none, lowest-more}

-- ---- the loops

-- the least of the poses below m of state q, each with what it pays as the last
unfoldable pub least_poses : (ℕ → ℕ) → Layer → ℕ → ℕ → ℕ
least_poses back f q m = lowest B (λ a. f q a + back a) (from 0 m)

-- of state q, if its cell can be the last
unfoldable pub least_state : Deck → ℕ → Layer → ℕ → ℕ
least_state D R f q =
    cond (is_there D R D.size q && not (D.tall (last_at R D.size q)))
    (least_poses (D.back (last_at R D.size q)) f q D.poses) B

-- of the states below m
unfoldable pub least_states : Deck → ℕ → Layer → ℕ → ℕ
least_states D R f m = lowest B (least_state D R f) (from 0 m)

-- ---- one turn more of a loop

module _ (back : ℕ → ℕ) (f : Layer) (q : ℕ) where
  pub poses-none : least_poses back f q 0 ≡ B
  unfolding least_poses
  poses-none = lowest-none _

  pub poses-more : (m : ℕ) → least_poses back f q (m + 1) ≡ min (least_poses back f q m) (f q m + back m)
  unfolding least_poses
  poses-more m = lowest-more _ m

module _ (D : Deck) (R : ℕ) (f : Layer) where
  pub state_in_lem : (q : ℕ) → (is_there D R D.size q && not (D.tall (last_at R D.size q))) ≡ true
      → least_state D R f q ≡ least_poses (D.back (last_at R D.size q)) f q D.poses
  unfolding least_state
  state_in_lem q e = ap (λ t. cond t (least_poses (D.back (last_at R D.size q)) f q D.poses) B) e

  pub state-out : (q : ℕ) → (is_there D R D.size q && not (D.tall (last_at R D.size q))) ≡ false
      → least_state D R f q ≡ B
  unfolding least_state
  state-out q e = ap (λ t. cond t (least_poses (D.back (last_at R D.size q)) f q D.poses) B) e

  pub states-none : least_states D R f 0 ≡ B
  unfolding least_states
  states-none = lowest-none _

  pub states-more : (m : ℕ) → least_states D R f (m + 1) ≡ min (least_states D R f m) (least_state D R f m)
  unfolding least_states
  states-more m = lowest-more _ m

  pub states-low : (m : ℕ) → least_states D R f m ≤ B
  unfolding least_states
  states-low m = lowest-low B _ (from 0 m)

  states-all : least_states D R f (state_count R) ≡ ends D R f
  unfolding least_states least_state least_poses ends
  states-all = refl

  -- from lanes that were B at first
  pub ends-gathered : {count x : ℕ} → count ≡ state_count R → x ≡ min B (least_states D R f count)
      → ends D R f ≡ min (0 + x) B
  ends-gathered {count} n e =
      let b = ap (least_states D R f) n ∙ states-all in
      omega (arith, b, states-low count)

-- ---- the three cases of the cost

module _ (D : Deck) (R : ℕ) (f : Layer) (i e : ℕ) where
  pub cost-run : i ≤ D.size → cost_end D R f i e ≡ ends D R (layers D R f i (D.size - i))
  unfolding cost_end
  cost-run h = rw (le-leb i D.size h)

  pub cost-done : i ≡ suc D.size → cost_end D R f i e ≡ e
  unfolding cost_end
  cost-done h = rw (lt-leb i D.size (omega arith), eq-eqb i (suc D.size) h)

  pub cost-past : suc D.size < i → cost_end D R f i e ≡ B
  unfolding cost_end
  cost-past h = rw (lt-leb i D.size (omega arith), ne_eqb i (suc D.size) (λ z. omega arith))
