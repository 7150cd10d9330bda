-- What a traceback through the tables leaves: it notes each cell that it passes with its place and its pose
-- number, and every table entry on the way has its source. `Noted i k a` says that it noted the cell at position k
-- in pose a as the i-th placed, counted from 1.
use Rattle.std.specs.Prelude.{ℕ, zero, suc, ◌+◌, ◌-◌, ◌≤◌, ◌<◌, ◌≡◌, ◌⊎◌, true, false}
use Rattle.theory_tables.specs.Steps.{Deck, state_count, marks, last_at, is_there, is_source}
use Rattle.theory_tables.specs.Steps.{Layer, layers, first_after, first_open, cost_end, offset}
use Rattle.theory_tables.specs.Stages.{placed_with, stage_cost, case_table}

-- ---- one segment

module _ (D : Deck) (R : ℕ) (Noted : ℕ → ℕ → ℕ → Type 0) (f : Layer) (i : ℕ) where
  -- state r in pose b of the layer j on from f is where the entry of state q in pose a, one layer on, comes from
  pub record Source (j q a r b : ℕ) : Type 0 where
    pub state : r < state_count R
    pub pose : b < D.poses
    pub source : is_source D R (i + j) q r ≡ true
    pub sum : layers D R f i (suc j) q a ≡ D.own (last_at R (suc (i + j)) q) a
        + (layers D R f i j r b + D.toll (last_at R (i + j) r) b (last_at R (suc (i + j)) q) a)

  -- from state q in pose a of the layer j on from f back to f
  abbrev pub SegmentTraced : ℕ → ℕ → ℕ → Type 0
  SegmentTraced zero q a = Noted i (last_at R i q) a
  SegmentTraced (suc j) q a =
      Noted (suc (i + j)) (last_at R (suc (i + j)) q) a × (r : ℕ) × (b : ℕ) × Source j q a r b × SegmentTraced j r b

  -- back from the row's end: nothing was placed after the segment's start, where ending costs e, or from the last cell
  pub record Last (e r b : ℕ) : Type 0 where
    pub room : i ≤ D.size
    pub state : r < state_count R
    pub pose : b < D.poses
    pub there : is_there D R D.size r ≡ true
    pub single : D.tall (last_at R D.size r) ≡ false
    pub segment_cost : cost_end D R f i e ≡ layers D R f i (D.size - i) r b + D.back (last_at R D.size r) b
    pub row_traced : SegmentTraced (D.size - i) r b

  abbrev pub EndTraced : ℕ → Type 0
  EndTraced e = (i ≡ suc D.size) ⊎ ((r : ℕ) × (b : ℕ) × Last e r b)

-- ---- one stage in a row

module _ (D : Deck) (R talls : ℕ) (pos : ℕ → ℕ) (Noted : ℕ → ℕ → ℕ → Type 0) where
  -- stage I from the layer f, which has i cells, to state q in pose a of tall cell I; or to the row's
  -- end, which costs e from where the stage starts
  pub record StageTraced (I : ℕ) (f : Layer) (i e q a : ℕ) : Type 0 where
    pub to_tall : I < talls
        → (i + offset R q ≤ pos I + suc R) × SegmentTraced D R Noted f i (pos I + suc R - offset R q - i) q a
    pub to_the_end : talls ≤ I → EndTraced D R Noted f i e

-- ---- all stages of two rows

module _ (D₀ D₁ : Deck) (R talls : ℕ) (pos₀ pos₁ : ℕ → ℕ) (Noted₀ Noted₁ : ℕ → ℕ → ℕ → Type 0) where
  -- stage I + 1 to the case (q₀, q₁, a) comes from the case (s, t, l) of tall cell I, and both rows were traced
  pub record StageBack (I q₀ q₁ a s t l : ℕ) : Type 0 where
    pub state₀ : s < state_count R
    pub state₁ : t < state_count R
    pub pose : l < D₀.poses
    pub sum : case_table D₀ D₁ R talls pos₀ pos₁ (suc I) q₀ q₁ a
        ≡ case_table D₀ D₁ R talls pos₀ pos₁ I s t l
        + (stage_cost D₀ R talls pos₀ I s l q₀ a + stage_cost D₁ R talls pos₁ I t l q₁ a)
    pub row₀ : StageTraced D₀ R talls pos₀ Noted₀ (suc I) (first_after D₀ R (placed_with R (pos₀ I) s) (marks R s)
        (pos₀ I) l) (suc (placed_with R (pos₀ I) s)) (D₀.back (pos₀ I) l) q₀ a
    pub row₁ : StageTraced D₁ R talls pos₁ Noted₁ (suc I) (first_after D₁ R (placed_with R (pos₁ I) t) (marks R t)
        (pos₁ I) l) (suc (placed_with R (pos₁ I) t)) (D₁.back (pos₁ I) l) q₁ a

  abbrev pub Traced : ℕ → ℕ → ℕ → ℕ → Type 0
  Traced zero q₀ q₁ a = StageTraced D₀ R talls pos₀ Noted₀ 0 (first_open D₀ R) 1 0 q₀ a
      × StageTraced D₁ R talls pos₁ Noted₁ 0 (first_open D₁ R) 1 0 q₁ a
  Traced (suc I) q₀ q₁ a = (s : ℕ) × (t : ℕ) × (l : ℕ) × StageBack I q₀ q₁ a s t l × Traced I s t l
