-- The stages of the search, as tables of numbers: one stage for each tall cell, and one for the row ends.
use Rattle.std.specs.Prelude.{ℕ, zero, suc, ◌+◌, ◌-◌, min, ◌&&◌, cond, ltb, eqb}
use Rattle.theory_tables.specs.Steps.{B, Deck, offset, marks, state_count, Layer, Cases, SegmentCosts}
use Rattle.theory_tables.specs.Steps.{first_after, first_open, cost_to, cost_end, next_cases}

-- how many cells are placed once the cell at position p stands as state s
abbrev pub placed_with : ℕ → ℕ → ℕ → ℕ
placed_with R p s = p + suc R - offset R s

-- A row with its tall cells: tall cell I stands at position `pos I`, and there are `talls` of them.
module _ (D : Deck) (R talls : ℕ) (pos : ℕ → ℕ) where
  -- the cost of stage I, on from the layer f, which has i cells: to tall cell I, or to the row's end, which is state 0
  -- and pose 0; e is that of ending where the stage starts
  unfoldable pub stage_end : ℕ → Layer → ℕ → ℕ → Layer
  stage_end I f i e q a =
      cond (ltb I talls) (cost_to D R f i (pos I) q a) (cond (eqb q 0 && eqb a 0) (cost_end D R f i e) B)

  -- the costs of stage 0
  unfoldable pub open_cost : Layer
  open_cost q a = stage_end 0 (first_open D R) 1 0 q a

  -- the costs of stage I + 1: tall cell I stands as state s in pose l
  unfoldable pub stage_cost : ℕ → SegmentCosts
  stage_cost I s l q a =
      stage_end (suc I) (first_after D R (placed_with R (pos I) s) (marks R s) (pos I) l) (suc (placed_with R (pos I) s))
      (D.back (pos I) l) q a

-- the case table after stage I, of two rows
module _ (D₀ D₁ : Deck) (R talls : ℕ) (pos₀ pos₁ : ℕ → ℕ) where
  unfoldable pub case_table : ℕ → Cases
  case_table zero q₀ q₁ a = min (open_cost D₀ R talls pos₀ q₀ a + open_cost D₁ R talls pos₁ q₁ a) B
  case_table (suc I) q₀ q₁ a =
      next_cases (state_count R) D₀.poses (case_table I) (stage_cost D₀ R talls pos₀ I)
      (stage_cost D₁ R talls pos₁ I) q₀ q₁ a

  -- the least cost of all, or B
  abbrev pub least_cost : ℕ
  least_cost = case_table talls 0 0 0
