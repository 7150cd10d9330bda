-- The rules that are judged cell by cell, by how the cells stand. They are the definition's: see
-- Flat in score_verdict. And what the functions that judge rules are given.
use Rattle.std.specs.Prelude.{ℕ, ◌≤◌, ◌<◌, ◌≡◌, Bool, not, ◌&&◌, ◌||◌, List, length, leb, ltb, eqb}
use Rattle.definition.specs.Lists.{from, any}
use Rattle.definition.specs.Job.{both_rows, max_cells}
use Rattle.score_order.specs.declared.Stand.{Stand}
use Rattle.score_order.specs.Words.{site_in, end_in, row_in, order_in, Below}
use Rattle.job.specs.declared.Job.{Job}
use Rattle.job.specs.declared.Placement.{Placement}
use Rattle.job.specs.Parts.{stands_in}
use Rattle.job.specs.Ready.{Ready}

-- rule 2: past the row's end
unfoldable pub past_in : List Stand → ℕ → ℕ → Bool
past_in stands sites k = not (leb (end_in stands k) sites)

-- rule 4: cells of two row numbers share a row; two cells clash; a cell clashes with any
unfoldable pub share_in : ℕ → ℕ → Bool
share_in a b = any (λ row. stands_in row a && stands_in row b) both_rows

unfoldable pub clash_in : List Stand → ℕ → ℕ → Bool
clash_in stands k b =
    not (eqb b k)
    && (share_in (row_in stands k) (row_in stands b)
    && ltb (site_in stands k) (end_in stands b)
    && ltb (site_in stands b) (end_in stands k))

unfoldable pub clashes_in : List Stand → ℕ → Bool
clashes_in stands k = any (clash_in stands k) (from 0 (length stands))

-- rule 7: a tall cell is on the wrong side of cell k; any is
unfoldable pub wrong_in : List Stand → ℕ → ℕ → Bool
wrong_in stands k b =
    eqb (row_in stands b) 2
    && ((ltb b k && ltb (site_in stands k) (site_in stands b)) || (ltb k b && ltb (site_in stands b) (site_in stands k)))

unfoldable pub passes_in : List Stand → ℕ → Bool
passes_in stands k = eqb (row_in stands k) 2 && any (wrong_in stands k) (from 0 (length stands))

-- ---- what is given

-- two cells to compare
pub record Two (stands : List Stand) (k b : ℕ) : Type 0 where
  pub left : k < length stands
  pub right : b < length stands

-- a row's cells from left to right
pub record RowOrder (stands : List Stand) (row : ℕ) (order : List ℕ) : Type 0 where
  pub few : length order ≤ max_cells
  pub cells : Below (length stands) order
  pub same : order ≡ order_in stands row

-- the order of both rows, and a mark for each cell
pub record ByOrder (stands : List Stand) (order₀ order₁ : List ℕ) (m : List Bool) : Type 0 where
  pub few : length stands ≤ max_cells
  pub row0 : RowOrder stands 0 order₀
  pub row1 : RowOrder stands 1 order₁
  pub marks : length m ≡ length stands

-- a job and a placement, and a mark for each cell
pub record ByOffer (job : Job) (P : Placement) (m : List Bool) : Type 0 where
  pub ready : Ready job P
  pub marks : length m ≡ job.count
