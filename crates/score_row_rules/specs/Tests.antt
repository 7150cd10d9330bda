-- The rules that are judged along a row, 5, 6 and 8, by how the cells stand. They are the definition's: see
-- Flat in score_verdict.
use Rattle.std.specs.Prelude.{ℕ, ◌-◌, ◌≤◌, ◌<◌, ◌≡◌, Bool, not, ◌&&◌, ◌||◌, List, length, get_or, leb, eqb}
use Rattle.definition.specs.Lists.{any, any_next}
use Rattle.definition.specs.Job.{both_rows, max_cells}
use Rattle.definition.specs.Rules.{apart, place_in, is_forbidden, is_first, is_last}
use Rattle.job.specs.Parts.{stands_in}
use Rattle.score_order.specs.declared.Stand.{Stand}
use Rattle.score_order.specs.Words.{site_in, end_in, row_in, row_in_file, order_in, Below}
use Rattle.score_cell_rules.specs.Tests.{RowOrder}

-- rule 5: k is one of two neighbours with one empty site between them; in a list of cells, and in either row
abbrev pub one_site : List Stand → ℕ → ℕ → ℕ → Bool
one_site stands k a b = (eqb k a || eqb k b) && is_forbidden (site_in stands b - end_in stands a)

unfoldable pub near_in : List Stand → List ℕ → ℕ → Bool
near_in stands order k = any_next (one_site stands k) order

unfoldable pub near_any : List Stand → ℕ → Bool
near_any stands k = any (λ row. near_in stands (order_in stands row) k) both_rows

-- rule 6: a cell of the row is further from its place in file order than the limit
unfoldable pub out_by : List Stand → ℕ → ℕ → ℕ → ℕ → ℕ → Bool
out_by stands row limit k place rank = stands_in row (row_in stands k) && not (leb (apart place rank) limit)

-- by the lists, and in either row
unfoldable pub out_in : List Stand → ℕ → ℕ → List ℕ → List ℕ → ℕ → Bool
out_in stands row limit order cells k = out_by stands row limit k (place_in k order) (place_in k cells)

unfoldable pub out_any : List Stand → ℕ → ℕ → Bool
out_any stands limit k = any (λ row. out_in stands row limit (order_in stands row) (row_in_file stands row) k) both_rows

-- rule 8: k is the first of a row's cells with one empty site before it, or the last with one after it; in a list of
-- cells, and in either row
unfoldable pub at_end_in : List Stand → ℕ → List ℕ → ℕ → Bool
at_end_in stands sites order k =
    (is_first k order && is_forbidden (site_in stands k))
    || (is_last k order && is_forbidden (sites - end_in stands k))

unfoldable pub at_end_any : List Stand → ℕ → ℕ → Bool
at_end_any stands sites k = any (λ row. at_end_in stands sites (order_in stands row) k) both_rows

-- cell a alone, if it breaks a rule
abbrev pub one_cell : ℕ → Bool → ℕ → Bool
one_cell a breaks k = eqb k a && breaks

-- ---- what the functions presume

-- a list of cells
pub record Cells (list : List ℕ) : Type 0 where
  pub few : length list ≤ max_cells
  pub low : (i : ℕ) → get_or list i 0 < max_cells

-- some of the cells, and a mark for each cell
pub record AlongRow (stands : List Stand) (order : List ℕ) (m : List Bool) : Type 0 where
  pub cells : Below (length stands) order
  pub marks : length m ≡ length stands

-- the order of a row, and a mark for each cell
pub record ByRow (stands : List Stand) (row : ℕ) (order : List ℕ) (m : List Bool) : Type 0 where
  pub few : length stands ≤ max_cells
  pub ordered : RowOrder stands row order
  pub marks : length m ≡ length stands
