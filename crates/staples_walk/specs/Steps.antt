-- A step of the walk through the table: by which site number of a row's next cell the fewest sites are covered.
use Rattle.std.specs.Prelude.{ℕ, ◌+◌, ◌*◌, ◌≤◌, ◌<◌, ◌≡◌, Bool, true, false, ◌&&◌, List, length, eqb, Option, None, Some}
use Rattle.definition.specs.Job.{max_cells}
use Rattle.theory_tables.specs.Steps.{B}
use Rattle.theory_cover.specs.FileRow.{FileRow, Follows}
use Rattle.theory_cover.specs.Recurrence.{clears, cover_by_way, fewest}
use Rattle.search_lanes.specs.Store.{Low}
use Rattle.search_row.specs.Words.{RowWords}
use Rattle.staples_ways.specs.declared.LastCell.{LastCell}
use Rattle.staples_ways.specs.declared.NextCell.{NextCell}
use Rattle.staples_ways.specs.declared.Rests.{Rests}
use Rattle.staples_ways.specs.Words.{max_numbers, site_of_number, file_row, LastStands}
use Rattle.staples_ways.specs.Ways.{ways_in}
use Rattle.staples_table.specs.declared.RowCounts.{RowCounts}
use Rattle.staples_table.specs.Blocks.{blocks_words, TwoRows, to_come, TableRight}
use Rattle.staples_walk.specs.declared.Here.{Here}

-- by site number v of the next cell just x sites are covered: it clears the end of its row's last cell, and its way
-- comes to x
abbrev pub leads_in : List ℕ → List ℕ → NextCell → LastCell → LastCell → Rests → ℕ → ℕ → Bool
leads_in st row next own other r x v =
    clears own.end (site_of_number row next.placed v) && eqb (ways_in st row next other r v) x

-- number v leads on, and none before it
pub record Lead (lead : ℕ → Bool) (n v : ℕ) : Type 0 where
  pub below : v < n
  pub leads : lead v ≡ true
  pub first : (k : ℕ) → k < v → lead k ≡ false

-- the first such number, if there is one
abbrev pub FirstLead : (ℕ → Bool) → ℕ → Option ℕ → Type 0
FirstLead lead n None = (k : ℕ) → k < n → lead k ≡ false
FirstLead lead n (Some v) = Lead lead n v

-- the same of a row that may have no next cell
abbrev pub OpenLead : (ℕ → Bool) → NextCell → Option ℕ → Type 0
OpenLead lead next None = next.placed < next.cells → (k : ℕ) → k < next.numbers → lead k ≡ false
OpenLead lead next (Some v) = (next.placed < next.cells) × Lead lead next.numbers v

-- both rows' last cells stand, and a cell is still to come that can be placed
pub record StandsHere (row₀ row₁ : List ℕ) (k : RowCounts) (h : Here) : Type 0 where
  pub placed₀ : h.placed0 ≤ k.cells0
  pub placed₁ : h.placed1 ≤ k.cells1
  pub small₀ : h.number0 < 2 * k.limit + 1
  pub small₁ : h.number1 < 2 * k.limit + 1
  pub stands₀ : LastStands row₀ k.cells0 k.limit h.placed0 h.number0
  pub stands₁ : LastStands row₁ k.cells1 k.limit h.placed1 h.number1

-- how many sites are still to be covered
abbrev pub fewest_here : List ℕ → List ℕ → RowCounts → Here → ℕ
fewest_here row₀ row₁ k h =
    fewest (file_row row₀ k.cells0 k.limit) (file_row row₁ k.cells1 k.limit)
    (to_come k h.placed0 h.placed1) h.placed0 h.number0 h.placed1 h.number1

-- cell p of a row may be added at its site number v, and x sites are covered then: its last cell ends at a, the other
-- row's at b, and the cell that was added last starts at z
pub record Adds (L : FileRow) (p a b z v x : ℕ) (rest : ℕ → ℕ) : Type 0 where
  pub follows : Follows L p a v
  pub rises : z ≤ L.site p v
  pub covered : cover_by_way L p b rest v ≡ x

-- ---- what the functions are given

-- a number of a row's next cell to be tried
pub record LeadAsked (st row : List ℕ) (next : NextCell) (own other : LastCell) (r : Rests) (v : ℕ) : Type 0 where
  pub words : RowWords row
  pub low : Low st
  pub cell : next.placed < max_cells
  pub few : next.numbers ≤ max_numbers
  pub end : own.end ≤ B + B + max_numbers
  pub other_start : other.start ≤ B + B
  pub other_end : other.end ≤ B + B + B
  pub number : v < next.numbers
  pub inside : r.at + v * r.step < length st

-- all of them
pub record LeadsAsked (st row : List ℕ) (next : NextCell) (own other : LastCell) (r : Rests) : Type 0 where
  pub words : RowWords row
  pub low : Low st
  pub cell : next.placed < max_cells
  pub few : next.numbers ≤ max_numbers
  pub end : own.end ≤ B + B + max_numbers
  pub other_start : other.start ≤ B + B
  pub other_end : other.end ≤ B + B + B
  pub inside : (v : ℕ) → v < next.numbers → r.at + v * r.step < length st

-- the same of a row that may have no next cell
pub record OpenAsked (st row : List ℕ) (next : NextCell) (own other : LastCell) (r : Rests) : Type 0 where
  pub placed : next.placed ≤ next.cells
  pub cells : next.cells ≤ max_cells
  pub asked : next.placed < next.cells → LeadsAsked st row next own other r

-- a step to be taken
pub record StepAsked (st row₀ row₁ : List ℕ) (k : RowCounts) (h : Here) : Type 0 where
  pub rows : TwoRows row₀ row₁ k
  pub low : Low st
  pub room : blocks_words ≤ length st
  pub table : TableRight row₀ row₁ k 0 st
  pub here : StandsHere row₀ row₁ k h
  pub some : h.placed0 + h.placed1 < k.cells0 + k.cells1
  pub way : fewest_here row₀ row₁ k h < B
