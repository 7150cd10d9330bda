-- What the functions are given: a cell and its ranges, room in the row for its words, and room for the tall cells'
-- positions. And what they answer: a number with a bound.
use Rattle.std.specs.Prelude.{ℕ, ◌+◌, ◌/◌, ◌≤◌, ◌<◌, ◌≡◌, List, length, get_or}
use Rattle.definition.specs.Job.{max_cells, max_weight}
use Rattle.theory_tables.specs.Steps.{pose_slots}
use Rattle.job.specs.declared.Job.{Job}
use Rattle.job.specs.Accepted.{Accepted}
use Rattle.search_lanes.specs.Store.{Low}
use Rattle.search_row.specs.Words.{row_length, states_from, cell_words, first_word, left_p}
use Rattle.search_row_fill.specs.declared.Lone.{Lone}
use Rattle.search_row_fill.specs.Values.{Ranged, offered}
use Rattle.search_row_fill.specs.TallWords.{talls_in, TallsUpto}

-- an answer that is this number, which is no more than that
pub record Bounded (number most answer : ℕ) : Type 0 where
  pub same : answer ≡ number
  pub low : answer ≤ most

-- a weight, and how often it is paid at most
pub record Weight (weight times : ℕ) : Type 0 where
  pub low : weight ≤ max_weight
  pub few : times ≤ 16

-- a pose number of a cell
pub record CellPose (c : Lone) (a : ℕ) : Type 0 where
  pub ranged : Ranged c.header c.cell
  pub few : a < pose_slots

-- one whose site is not left of site 0
pub record PoseRight (c : Lone) (a : ℕ) : Type 0 where
  pub ranged : Ranged c.header c.cell
  pub few : a < pose_slots
  pub right : (offered c.header c.cell).limit ≤ c.cell.given + a / 4

-- one of its words between its costs and its heights
pub record ShapeAt (c : Lone) (i : ℕ) : Type 0 where
  pub ranged : Ranged c.header c.cell
  pub from : first_word ≤ i
  pub to : i < left_p

-- one of its heights, in row 0 or 1
pub record HeightAt (u side : ℕ) : Type 0 where
  pub few : u < 16
  pub either : side ≤ 1

-- a cell that is to be written, in row 0 or 1, and its number
pub record CellPut (c : Lone) (side number : ℕ) : Type 0 where
  pub ranged : Ranged c.header c.cell
  pub either : side ≤ 1
  pub few : number < max_cells

-- the same, and room for its words from a place on
pub record CellToFill (c : Lone) (side number at : ℕ) (row : List ℕ) : Type 0 where
  pub put : CellPut c side number
  pub long : at + cell_words ≤ length row
  pub low : Low row

-- the same, and room for them at position n
pub record CellToAdd (c : Lone) (side number n : ℕ) (row : List ℕ) : Type 0 where
  pub put : CellPut c side number
  pub few : n < max_cells
  pub long : states_from ≤ length row
  pub low : Low row

-- a row that is to be filled from a job
pub record RowToFill (job : Job) (side : ℕ) (row : List ℕ) : Type 0 where
  pub accepted : Accepted job
  pub either : side ≤ 1
  pub long : row_length ≤ length row
  pub low : Low row

-- the tall cells' positions, of which those before p are listed
pub record TallNext (row : List ℕ) (n : ℕ) (talls : List ℕ) (count p : ℕ) : Type 0 where
  pub before : p < n
  pub few : n ≤ max_cells
  pub long : states_from ≤ length row
  pub upto : TallsUpto row n talls count p

-- room for all of them
pub record TallsRoom (row : List ℕ) (n : ℕ) (talls : List ℕ) : Type 0 where
  pub few : n ≤ max_cells
  pub long : states_from ≤ length row
  pub room : length (talls_in row n) ≤ length talls
  pub small : (I : ℕ) → get_or talls I 0 < max_cells

-- positions that are to be put into the row
pub record PlacesPut (row places : List ℕ) : Type 0 where
  pub long : row_length ≤ length row
  pub low : Low row
  pub all : length places ≡ 32
  pub small : (I : ℕ) → get_or places I 0 < max_cells
