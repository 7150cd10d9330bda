-- The first layer of a segment after a tall cell: what its loops leave, lane by lane.
use Rattle.std.specs.Prelude.{ℕ, ◌+◌, ◌≤◌, ◌<◌, min, List, length}
use Rattle.definition.specs.Job.{max_cells}
use Rattle.theory_tables.specs.Steps.{B, Deck, Layer, first_after}
use Rattle.search_store.specs.Map.{state_block, max_lanes, max_poses}
use Rattle.search_lanes.specs.Store.{Low, RowsSaid}
use Rattle.search_row.specs.declared.Sizes.{Sizes}
use Rattle.search_row.specs.Words.{word_of, toll_in, RowWords}
use Rattle.search_wide_buckets.specs.Table.{TableLent}
use Rattle.search_wide_layer.specs.Loops.{WideGiven}

-- after pose l of the cell at position p: the cell at position k in pose a
abbrev pub after_row : List ℕ → ℕ → ℕ → ℕ → ℕ → ℕ
after_row row p k a l = min (word_of row k a + toll_in row p l k a) B

-- a segment after pose l of the cell at position p, the last of i placed, with marks m
abbrev pub after_from : Deck → ℕ → ℕ → ℕ → ℕ → ℕ → Layer
after_from D R i m p l q a = first_after D R i m p l q a

-- ---- what is given

-- the first layer after the cell at position p, the last of i placed, is to be made in the block at `to`:
-- all of it, from start state q, or its state q alone
pub record FirstGiven (table row st : List ℕ) (z : Sizes) (lanes i to p q : ℕ) : Type 0 where
  pub lent : TableLent table
  pub given : WideGiven row st z lanes i to
  pub start : p < max_cells
  pub state : q < z.states

-- the rows of one of its states, whose cell is at position k, are to be written, whose words begin at `at`
pub record FirstRows (table row st : List ℕ) (at p k poses lanes : ℕ) : Type 0 where
  pub lent : TableLent table
  pub words : RowWords row
  pub low : Low st
  pub room : at + state_block ≤ length st
  pub start : p < max_cells
  pub narrow : lanes ≤ max_lanes
  pub cell : k < max_cells
  pub few : poses ≤ max_poses

-- ---- what is left

-- these rows, and a table that serves the next state
pub record RowsMade (f : ℕ → ℕ → ℕ) (at poses lanes : ℕ) (old new table : List ℕ) : Type 0 where
  pub written : RowsSaid f at poses lanes old new
  pub lent : TableLent table
