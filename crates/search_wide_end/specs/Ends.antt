-- The cost of a segment to the row's end: the least of the layer with all cells placed.
-- What the loops come to, and what they leave.
use Rattle.std.specs.Prelude.{ℕ, ◌+◌, ◌≤◌, ◌<◌, ◌≡◌, Bool, not, ◌&&◌, List, length, get_or, eqb}
use Rattle.definition.specs.Job.{max_cells}
use Rattle.search_store.specs.Map.{kept_from, layer_block, state_block, max_lanes, max_poses}
use Rattle.theory_tables.specs.Steps.{Deck, last_at, ends, cost_end}
use Rattle.search_lanes.specs.Lanes.{LaneWords}
use Rattle.search_lanes.specs.Store.{Frame, Low, said_in, layer_in}
use Rattle.search_row.specs.declared.Sizes.{Sizes}
use Rattle.search_row.specs.Words.{word_of, back_in, there_in, tall_word, RowWords, Ground}
use Rattle.search_buckets.specs.Ends.{least_poses, least_state, least_states}
use Rattle.search_wide_buckets.specs.Table.{TableLent}
use Rattle.search_wide_layer.specs.declared.Block.{Block}
use Rattle.search_wide_layer.specs.Loops.{WideGiven}
use Rattle.search_wide_segment.specs.Runs.{Running, Outside, CostRoom, SegmentGiven}

-- state q's cell can be the last of the row: the row has it, and it is single
abbrev pub ends_with : List ℕ → ℕ → ℕ → ℕ → Bool
ends_with row n R q = there_in n R n q && not (eqb (word_of row (last_at R n q) tall_word) 1)

-- ---- the loops

-- the least of the poses, of a state and of the states below m, in lane l of a
-- layer in the store; the cell is at position k
abbrev pub least_poses_in : List ℕ → ℕ → List ℕ → ℕ → ℕ → ℕ → ℕ → ℕ
least_poses_in row k st at q m l = least_poses (back_in row k) (layer_in st at l) q m

-- pose a with what it pays as the last, in a state whose words begin at `at`
abbrev pub back_from : List ℕ → ℕ → List ℕ → ℕ → ℕ → ℕ → ℕ
back_from row k st at a l = said_in st at a l + back_in row k a

abbrev pub least_state_in : Deck → ℕ → List ℕ → ℕ → ℕ → ℕ → ℕ
least_state_in D R st at q l = least_state D R (layer_in st at l) q

abbrev pub least_states_in : Deck → ℕ → List ℕ → ℕ → ℕ → ℕ → ℕ
least_states_in D R st at m l = least_states D R (layer_in st at l) m

abbrev pub ends_in : Deck → ℕ → List ℕ → ℕ → ℕ → ℕ
ends_in D R st at l = ends D R (layer_in st at l)

-- ---- what is given

-- a segment that is to run on from its first layer, with i cells, to the row's end, and room for its layers
pub record RunGiven (table row st : List ℕ) (z : Sizes) (lanes i : ℕ) : Type 0 where
  pub lent : TableLent table
  pub given : WideGiven row st z lanes i 0
  pub room : kept_from ≤ length st
  pub left : i ≤ z.cells

-- state q of a row, of whose cell is asked whether it can be the last
pub record LastState (row : List ℕ) (z : Sizes) (q : ℕ) : Type 0 where
  pub grounded : Ground row z
  pub state : q < z.states

-- the layer with all cells placed, in the block at `at`, and room for its costs
pub record LastLayer (row st : List ℕ) (z : Sizes) (lanes at costs : ℕ) : Type 0 where
  pub given : WideGiven row st z lanes z.cells at
  pub room : CostRoom st costs

-- the layer with all cells placed, in the block at `at`, and the least so far, in each lane
pub record LeastGiven (acc row st : List ℕ) (z : Sizes) (lanes at : ℕ) : Type 0 where
  pub given : WideGiven row st z lanes z.cells at
  pub least : LaneWords acc

-- its state q, and the least so far
pub record LeastStateGiven (acc row st : List ℕ) (z : Sizes) (lanes at q : ℕ) : Type 0 where
  pub layer : LeastGiven acc row st z lanes at
  pub state : q < z.states

-- the poses of its state q, whose cell is at position k, and the least so far
pub record LeastPosesGiven (acc row st : List ℕ) (at q k poses lanes : ℕ) : Type 0 where
  pub words : RowWords row
  pub low : Low st
  pub least : LaneWords acc
  pub room : at + layer_block ≤ length st
  pub state : q < 12
  pub cell : k < max_cells
  pub few : poses ≤ max_poses
  pub narrow : lanes ≤ max_lanes

-- pose a of a state whose words begin at `at`
pub record LeastPoseGiven (acc row st : List ℕ) (at k a lanes : ℕ) : Type 0 where
  pub words : RowWords row
  pub low : Low st
  pub least : LaneWords acc
  pub room : at + state_block ≤ length st
  pub cell : k < max_cells
  pub pose : a < max_poses
  pub narrow : lanes ≤ max_lanes

-- a word for each lane, and room for the costs
pub record LanesToPut (st : List ℕ) (costs : ℕ) (acc : List ℕ) (lanes : ℕ) : Type 0 where
  pub low : Low st
  pub room : CostRoom st costs
  pub least : LaneWords acc
  pub narrow : lanes ≤ max_lanes

-- a segment to the row's end, and what the start of each lane pays as the last
pub record SegmentToEnd (table row st starts : List ℕ) (z : Sizes) (first : Block) (costs : ℕ) : Type 0 where
  pub segment : SegmentGiven table row st z first costs
  pub pays : LaneWords starts

-- ---- what is left

-- d layers on, in the block at `at`, and a table that serves the next layer
pub record Ran (D : Deck) (R lanes i d at : ℕ) (old new table : List ℕ) : Type 0 where
  pub running : Running D R lanes i d at old new
  pub frame : Frame 0 kept_from old new
  pub low : Low new
  pub lent : TableLent table

-- the costs to the row's end, in the first row, a word for each lane; `starts` has what the start of each lane pays as
-- the last
pub record Ended (D : Deck) (R lanes i costs : ℕ) (starts old new table : List ℕ) : Type 0 where
  pub outside : Outside costs state_block old new
  pub low : Low new
  pub lent : TableLent table
  pub right : (l : ℕ) → l < lanes → said_in new costs 0 l ≡ cost_end D R (layer_in old 0 l) i (get_or starts l 0)
