-- The costs from a row's start: the layer that each state comes to a tall cell with, and what is left in the store.
use Rattle.std.specs.Prelude.{ℕ, suc, ◌+◌, ◌-◌, ◌≤◌, ◌<◌, ◌≡◌, cond, List, length, get_or, leb}
use Rattle.definition.specs.Job.{max_cells}
use Rattle.search_store.specs.Map.{kept_from, layer_block, state_block, pages_from, max_poses}
use Rattle.theory_tables.specs.Steps.{B, Deck, Layer, state_count, offset, first_open, cost_to, cost_end}
use Rattle.search_lanes.specs.Store.{Frame, Low, layer_in}
use Rattle.search_row.specs.declared.Sizes.{Sizes}
use Rattle.search_row.specs.Words.{Ground}
use Rattle.search_dense_layer.specs.Kept.{kept_in, KeptLayers}

-- words that stand side by side, a word for each row
abbrev pub spread_from : List ℕ → ℕ → ℕ → ℕ → ℕ
spread_from st from a l = get_or st (from + a) 0

-- the words of state q from the kept layer that it comes to the tall cell at
-- position p with; B if it comes with no layer
abbrev pub comes_in : ℕ → ℕ → List ℕ → ℕ → Layer
comes_in R p st l q a = cond (leb (1 + offset R q) (p + suc R)) (kept_in st (p + suc R - offset R q) q a) B

-- the costs to the tall cell at position p
abbrev pub tall_cost : Deck → ℕ → ℕ → Layer
tall_cost D R p q a = cost_to D R (first_open D R) 1 p q a

-- the cost to the row's end, which is state 0 and pose 0
abbrev pub end_cost : Deck → ℕ → Layer
end_cost D R q a = cost_end D R (first_open D R) 1 0

-- a store with room for costs, above the kept layers
pub record OpenRoom (st : List ℕ) (R poses count costs : ℕ) : Type 0 where
  pub low : Low st
  pub few : poses ≤ max_poses
  pub all : count ≡ state_count R
  pub over : pages_from ≤ costs
  pub room : costs + layer_block ≤ length st

-- a row, and room for the costs to its end
pub record OpenToEnd (row st : List ℕ) (z : Sizes) (costs : ℕ) : Type 0 where
  pub grounded : Ground row z
  pub room : OpenRoom st z.reordering z.poses z.states costs

-- a row, and room for the costs to its tall cell at position `tall`
pub record OpenToTall (row st : List ℕ) (z : Sizes) (tall costs : ℕ) : Type 0 where
  pub grounded : Ground row z
  pub room : OpenRoom st z.reordering z.poses z.states costs
  pub cell : tall < max_cells

-- and a state of that cell
pub record OpenToState (row st : List ℕ) (z : Sizes) (tall costs q : ℕ) : Type 0 where
  pub given : OpenToTall row st z tall costs
  pub state : q < z.states

-- so many words from `from` on, and above them a state whose words begin at `at`, with a row for each
pub record SpreadRoom (st : List ℕ) (from at rows : ℕ) : Type 0 where
  pub low : Low st
  pub above : from + rows ≤ at
  pub few : rows ≤ max_poses
  pub room : at + state_block ≤ length st

-- the layers from the row's start are kept up to layer `end`
pub record OpenKept (D : Deck) (R end : ℕ) (old new : List ℕ) : Type 0 where
  pub frame : Frame kept_from pages_from old new
  pub low : Low new
  pub kept : KeptLayers D R (first_open D R) 1 end new

-- the costs F are in lane 0 of the block at `costs`; above the kept layers nothing else is changed
pub record Opened (F : Layer) (ends poses costs : ℕ) (old new : List ℕ) : Type 0 where
  pub long : length new ≡ length old
  pub low : Low new
  pub below : (k : ℕ) → pages_from ≤ k → k < costs → get_or new k 0 ≡ get_or old k 0
  pub above : (k : ℕ) → costs + layer_block ≤ k → get_or new k 0 ≡ get_or old k 0
  pub right : (q a : ℕ) → q < ends → a < poses → layer_in new costs 0 q a ≡ F q a
