-- A segment in the store: the layers run on in two blocks by turns, and the costs to a
-- tall cell are delivered as their layers come.
use Rattle.std.specs.Prelude.{ℕ, suc, ◌+◌, ◌≤◌, ◌<◌, ◌≡◌, ◌⊎◌, cond, List, length, get_or, ltb, eqb}
use Rattle.definition.specs.Job.{max_cells}
use Rattle.search_store.specs.Map.{kept_from, layer_block, max_lanes, max_poses}
use Rattle.theory_tables.specs.Steps.{B, Deck, Layer, state_count, offset, layers, cost_to}
use Rattle.search_lanes.specs.Store.{Low, layer_in}
use Rattle.search_row.specs.declared.Sizes.{Sizes}
use Rattle.search_row.specs.Words.{StateWords}
use Rattle.search_wide_buckets.specs.Table.{TableLent}
use Rattle.search_wide_layer.specs.declared.Block.{Block}
use Rattle.search_wide_layer.specs.Loops.{next_from, WideGiven, Stepping}

-- the two blocks of layers, at 0 and after the first
abbrev pub Buffer : ℕ → Type 0
Buffer at = (at ≡ 0) ⊎ (at ≡ layer_block)

-- d layers on from the layer in block 0, which has i cells, are in the block at `at`, in each lane
pub record Running (D : Deck) (R lanes i d at : ℕ) (old new : List ℕ) : Type 0 where
  pub buffer : Buffer at
  pub right : (q a l : ℕ) → q < state_count R → a < D.poses → l < lanes
      → layer_in new at l q a ≡ layers D R (layer_in old 0 l) i d q a

-- only the layers' blocks and so many words of costs changed
pub record Outside (costs wide : ℕ) (old new : List ℕ) : Type 0 where
  pub long : length new ≡ length old
  pub below : (k : ℕ) → kept_from ≤ k → k < costs → get_or new k 0 ≡ get_or old k 0
  pub above : (k : ℕ) → costs + wide ≤ k → get_or new k 0 ≡ get_or old k 0

-- few poses, states and lanes
pub record SizesSmall (D : Deck) (R lanes : ℕ) : Type 0 where
  pub narrow : lanes ≤ max_lanes
  pub few : D.poses ≤ max_poses
  pub states : state_count R ≤ 12

-- room for costs, above the layers
pub record CostRoom (st : List ℕ) (costs : ℕ) : Type 0 where
  pub over : kept_from ≤ costs
  pub room : costs + layer_block ≤ length st

-- the costs to a tall cell are to be written, by when the states come to it: with this layer, or with none from it on
pub record ToTall (row st : List ℕ) (z : Sizes) (layer : Block) (tall costs : ℕ) : Type 0 where
  pub coded : StateWords z.reordering row
  pub low : Low st
  pub room : CostRoom st costs
  pub all : z.states ≡ state_count z.reordering
  pub few : z.poses ≤ max_poses
  pub narrow : layer.lanes ≤ max_lanes
  pub early : layer.cells ≤ 100
  pub inside : tall < max_cells

-- the same from a layer in one of the two blocks
pub record Delivering (row st : List ℕ) (z : Sizes) (layer : Block) (tall costs : ℕ) : Type 0 where
  pub to_tall : ToTall row st z layer tall costs
  pub below : layer.at ≤ layer_block

-- the same straight from the layer before the last
pub record ToLast (table row st : List ℕ) (z : Sizes) (layer : Block) (tall costs : ℕ) : Type 0 where
  pub stepping : Stepping table row st z layer costs
  pub inside : tall < max_cells

-- state q, which may come to a tall cell with so many cells
pub record StateComing (row : List ℕ) (R cells tall q : ℕ) : Type 0 where
  pub coded : StateWords R row
  pub state : q < state_count R
  pub early : cells ≤ 101
  pub inside : tall < max_cells

-- each of the three for state q alone
pub record StateToTall (row st : List ℕ) (z : Sizes) (layer : Block) (tall costs q : ℕ) : Type 0 where
  pub to_tall : ToTall row st z layer tall costs
  pub state : q < state_count z.reordering

pub record StateDelivering (row st : List ℕ) (z : Sizes) (layer : Block) (tall costs q : ℕ) : Type 0 where
  pub delivering : Delivering row st z layer tall costs
  pub state : q < state_count z.reordering

pub record StateToLast (table row st : List ℕ) (z : Sizes) (layer : Block) (tall costs q : ℕ) : Type 0 where
  pub to_last : ToLast table row st z layer tall costs
  pub state : q < z.states

-- a segment: its first layer is in block 0, and there is room for its costs
pub record SegmentGiven (table row st : List ℕ) (z : Sizes) (first : Block) (costs : ℕ) : Type 0 where
  pub lent : TableLent table
  pub given : WideGiven row st z first.lanes first.cells 0
  pub begins : first.at ≡ 0
  pub room : CostRoom st costs

-- the same to a tall cell
pub record SegmentToTall (table row st : List ℕ) (z : Sizes) (first : Block) (tall costs : ℕ) : Type 0 where
  pub segment : SegmentGiven table row st z first costs
  pub inside : tall < max_cells

-- ---- costs to the tall cell at position p

-- B for a state that comes with no layer from the one with i cells on; for another one what was there
abbrev pub late_in : ℕ → ℕ → ℕ → List ℕ → ℕ → ℕ → Layer
late_in R i p st costs l q a = cond (ltb (p + suc R) (i + offset R q)) B (layer_in st costs l q a)

-- where the layer at `at`, with i cells, is the one that state q comes with, its entries; else what was there
abbrev pub delivered : ℕ → ℕ → ℕ → List ℕ → ℕ → ℕ → ℕ → Layer
delivered R i p st at costs l q a =
    cond (eqb (i + offset R q) (p + suc R)) (layer_in st at l q a) (layer_in st costs l q a)

-- where state q comes with the layer after the one at `at`, which has i cells, the
-- entries of that layer; else what was there
abbrev pub last_in : Deck → ℕ → ℕ → ℕ → List ℕ → ℕ → ℕ → ℕ → Layer
last_in D R i p st at costs l q a =
    cond (eqb (suc i + offset R q) (p + suc R)) (next_from D R st at i l q a) (layer_in st costs l q a)

-- the costs of the states that come with the first d layers, or with none
pub record CostedBy (D : Deck) (R lanes i p d costs : ℕ) (old new : List ℕ) : Type 0 where
  pub right : (q a l : ℕ) → q < state_count R → a < D.poses → l < lanes → p + suc R < i + d + offset R q
      → layer_in new costs l q a ≡ cost_to D R (layer_in old 0 l) i p q a

-- a segment on its way: d layers on, the costs delivered that come with them, and a table that serves the next layer
pub record CostedRun (D : Deck) (R lanes i p d at costs : ℕ) (old new table : List ℕ) : Type 0 where
  pub running : Running D R lanes i d at old new
  pub costed : CostedBy D R lanes i p (d + 1) costs old new
  pub outside : Outside costs layer_block old new
  pub low : Low new
  pub lent : TableLent table

-- what a segment to the tall cell leaves
pub record SegmentCosted (D : Deck) (R lanes i p costs : ℕ) (old new table : List ℕ) : Type 0 where
  pub outside : Outside costs layer_block old new
  pub low : Low new
  pub lent : TableLent table
  pub right : (q a l : ℕ) → q < state_count R → a < D.poses → l < lanes
      → layer_in new costs l q a ≡ cost_to D R (layer_in old 0 l) i p q a
