-- One layer of the search from the layer before: what it comes to in each lane, and what is given.
use Rattle.std.specs.Prelude.{ℕ, suc, ◌+◌, ◌≤◌, ◌<◌, ◌≡◌, Bool, true, false, List, length}
use Rattle.search_store.specs.Map.{layer_block, bucket_rows, max_kept, max_lanes}
use Rattle.theory_tables.specs.Steps.{B, Deck, Layer, last_at, is_source, next_layer}
use Rattle.search_lanes.specs.Store.{Low, layer_in, FilledState, Filled}
use Rattle.search_row.specs.declared.Sizes.{Sizes}
use Rattle.search_row.specs.Words.{Ground, deck_in}
use Rattle.search_buckets.specs.Rows.{buckets_in}
use Rattle.search_buckets.specs.Next.{Target}
use Rattle.search_wide_buckets.specs.Table.{TableLent, state_in}
use Rattle.search_wide_layer.specs.declared.Block.{Block}

-- the next layer in each lane
abbrev pub next_from : Deck → ℕ → List ℕ → ℕ → ℕ → ℕ → Layer
next_from D R st at i l q a = next_layer D R (layer_in st at l) i q a

-- how many buckets state q of the next layer needs
abbrev pub buckets_for : List ℕ → Sizes → Block → ℕ → ℕ
buckets_for row z layer q = buckets_in row (last_at z.reordering (suc layer.cells) q)

-- ---- what is given

-- a layer with i cells in the block at `at`
pub record WideGiven (row st : List ℕ) (z : Sizes) (lanes i at : ℕ) : Type 0 where
  pub grounded : Ground row z
  pub low : Low st
  pub narrow : lanes ≤ max_lanes
  pub early : i ≤ max_kept + 1
  pub room : at + layer_block ≤ length st

-- another block, with room, that has no word in common with the block at `at`
pub record Beside (st : List ℕ) (at to : ℕ) : Type 0 where
  pub room : to + layer_block ≤ length st
  pub apart : (k : ℕ) → at ≤ k → k < at + layer_block → to ≤ k → k < to + layer_block → ⊥

-- the sources of state q in a layer are to be gathered, in so many rows
pub record Gathering (table row st : List ℕ) (z : Sizes) (layer : Block) (q rows : ℕ) : Type 0 where
  pub lent : TableLent table
  pub given : WideGiven row st z layer.lanes layer.cells layer.at
  pub target : Target z.cells z.reordering layer.cells q
  pub few : rows ≤ bucket_rows

-- the same from its state p
pub record SourceGathering (table row st : List ℕ) (z : Sizes) (layer : Block) (q p rows : ℕ) : Type 0 where
  pub gathering : Gathering table row st z layer q rows
  pub source : p < z.states

-- the next layer is to be made from a layer, in the block at `to`
pub record Stepping (table row st : List ℕ) (z : Sizes) (layer : Block) (to : ℕ) : Type 0 where
  pub lent : TableLent table
  pub given : WideGiven row st z layer.lanes layer.cells layer.at
  pub beside : Beside st layer.at to

-- its state q
pub record StateStepping (table row st : List ℕ) (z : Sizes) (layer : Block) (to q : ℕ) : Type 0 where
  pub stepping : Stepping table row st z layer to
  pub state : q < z.states

-- its state q, whose cell the row has
pub record TargetStepping (table row st : List ℕ) (z : Sizes) (layer : Block) (to q : ℕ) : Type 0 where
  pub stepping : Stepping table row st z layer to
  pub target : Target z.cells z.reordering layer.cells q

-- state p of a layer, which may be a source of state q of the next
pub record SourceSought (row st : List ℕ) (z : Sizes) (layer : Block) (q p : ℕ) : Type 0 where
  pub given : WideGiven row st z layer.lanes layer.cells layer.at
  pub target : q < z.states
  pub source : p < z.states

-- all states of a layer
pub record SourcesSought (row st : List ℕ) (z : Sizes) (layer : Block) (q : ℕ) : Type 0 where
  pub given : WideGiven row st z layer.lanes layer.cells layer.at
  pub target : q < z.states

-- ---- what is left

-- nothing comes to state q by way of state p
abbrev pub NoWay : List ℕ → List ℕ → Sizes → Block → ℕ → ℕ → Type 0
NoWay row st z layer q p = (l v t : ℕ)
    → B ≤ state_in st row (deck_in row z) z.reordering layer.at layer.cells q p l v t

-- whether state p is a source of state q, and has a way
pub record IsWay (row st : List ℕ) (z : Sizes) (layer : Block) (q p : ℕ) (way : Bool) : Type 0 where
  pub source : way ≡ true → is_source (deck_in row z) z.reordering layer.cells q p ≡ true
  pub none : way ≡ false → NoWay row st z layer q p

-- state q of a layer, in its block at `to`, and a table that serves the next state
pub record StateMade (F : ℕ → Layer) (lanes to q m : ℕ) (old new table : List ℕ) : Type 0 where
  pub filled : FilledState F lanes to q m old new
  pub lent : TableLent table

-- a layer, in its block at `to`, and a table that serves the next layer
pub record LayerMade (F : ℕ → Layer) (lanes poses to m : ℕ) (old new table : List ℕ) : Type 0 where
  pub filled : Filled F lanes poses to m old new
  pub lent : TableLent table
