-- The layers of a segment from one start kept in the store, dense, layer after layer from layer 1 on.
use Rattle.std.specs.Prelude.{ℕ, ◌+◌, ◌≤◌, ◌<◌, ◌≡◌, List, length}
use Rattle.search_store.specs.Map.{kept_at, kept_from, pages_from, max_kept}
use Rattle.search_row.specs.declared.Sizes.{Sizes}
use Rattle.theory_tables.specs.Steps.{Deck, Layer, state_count, layers}
use Rattle.search_lanes.specs.Store.{Frame, Low}
use Rattle.search_row.specs.Words.{Ground}
use Rattle.search_dense_layer.specs.Thin.{thin_in}

abbrev pub kept_in : List ℕ → ℕ → Layer
kept_in st i q a = thin_in st (kept_at i) q a

-- the layers from f, which has i cells, up to layer `end` are kept
pub record KeptLayers (D : Deck) (R : ℕ) (f : Layer) (i end : ℕ) (st : List ℕ) : Type 0 where
  pub right : (j q a : ℕ) → i + j ≤ end → q < state_count R → a < D.poses → kept_in st (i + j) q a ≡ layers D R f i j q a

-- what keeping a segment is given: its first layer has i cells
pub record Segment (row st : List ℕ) (z : Sizes) (i end : ℕ) : Type 0 where
  pub grounded : Ground row z
  pub low : Low st
  pub long : pages_from ≤ length st
  pub some : 0 < i
  pub cells : i ≤ max_kept
  pub last : end ≤ max_kept

-- what it leaves
pub record SegmentKept (D : Deck) (R i end : ℕ) (old new : List ℕ) : Type 0 where
  pub frame : Frame kept_from pages_from old new
  pub low : Low new
  pub kept : KeptLayers D R (kept_in old i) i end new
