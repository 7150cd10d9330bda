-- The traceback through the kept layers of one segment: what each function is given and what it leaves.
use Rattle.std.specs.Prelude.{ℕ, suc, ◌+◌, ◌≤◌, ◌<◌, ◌≡◌, true, false, cond, List, length, get_or, ltb, Option, None, Some}
use Rattle.search_store.specs.Map.{pages_from, max_kept, max_poses}
use Rattle.search_row.specs.declared.Sizes.{Sizes}
use Rattle.theory_tables.specs.Steps.{B, Deck, Layer, state_count, last_at, is_there, is_source, next_layer, ends, cost_end}
use Rattle.theory_tables.specs.Steps.{reached}
use Rattle.theory_tables.specs.Back.{SegmentTraced, EndTraced}
use Rattle.theory_tables.specs.Notes.{NotedBy}
use Rattle.search_lanes.specs.Store.{Frame, Low}
use Rattle.search_row.specs.Words.{deck_in, toll_in, StateWords, Ground}
use Rattle.search_buckets.specs.Rows.{Neighbours}
use Rattle.search_dense_layer.specs.Kept.{kept_in, KeptLayers}
use Rattle.search_back_segment.specs.declared.Place.{Place}

-- ---- searches

-- the first place below n at which h is v, if there is one
abbrev pub First : (ℕ → ℕ) → ℕ → ℕ → Option ℕ → Type 0
First h n v None = (k : ℕ) → k < n → h k ≡ v → ⊥
First h n v (Some r) = (r < n) × (h r ≡ v) × ((k : ℕ) → k < r → h k ≡ v → ⊥)

-- ---- where an entry comes from

-- by way of pose b, whose word is the b-th from `at` on, of the cell at position k, to pose a of position m
abbrev pub from_pose : List ℕ → List ℕ → ℕ → ℕ → ℕ → ℕ → ℕ → ℕ
from_pose st row at k m a b = get_or st (at + b) 0 + toll_in row k b m a

-- by way of state p in pose b of the layer f, which has i cells, to state q in pose a; B if that is no source
unfoldable pub from_state : Deck → ℕ → Layer → ℕ → ℕ → ℕ → ℕ → ℕ → ℕ
from_state D R f i q a p b = cond (is_source D R i q p) (f p b + D.toll (last_at R i p) b (last_at R (suc i) q) a) B

-- state p in pose b of the layer f is a source by way of which state q in pose a costs `want`, without its own cost
pub record SourceFits (D : Deck) (R : ℕ) (f : Layer) (i q a want p b : ℕ) : Type 0 where
  pub state : p < state_count R
  pub pose : b < D.poses
  pub source : is_source D R i q p ≡ true
  pub sum : f p b + D.toll (last_at R i p) b (last_at R (suc i) q) a ≡ want

-- where the kept entry of state q in pose a, one layer after layer i, comes from
pub record EntrySource (D : Deck) (R : ℕ) (st : List ℕ) (i q a p b : ℕ) : Type 0 where
  pub state : p < state_count R
  pub pose : b < D.poses
  pub source : is_source D R i q p ≡ true
  pub sum : kept_in st (suc i) q a
      ≡ D.own (last_at R (suc i) q) a + (kept_in st i p b + D.toll (last_at R i p) b (last_at R (suc i) q) a)

-- ---- what is given

-- the kept layers of a row
pub record Back (row st : List ℕ) (z : Sizes) : Type 0 where
  pub grounded : Ground row z
  pub low : Low st
  pub long : pages_from ≤ length st

-- two neighbours, a word for each pose of the left one from `at` on, and pose a of the right one
pub record PosesBefore (row st : List ℕ) (at k m a poses : ℕ) : Type 0 where
  pub cells : Neighbours row k m
  pub low : Low st
  pub room : at + poses ≤ length st
  pub pose : a < max_poses
  pub few : poses ≤ max_poses

-- state q in pose a, one layer after layer i, whose cell the row has; a source of it is sought by a cost
pub record Sought (row st : List ℕ) (z : Sizes) (i q a want : ℕ) : Type 0 where
  pub back : Back row st z
  pub last : i < max_kept
  pub state : q < state_count z.reordering
  pub cell : last_at z.reordering (suc i) q < z.cells
  pub pose : a < z.poses
  pub below : want < B

-- and state p of layer i, if it is one
pub record SourceSought (row st : List ℕ) (z : Sizes) (i q a p want : ℕ) : Type 0 where
  pub target : Sought row st z i q a want
  pub source : p < state_count z.reordering

-- there is one: what state q in pose a was reached by is that cost
pub record SourceThere (row st : List ℕ) (z : Sizes) (i q a want : ℕ) : Type 0 where
  pub target : Sought row st z i q a want
  pub cost : reached (deck_in row z) z.reordering (kept_in st i) i q a ≡ want

-- state q in pose b of the layer with all cells placed
pub record LastAsked (row st : List ℕ) (z : Sizes) (q b : ℕ) : Type 0 where
  pub back : Back row st z
  pub state : q < z.states
  pub pose : b < z.poses

-- state q in pose a as the i-th cell of a path
pub record PathCell (row path : List ℕ) (R i q a : ℕ) : Type 0 where
  pub words : StateWords R row
  pub state : q < state_count R
  pub pose : a < max_poses
  pub place : i ≤ max_kept
  pub room : max_kept < length path

-- an entry after layer i
pub record Entry (row st : List ℕ) (z : Sizes) (i q a : ℕ) : Type 0 where
  pub back : Back row st z
  pub some : 0 < i
  pub last : i < max_kept
  pub state : q < state_count z.reordering
  pub pose : a < z.poses
  pub cost : kept_in st (suc i) q a < B
  pub next : kept_in st (suc i) q a ≡ next_layer (deck_in row z) z.reordering (kept_in st i) i q a

-- an entry d layers on from the first of a segment, which has i cells; the layers are those from `first`
pub record SegmentTrace (row st path : List ℕ) (z : Sizes) (i d q a : ℕ) : Type 0 where
  pub back : Back row st z
  pub room : max_kept < length path
  pub some : 0 < i
  pub last : i + d ≤ max_kept
  pub state : q < state_count z.reordering
  pub pose : a < z.poses
  pub first : Layer
  pub kept : KeptLayers (deck_in row z) z.reordering first i (i + d) st
  pub cost : kept_in st (i + d) q a < B

-- the row's end, from a segment whose first layer has i cells
pub record End (row st path : List ℕ) (z : Sizes) (i : ℕ) : Type 0 where
  pub back : Back row st z
  pub room : max_kept < length path
  pub some : 0 < i
  pub first : Layer
  pub kept : KeptLayers (deck_in row z) z.reordering first i z.cells st

-- ---- what is left

-- the words of a path
abbrev pub word_at : List ℕ → ℕ → ℕ
word_at path e = get_or path e 0

pub record SegmentTraceDone (D : Deck) (R : ℕ) (st : List ℕ) (i d q a : ℕ) (old new : List ℕ) : Type 0 where
  pub frame : Frame i (suc (i + d)) old new
  pub row_traced : (f : Layer) → KeptLayers D R f i (i + d) st → SegmentTraced D R (NotedBy (word_at new)) f i d q a

pub record EndDone (D : Deck) (R : ℕ) (st : List ℕ) (i : ℕ) (old new : List ℕ) : Type 0 where
  pub frame : Frame i (suc D.size) old new
  pub row_traced : (f : Layer) (e : ℕ) → KeptLayers D R f i D.size st → cost_end D R f i e < B
      → EndTraced D R (NotedBy (word_at new)) f i e

-- ---- the last cell

-- state q in pose b of a layer f with all cells placed, with what its cell pays as the last
abbrev pub last_pays : Deck → ℕ → Layer → ℕ → ℕ → ℕ
last_pays D R f q b = f q b + D.back (last_at R D.size q) b

-- the same, or B if the row has no such cell, or it is tall
unfoldable pub last_of : Deck → ℕ → Layer → ℕ → ℕ → ℕ
last_of D R f q b = cond (ltb b D.poses)
    (cond (is_there D R D.size q) (cond (D.tall (last_at R D.size q)) B (last_pays D R f q b)) B) B

pub record LastFound (D : Deck) (R : ℕ) (f : Layer) (q b : ℕ) : Type 0 where
  pub state : q < state_count R
  pub pose : b < D.poses
  pub there : is_there D R D.size q ≡ true
  pub single : D.tall (last_at R D.size q) ≡ false
  pub word : last_pays D R f q b ≡ ends D R f

-- a last cell that the row can end with, at the least cost; none if it cannot end
abbrev pub EndFound : Deck → ℕ → Layer → Option Place → Type 0
EndFound D R f None = B ≤ ends D R f
EndFound D R f (Some p) = LastFound D R f p.state p.pose × (f p.state p.pose < B)

-- `last` has the cost `best`, or `best` is B
abbrev pub LastMet : Deck → ℕ → Layer → ℕ → Option Place → Type 0
LastMet D R f best None = best ≡ B
LastMet D R f best (Some p) = (best < B) × (p.state < state_count R) × (last_of D R f p.state p.pose ≡ best)

-- the least, capped, of the states below q in every pose and of state q in the poses below m
pub record LeastOf (D : Deck) (R : ℕ) (f : Layer) (q m best : ℕ) (last : Option Place) : Type 0 where
  pub capped : best ≤ B
  pub states : (p b : ℕ) → p < q → b < D.poses → best ≤ last_of D R f p b
  pub poses : (b : ℕ) → b < m → best ≤ last_of D R f q b
  pub met : LastMet D R f best last
