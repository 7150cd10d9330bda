-- One stage of the traceback in one row: its first layer made once more from its one start, its
-- layers kept, and the traceback through them.
use Rattle.std.specs.Prelude.{ℕ, zero, suc, ◌≤◌, ◌<◌, ◌≡◌, cond, List, length, ltb}
use Rattle.search_store.specs.Map.{kept_from, pages_from, max_kept}
use Rattle.search_row.specs.declared.Sizes.{Sizes}
use Rattle.theory_tables.specs.Steps.{B, Deck, Layer, state_count, marks, first_after, first_open}
use Rattle.theory_tables.specs.Stages.{placed_with, stage_end}
use Rattle.theory_tables.specs.Back.{StageTraced}
use Rattle.theory_tables.specs.Notes.{NotedBy}
use Rattle.search_lanes.specs.Store.{Frame, Low}
use Rattle.search_row.specs.Words.{pos_in, RowGiven}
use Rattle.search_dense_layer.specs.Kept.{kept_in}
use Rattle.search_back_segment.specs.Traces.{word_at}

-- ---- the start of stage I: the row's start, or tall cell I - 1 as state s in pose l

-- how many cells its first layer has
unfoldable pub start_cells : ℕ → (ℕ → ℕ) → ℕ → ℕ → ℕ
start_cells R pos zero s = 1
start_cells R pos (suc I) s = suc (placed_with R (pos I) s)

unfoldable pub start_layer : Deck → ℕ → (ℕ → ℕ) → ℕ → ℕ → ℕ → Layer
start_layer D R pos zero s l = first_open D R
start_layer D R pos (suc I) s l = first_after D R (placed_with R (pos I) s) (marks R s) (pos I) l

-- what it pays where the row ends with it
unfoldable pub start_end : Deck → (ℕ → ℕ) → ℕ → ℕ → ℕ
start_end D pos zero l = 0
start_end D pos (suc I) l = D.back (pos I) l

-- what the stage costs from there to state q in pose a at its end
abbrev pub cost_from : Deck → ℕ → ℕ → (ℕ → ℕ) → ℕ → ℕ → ℕ → ℕ → ℕ → ℕ
cost_from D R talls pos I s l q a =
    stage_end D R talls pos I (start_layer D R pos I s l) (start_cells R pos I s) (start_end D pos I l) q a

-- the last place of stage I: that of tall cell I as state q, or the row's last
unfoldable pub end_place : ℕ → ℕ → ℕ → (ℕ → ℕ) → ℕ → ℕ → ℕ
end_place n R talls pos I q = cond (ltb I talls) (placed_with R (pos I) q) n

-- ---- what is given

-- stage I of a row, and the state of the tall cell before it that it starts from
pub record StartState (row : List ℕ) (z : Sizes) (I s : ℕ) : Type 0 where
  pub given : RowGiven row z
  pub stage : I ≤ z.talls
  pub state : 0 < I → s < state_count z.reordering

-- a start of stage I
pub record Start (row st : List ℕ) (z : Sizes) (I s l : ℕ) : Type 0 where
  pub given : RowGiven row z
  pub low : Low st
  pub long : pages_from ≤ length st
  pub stage : I ≤ z.talls
  pub state : 0 < I → s < state_count z.reordering
  pub pose : 0 < I → l < z.poses

-- and room for its first layer among the kept ones
pub record StartRoom (row st : List ℕ) (z : Sizes) (I s l : ℕ) : Type 0 where
  pub start : Start row st z I s l
  pub few : start_cells z.reordering (pos_in row) I s ≤ max_kept

-- a stage to be traced: from state q in pose a of tall cell I, or from the row's end
pub record Stage (row st path : List ℕ) (z : Sizes) (I s l q a : ℕ) : Type 0 where
  pub start : Start row st z I s l
  pub room : max_kept < length path
  pub state : I < z.talls → q < state_count z.reordering
  pub pose : I < z.talls → a < z.poses

-- ---- what is left

-- the first layer is kept, and has so many cells
pub record FirstKept (D : Deck) (R : ℕ) (pos : ℕ → ℕ) (I s l cells : ℕ) (old new : List ℕ) : Type 0 where
  pub count : cells ≡ start_cells R pos I s
  pub frame : Frame kept_from pages_from old new
  pub low : Low new
  pub right : (q a : ℕ) → q < state_count R → a < D.poses → kept_in new cells q a ≡ start_layer D R pos I s l q a

-- the stage is traced, if it has a cost: the cells from its first place to its last are
-- noted, and nothing else; the tables are kept
pub record StageNoted (D : Deck) (R talls : ℕ) (pos : ℕ → ℕ) (I s l q a : ℕ) (st st' path path' : List ℕ) : Type 0 where
  pub frame : Frame 0 pages_from st st'
  pub low : Low st'
  pub notes : Frame (start_cells R pos I s) (suc (end_place D.size R talls pos I q)) path path'
  pub row_traced : cost_from D R talls pos I s l q a < B
      → StageTraced D R talls pos (NotedBy (word_at path')) I (start_layer D R pos I s l) (start_cells R pos I s)
      (start_end D pos I l) q a
