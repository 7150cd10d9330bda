-- The stages of the search in the store: case table number 0 is the state before
-- anything, table number I + 1 is that of stage I.
use Rattle.std.specs.Prelude.{ℕ, zero, suc, ◌+◌, ◌*◌, ◌/◌, ◌≤◌, ◌<◌, min, ◌≡◌, cond, ◌⊎◌, List, length, get_or, ltb}
use Rattle.search_store.specs.Map.{case_at, costs_at, Pages, Slot, OutsideCosts, pages_from, max_lanes}
use Rattle.search_row.specs.declared.Sizes.{Sizes}
use Rattle.theory_tables.specs.Steps.{B, Deck, Layer, Cases, SegmentCosts, state_count}
use Rattle.theory_tables.specs.Stages.{stage_end, open_cost, stage_cost, case_table}
use Rattle.search_lanes.specs.Store.{Low, layer_in}
use Rattle.search_row.specs.Words.{deck_in, pos_in, with_cells, RowGiven}
use Rattle.search_wide_buckets.specs.Table.{TableLent}
use Rattle.search_wide_layer.specs.declared.Block.{Block}
use Rattle.search_wide_layer.specs.Loops.{WideGiven}
use Rattle.search_wide_segment.specs.Runs.{CostRoom}
use Rattle.search_dense_segment.specs.Opened.{OpenRoom}
use Rattle.search_join.specs.Tables.{cases_in, pointers_in, costs_in, SameCase, SameTables, Table, Least, Way}

-- how many of x states or poses table number I has: the tables of the tall cells
-- all of them, the first table and the last one
unfoldable pub wide : ℕ → ℕ → ℕ → ℕ
wide talls zero x = 1
wide talls (suc I) x = cond (ltb I talls) x 1

-- how many lanes a tall cell's table has: the poses, up to a multiple of 16
unfoldable pub width_of : ℕ → ℕ
width_of poses = (poses + 15) / 16 * 16

-- ---- what a stage goes by

-- the costs of stage I in a row
unfoldable pub cost_of : Deck → ℕ → ℕ → (ℕ → ℕ) → ℕ → SegmentCosts
cost_of D R talls pos zero s l q a = open_cost D R talls pos q a
cost_of D R talls pos (suc I) s l q a = stage_cost D R talls pos I s l q a

-- no case of table number I goes by a lane beyond the poses
pub record NoneBeyond (talls count poses I : ℕ) (st : List ℕ) : Type 0 where
  pub none : (q₀ q₁ l : ℕ) → q₀ < wide talls I count → q₁ < wide talls I count → wide talls I poses ≤ l
      → l < wide talls I (width_of poses)
      → cases_in st I q₀ q₁ l ≡ B

module _ (D₀ D₁ : Deck) (R talls : ℕ) (pos₀ pos₁ : ℕ → ℕ) where
  -- case table number I
  unfoldable pub table_of : ℕ → Cases
  table_of zero q₀ q₁ a = 0
  table_of (suc I) q₀ q₁ a = case_table D₀ D₁ R talls pos₀ pos₁ I q₀ q₁ a

  -- table number I in the store
  pub record TableRight (I : ℕ) (st : List ℕ) : Type 0 where
    pub word : (q₀ q₁ a : ℕ) → q₀ < wide talls I (state_count R) → q₁ < wide talls I (state_count R)
        → a < wide talls I D₀.poses
        → cases_in st I q₀ q₁ a ≡ table_of I q₀ q₁ a
    pub beyond : NoneBeyond talls (state_count R) D₀.poses I st

  -- the table that stage I leaves, each case with a way to it where it is below B
  pub record Staged (I : ℕ) (st : List ℕ) : Type 0 where
    pub case : (q₀ q₁ a : ℕ) → q₀ < wide talls (suc I) (state_count R) → q₁ < wide talls (suc I) (state_count R)
        → a < wide talls (suc I) D₀.poses
        → Least
        (table_of (suc I) q₀ q₁ a)
        (Way (wide talls I (state_count R)) (wide talls I D₀.poses) (table_of I) (cost_of D₀ R talls pos₀ I)
        (cost_of D₁ R talls pos₁ I) q₀ q₁ a)
        (cases_in st (suc I) q₀ q₁ a)
        (pointers_in st (suc I) q₀ q₁ a)
    pub beyond : NoneBeyond talls (state_count R) D₀.poses (suc I) st

  -- what stage I does to the store, whatever its words; the tables other than number I + 1 are kept.
  -- If table number I is right, so is the next. The table lent serves the next stage.
  pub record StageDone (I : ℕ) (old new table : List ℕ) : Type 0 where
    pub long : length new ≡ length old
    pub low : Low new
    pub lent : TableLent table
    pub tables : (J q₀ q₁ a : ℕ) → (J ≡ suc I → ⊥) → Slot J q₀ q₁ a → SameCase J q₀ q₁ a old new
    pub staged : TableRight I old → Staged I new

  -- the stages before I
  pub record Through (I : ℕ) (old new : List ℕ) : Type 0 where
    pub long : length new ≡ length old
    pub low : Low new
    pub right : TableRight I new
    pub staged : (J : ℕ) → J < I → Staged J new

  -- what all of them do
  pub record StagesDone (old new : List ℕ) : Type 0 where
    pub long : length new ≡ length old
    pub low : Low new
    -- the least costs
    pub right : (I q₀ q₁ a : ℕ) → I ≤ talls → q₀ < wide talls (suc I) (state_count R)
        → q₁ < wide talls (suc I) (state_count R) → a < wide talls (suc I) D₀.poses
        → cases_in new (suc I) q₀ q₁ a ≡ case_table D₀ D₁ R talls pos₀ pos₁ I q₀ q₁ a
    -- a way to each case after the first tall cell's, where it is below B
    pub way : (I q₀ q₁ a : ℕ) → I < talls → q₀ < wide talls (suc (suc I)) (state_count R)
        → q₁ < wide talls (suc (suc I)) (state_count R) → a < wide talls (suc (suc I)) D₀.poses
        → case_table D₀ D₁ R talls pos₀ pos₁ (suc I) q₀ q₁ a < B
        → Way
        (state_count R)
        D₀.poses
        (case_table D₀ D₁ R talls pos₀ pos₁ I)
        (stage_cost D₀ R talls pos₀ I)
        (stage_cost D₁ R talls pos₁ I)
        q₀
        q₁
        a
        (case_table D₀ D₁ R talls pos₀ pos₁ (suc I) q₀ q₁ a)
        (pointers_in new (suc (suc I)) q₀ q₁ a)

-- ---- the costs of a stage in the store

-- the costs F, lane by lane, in the block at `costs`; above all layers nothing else is changed
pub record RowCosted (F : ℕ → Layer) (lanes ends poses costs : ℕ) (old new : List ℕ) : Type 0 where
  pub long : length new ≡ length old
  pub low : Low new
  pub kept : (k : ℕ) → pages_from ≤ k → OutsideCosts costs k → get_or new k 0 ≡ get_or old k 0
  pub right : (q a l : ℕ) → q < ends → a < poses → l < lanes → layer_in new costs l q a ≡ F l q a

-- the same, and a table that serves the next start state
pub record RowMade (F : ℕ → Layer) (lanes ends poses costs : ℕ) (old new table : List ℕ) : Type 0 where
  pub costed : RowCosted F lanes ends poses costs old new
  pub lent : TableLent table

-- stage I on from the layer in block 0, which has i cells; `starts` has what
-- the start of each lane pays as the row's last
abbrev pub end_from : Deck → ℕ → ℕ → (ℕ → ℕ) → ℕ → List ℕ → ℕ → List ℕ → ℕ → Layer
end_from D R talls pos I st i starts l q a = stage_end D R talls pos I (layer_in st 0 l) i (get_or starts l 0) q a

-- where the cases of table I stand in which start state s of a row goes with state t of the other row
unfoldable pub from_at : ℕ → ℕ → ℕ → ℕ → ℕ
from_at zero I s t = case_at I s t
from_at (suc row) I s t = case_at I t s

-- no case of table I goes from start state s of a row by a lane from `low` to below `high`
pub record Dead (st : List ℕ) (row I starts s low high : ℕ) : Type 0 where
  pub none : (t l : ℕ) → t < starts → low ≤ l → l < high → B ≤ get_or st (from_at row I s t + l) 0

-- none goes by such a lane at all
pub record DeadLanes (st : List ℕ) (I starts low high : ℕ) : Type 0 where
  pub none : (s t l : ℕ) → s < starts → t < starts → low ≤ l → l < high → B ≤ cases_in st I s t l

-- of the lanes of table I, so many, the first ones are run; no case goes by the others
pub record LanesRun (st : List ℕ) (I starts lanes width : ℕ) : Type 0 where
  pub most : lanes ≤ width
  pub others : DeadLanes st I starts lanes width

-- the costs from start state s of a row
pub record StartRight (st : List ℕ) (row : ℕ) (x : SegmentCosts) (lanes ends poses s : ℕ) : Type 0 where
  pub word : (q a l : ℕ) → q < ends → a < poses → l < lanes → costs_in st row s l q a ≡ x s l q a

-- they are right, unless no case goes from it
abbrev pub RightUnlessDead : ℕ → SegmentCosts → ℕ → ℕ → ℕ → ℕ → ℕ → ℕ → List ℕ → List ℕ → Type 0
RightUnlessDead row x I starts lanes ends poses s old new =
    Dead old row I starts s 0 lanes ⊎ StartRight new row x lanes ends poses s

-- that of one start state; above all layers nothing else is changed, and the table lent serves the next one
pub record StartCosted (row : ℕ) (x : SegmentCosts) (I starts lanes ends poses s : ℕ) (old new table : List ℕ)
    : Type 0 where
  pub long : length new ≡ length old
  pub low : Low new
  pub lent : TableLent table
  pub kept : (k : ℕ) → pages_from ≤ k → OutsideCosts (costs_at row s) k → get_or new k 0 ≡ get_or old k 0
  pub right : RightUnlessDead row x I starts lanes ends poses s old new

-- that of both rows for the start states below m; the case tables are kept, and the table lent serves the next one
pub record BothCosted (x₀ x₁ : SegmentCosts) (I starts lanes ends poses m : ℕ) (old new table : List ℕ) : Type 0 where
  pub long : length new ≡ length old
  pub low : Low new
  pub lent : TableLent table
  pub tables : SameTables old new
  pub right₀ : (s : ℕ) → s < m → RightUnlessDead 0 x₀ I starts lanes ends poses s old new
  pub right₁ : (s : ℕ) → s < m → RightUnlessDead 1 x₁ I starts lanes ends poses s old new

-- ---- what a function of the stages is given

-- what is asked: whether a case of table I goes by a lane from `low` to below `high`; whether one does from state s
pub record LanesAsked (starts low high I : ℕ) (st : List ℕ) : Type 0 where
  pub table : Table starts high I st
  pub order : low ≤ high

pub record StartAsked (starts s low high I : ℕ) (st : List ℕ) : Type 0 where
  pub lanes : LanesAsked starts low high I st
  pub state : s < starts

-- both rows, of which row 1 has n₁ cells, and the store: a page for each state that a table has, and no word over B
pub record StagesGiven (row₀ row₁ st : List ℕ) (z : Sizes) (n₁ : ℕ) : Type 0 where
  pub given₀ : RowGiven row₀ z
  pub given₁ : RowGiven row₁ (with_cells z n₁)
  pub long : Pages (wide z.talls z.talls z.states) st
  pub low : Low st

-- the same for stage I, with a table lent
pub record StageGiven (table row₀ row₁ st : List ℕ) (z : Sizes) (n₁ I : ℕ) : Type 0 where
  pub lent : TableLent table
  pub given : StagesGiven row₀ row₁ st z n₁
  pub stage : I ≤ z.talls

-- the same, to be run in so many lanes
pub record StageLanes (table row₀ row₁ st : List ℕ) (z : Sizes) (n₁ I lanes : ℕ) : Type 0 where
  pub stage : StageGiven table row₀ row₁ st z n₁ I
  pub narrow : lanes ≤ max_lanes

-- how many states and poses table number I has
abbrev pub states_at : Sizes → ℕ → ℕ
states_at z I = wide z.talls I z.states

abbrev pub poses_at : Sizes → ℕ → ℕ
poses_at z I = wide z.talls I z.poses

-- those of its poses whose lanes are run, if the first `lanes` are
abbrev pub run_at : Sizes → ℕ → ℕ → ℕ
run_at z I lanes = min lanes (poses_at z I)

-- start state s of stage I in one row, with the lanes of the case table that it starts from
pub record StartGiven (table row st : List ℕ) (side : ℕ) (z : Sizes) (I s lanes : ℕ) : Type 0 where
  pub lent : TableLent table
  pub given : RowGiven row z
  pub cases : Table (states_at z I) lanes I st
  pub one : side ≤ 1
  pub stage : I ≤ z.talls
  pub state : s < states_at z I

-- stage 0 in one row, with room for its costs
pub record OpenGiven (row st : List ℕ) (z : Sizes) (costs : ℕ) : Type 0 where
  pub given : RowGiven row z
  pub room : OpenRoom st z.reordering z.poses z.states costs

-- start state s of stage I in one row, with room for its costs
pub record CostGiven (table row st : List ℕ) (z : Sizes) (I s lanes costs : ℕ) : Type 0 where
  pub lent : TableLent table
  pub given : RowGiven row z
  pub narrow : lanes ≤ max_lanes
  pub room : OpenRoom st z.reordering z.poses z.states costs
  pub stage : I ≤ z.talls
  pub state : s < states_at z I

-- the stage's first layer, which is in block 0, and what the start of each lane pays as the row's last
pub record EndGiven (table row st starts : List ℕ) (z : Sizes) (layer : Block) (costs : ℕ) : Type 0 where
  pub lent : TableLent table
  pub given : RowGiven row z
  pub begun : WideGiven row st z layer.lanes layer.cells layer.at
  pub first : layer.at ≡ 0
  pub room : CostRoom st costs
  pub low : Low starts
  pub long : length starts ≡ max_lanes

-- ---- what they leave, by the rows' words

-- the costs of stage I in a row
abbrev pub cost_in : List ℕ → Sizes → ℕ → SegmentCosts
cost_in row z I = cost_of (deck_in row z) z.reordering z.talls (pos_in row) I

-- those from start state s in the first lanes, in the block at `costs`
abbrev pub RowCost : List ℕ → Sizes → ℕ → ℕ → ℕ → ℕ → List ℕ → List ℕ → List ℕ → Type 0
RowCost row z I s lanes costs old new table =
    RowMade (cost_in row z I s) (run_at z I lanes) (states_at z (suc I)) (poses_at z (suc I)) costs old new table

-- those from start state s in the first lanes, in their place
abbrev pub RowStart : ℕ → List ℕ → Sizes → ℕ → ℕ → ℕ → List ℕ → List ℕ → List ℕ → Type 0
RowStart side row z I s lanes old new table =
    StartCosted side (cost_in row z I) I (states_at z I) (run_at z I lanes) (states_at z (suc I)) (poses_at z (suc I)) s
    old new table

-- those of both rows, from every start state in the first lanes
abbrev pub RowsStart : List ℕ → List ℕ → Sizes → ℕ → ℕ → ℕ → List ℕ → List ℕ → List ℕ → Type 0
RowsStart row₀ row₁ z n₁ I lanes old new table =
    BothCosted (cost_in row₀ z I) (cost_in row₁ (with_cells z n₁) I) I (states_at z I) (run_at z I lanes)
    (states_at z (suc I)) (poses_at z (suc I)) (states_at z I) old new table

-- stage I, and all stages
abbrev pub RowsStage : List ℕ → List ℕ → Sizes → ℕ → ℕ → List ℕ → List ℕ → List ℕ → Type 0
RowsStage row₀ row₁ z n₁ I old new table =
    StageDone (deck_in row₀ z) (deck_in row₁ (with_cells z n₁)) z.reordering z.talls (pos_in row₀)
    (pos_in row₁) I old new table

abbrev pub RowsStages : List ℕ → List ℕ → Sizes → ℕ → List ℕ → List ℕ → Type 0
RowsStages row₀ row₁ z n₁ old new =
    StagesDone (deck_in row₀ z) (deck_in row₁ (with_cells z n₁)) z.reordering z.talls (pos_in row₀)
    (pos_in row₁) old new
