-- The trace: from the last case table's one case back over the back pointers, both rows traced stage by stage.
use Rattle.std.specs.Prelude.{ℕ, suc, ◌+◌, ◌≤◌, ◌<◌, ◌≡◌, List, length, Option, None, Some}
use Rattle.definition.specs.Job.{max_tall}
use Rattle.search_store.specs.Map.{Pages, pages_from, max_kept}
use Rattle.search_row.specs.Words.{deck_in, pos_in, with_cells}
use Rattle.search_row.specs.declared.Sizes.{Sizes}
use Rattle.theory_tables.specs.Steps.{B, Deck, state_count, pose_slots}
use Rattle.theory_tables.specs.Stages.{stage_cost, case_table}
use Rattle.theory_tables.specs.Back.{StageTraced, Traced}
use Rattle.theory_tables.specs.Notes.{NotedBy}
use Rattle.search_lanes.specs.Store.{Frame, Low}
use Rattle.search_join.specs.declared.Case.{Case}
use Rattle.search_join.specs.Tables.{case_state₀, case_state₁, case_pose, pointers_in, Way}
use Rattle.search_stage.specs.Stage.{wide, StagesGiven, StagesDone}
use Rattle.search_back_segment.specs.Traces.{word_at}
use Rattle.search_back_stage.specs.Rows.{start_cells, start_layer, start_end, cost_from, end_place}

-- ---- what is given

-- a case of stage I
pub record CaseOf (R talls poses I q₀ q₁ a : ℕ) : Type 0 where
  pub state₀ : q₀ < wide talls (suc I) (state_count R)
  pub state₁ : q₁ < wide talls (suc I) (state_count R)
  pub pose : a < wide talls (suc I) poses

-- its back pointer is in the store
pub record PointerRoom (I q₀ q₁ a : ℕ) (st : List ℕ) : Type 0 where
  pub stage : I ≤ max_tall
  pub state₀ : q₀ < 12
  pub state₁ : q₁ < 12
  pub pose : a < pose_slots
  pub page : Pages (q₀ + 1) st

-- the case that a pointer stands for, if it stands for one
abbrev pub CaseFound : ℕ → Sizes → Option Case → Type 0
CaseFound code z None =
    case_state₀ code < z.states → case_state₁ code < z.states → case_pose code < z.poses → ⊥
CaseFound code z (Some c) =
    (c ≡ record { q0 = case_state₀ code; q1 = case_state₁ code; pose = case_pose code })
    × (case_state₀ code < z.states)
    × (case_state₁ code < z.states)
    × (case_pose code < z.poses)

-- the back pointers: a way to each case after the first tall cell's, where it is below B
pub record Ways (D₀ D₁ : Deck) (R talls : ℕ) (pos₀ pos₁ : ℕ → ℕ) (st : List ℕ) : Type 0 where
  pub way : (I q₀ q₁ a : ℕ) → I < talls → CaseOf R talls D₀.poses (suc I) q₀ q₁ a
      → case_table D₀ D₁ R talls pos₀ pos₁ (suc I) q₀ q₁ a < B
      → Way
      (state_count R)
      D₀.poses
      (case_table D₀ D₁ R talls pos₀ pos₁ I)
      (stage_cost D₀ R talls pos₀ I)
      (stage_cost D₁ R talls pos₁ I)
      q₀
      q₁
      a
      (case_table D₀ D₁ R talls pos₀ pos₁ (suc I) q₀ q₁ a)
      (pointers_in st (suc (suc I)) q₀ q₁ a)

-- the stages leave them
pub stages_ways : {D₀ D₁ : Deck} {R talls : ℕ} {pos₀ pos₁ : ℕ → ℕ} {old new : List ℕ}
    → StagesDone D₀ D₁ R talls pos₀ pos₁ old new → Ways D₀ D₁ R talls pos₀ pos₁ new
stages_ways d = record { way = λ I q₀ q₁ a h c. d.way I q₀ q₁ a h c.state₀ c.state₁ c.pose }

-- two rows with the tables, and a path for each row
pub record Both (row₀ row₁ st path₀ path₁ : List ℕ) (z : Sizes) (n₁ : ℕ) : Type 0 where
  pub given : StagesGiven row₀ row₁ st z n₁
  pub room₀ : max_kept < length path₀
  pub room₁ : max_kept < length path₁

-- stage I to the case (q₀, q₁, a), from tall cell I - 1 as the states s and t in pose l
pub record LegGiven (row₀ row₁ st path₀ path₁ : List ℕ) (z : Sizes) (n₁ I s t l q₀ q₁ a : ℕ) : Type 0 where
  pub both : Both row₀ row₁ st path₀ path₁ z n₁
  pub stage : I ≤ z.talls
  pub state₀ : 0 < I → s < state_count z.reordering
  pub state₁ : 0 < I → t < state_count z.reordering
  pub pose : 0 < I → l < z.poses
  pub case : CaseOf z.reordering z.talls z.poses I q₀ q₁ a

-- a case of stage I
pub record Trace (row₀ row₁ st path₀ path₁ : List ℕ) (z : Sizes) (n₁ I q₀ q₁ a : ℕ) : Type 0 where
  pub both : Both row₀ row₁ st path₀ path₁ z n₁
  pub stage : I ≤ z.talls
  pub case : CaseOf z.reordering z.talls z.poses I q₀ q₁ a

-- ---- what is left

module _ (D₀ D₁ : Deck) (R talls : ℕ) (pos₀ pos₁ : ℕ → ℕ) where
  -- both rows are traced through stage I, where it has a cost; the tables are kept
  pub record LegDone (I s t l q₀ q₁ a : ℕ) (st st' path₀ path₀' path₁ path₁' : List ℕ) : Type 0 where
    pub frame : Frame 0 pages_from st st'
    pub low : Low st'
    pub notes₀ : Frame (start_cells R pos₀ I s) (suc (end_place D₀.size R talls pos₀ I q₀)) path₀ path₀'
    pub notes₁ : Frame (start_cells R pos₁ I t) (suc (end_place D₁.size R talls pos₁ I q₁)) path₁ path₁'
    pub traced₀ : cost_from D₀ R talls pos₀ I s l q₀ a < B
        → StageTraced D₀ R talls pos₀ (NotedBy (word_at path₀')) I (start_layer D₀ R pos₀ I s l) (start_cells R pos₀ I s)
        (start_end D₀ pos₀ I l) q₀ a
    pub traced₁ : cost_from D₁ R talls pos₁ I t l q₁ a < B
        → StageTraced D₁ R talls pos₁ (NotedBy (word_at path₁')) I (start_layer D₁ R pos₁ I t l) (start_cells R pos₁ I t)
        (start_end D₁ pos₁ I l) q₁ a

  -- both rows are traced through all stages up to stage I
  pub record TracedTo (I q₀ q₁ a : ℕ) (path₀ path₀' path₁ path₁' : List ℕ) : Type 0 where
    pub notes₀ : Frame 1 (suc (end_place D₀.size R talls pos₀ I q₀)) path₀ path₀'
    pub notes₁ : Frame 1 (suc (end_place D₁.size R talls pos₁ I q₁)) path₁ path₁'
    pub traced : Traced D₀ D₁ R talls pos₀ pos₁ (NotedBy (word_at path₀')) (NotedBy (word_at path₁')) I q₀ q₁ a

  -- the tables are kept, whatever they are; if their sources are ways, and the case has a cost, it is traced
  pub record TraceDone (I q₀ q₁ a : ℕ) (st st' path₀ path₀' path₁ path₁' : List ℕ) : Type 0 where
    pub frame : Frame 0 pages_from st st'
    pub low : Low st'
    pub long₀ : length path₀' ≡ length path₀
    pub long₁ : length path₁' ≡ length path₁
    pub done : Ways D₀ D₁ R talls pos₀ pos₁ st → case_table D₀ D₁ R talls pos₀ pos₁ I q₀ q₁ a < B
        → TracedTo I q₀ q₁ a path₀ path₀' path₁ path₁'

-- ---- what is left, by the rows' words

abbrev pub RowsLeg : List ℕ → List ℕ → Sizes → ℕ → ℕ → ℕ → ℕ → ℕ → ℕ → ℕ → ℕ → List ℕ → List ℕ → List ℕ → List ℕ
    → List ℕ → List ℕ → Type 0
RowsLeg row₀ row₁ z n₁ =
    LegDone (deck_in row₀ z) (deck_in row₁ (with_cells z n₁)) z.reordering z.talls (pos_in row₀) (pos_in row₁)

abbrev pub RowsTrace : List ℕ → List ℕ → Sizes → ℕ → ℕ → ℕ → ℕ → ℕ → List ℕ → List ℕ → List ℕ → List ℕ → List ℕ
    → List ℕ → Type 0
RowsTrace row₀ row₁ z n₁ =
    TraceDone (deck_in row₀ z) (deck_in row₁ (with_cells z n₁)) z.reordering z.talls (pos_in row₀) (pos_in row₁)
