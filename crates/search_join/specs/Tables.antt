-- The case tables and the costs of a stage as words of the store, and what joining them leaves.
use Rattle.std.specs.Prelude.{ℕ, suc, ◌+◌, ◌/◌, ◌%◌, ◌≤◌, ◌<◌, ◌≡◌, List, length, get_or}
use Rattle.definition.specs.Job.{max_tall}
use Rattle.search_store.specs.Map.{case_at, pointer_at, costs_at, Pages, Slot, pointer_row₀, pointer_row₁}
use Rattle.search_store.specs.Map.{max_lanes, max_poses}
use Rattle.theory_tables.specs.Steps.{B, Cases, SegmentCosts, next_cases}
use Rattle.search_lanes.specs.Store.{Low, layer_in}
use Rattle.search_join.specs.declared.Case.{Case}

-- case table I, its sources, and the costs of a row
unfoldable pub cases_in : List ℕ → ℕ → Cases
cases_in st I q₀ q₁ a = get_or st (case_at I q₀ q₁ + a) 0

unfoldable pub pointers_in : List ℕ → ℕ → Cases
pointers_in st I q₀ q₁ a = get_or st (pointer_at I q₀ q₁ + a) 0

unfoldable pub costs_in : List ℕ → ℕ → SegmentCosts
costs_in st row s l q a = layer_in st (costs_at row s) l q a

-- a case and its source are as they were; and those of all tables
pub record SameCase (I q₀ q₁ a : ℕ) (old new : List ℕ) : Type 0 where
  pub case : cases_in new I q₀ q₁ a ≡ cases_in old I q₀ q₁ a
  pub source : pointers_in new I q₀ q₁ a ≡ pointers_in old I q₀ q₁ a

abbrev pub SameTables : List ℕ → List ℕ → Type 0
SameTables old new = (I q₀ q₁ a : ℕ) → Slot I q₀ q₁ a → SameCase I q₀ q₁ a old new

-- the store has the pages of so many start states: their cases in table I and their costs
pub record Table (starts lanes I : ℕ) (st : List ℕ) : Type 0 where
  pub states : starts ≤ 12
  pub few : lanes ≤ max_lanes
  pub stage : I ≤ max_tall
  pub long : Pages starts st
  pub low : Low st

-- ---- the code of a case: s and t its states in row 0 and row 1, l its pose or lane

-- s * pointer_row₀ + t * pointer_row₁ + l, below
abbrev pub pointer_end : ℕ
pointer_end = 9216

abbrev pub case_state₀ : ℕ → ℕ
case_state₀ code = code / pointer_row₀

abbrev pub case_state₁ : ℕ → ℕ
case_state₁ code = code % pointer_row₀ / pointer_row₁

abbrev pub case_pose : ℕ → ℕ
case_pose code = code % pointer_row₁

-- a case that the map has a place for
pub record CaseFits (case : Case) : Type 0 where
  pub state₀ : case.q0 < 12
  pub state₁ : case.q1 < 12
  pub pose : case.pose < max_poses

-- ---- the least of some costs, and where it is

-- `value` is the least cost; if that is below B, `code` says where it is, as W has it
pub record Least (least : ℕ) (W : ℕ → ℕ → Type 0) (value code : ℕ) : Type 0 where
  pub right : value ≡ least
  pub found : value < B → W value code
  pub small : code < pointer_end

-- place r below n has that cost
abbrev pub MetAt : (ℕ → ℕ) → ℕ → ℕ → ℕ → Type 0
MetAt h n cost r = (r < n) × (h r ≡ cost)

-- ---- a way to the case (q₀, q₁, a)

-- by the states s and t and lane l, which its code says
pub record Way (starts lanes : ℕ) (f : Cases) (x₀ x₁ : SegmentCosts) (q₀ q₁ a value code : ℕ) : Type 0 where
  pub state₀ : case_state₀ code < starts
  pub state₁ : case_state₁ code < starts
  pub lane : case_pose code < lanes
  pub sum : value ≡ f (case_state₀ code) (case_state₁ code) (case_pose code)
      + (x₀ (case_state₀ code) (case_pose code) q₀ a + x₁ (case_state₁ code) (case_pose code) q₁ a)

-- the same of case table I and the costs in the store
abbrev pub WayIn : ℕ → ℕ → ℕ → List ℕ → ℕ → ℕ → ℕ → ℕ → ℕ → Type 0
WayIn starts lanes I st = Way starts lanes (cases_in st I) (costs_in st 0) (costs_in st 1)

abbrev pub next_in : ℕ → ℕ → ℕ → List ℕ → Cases
next_in starts lanes I st = next_cases starts lanes (cases_in st I) (costs_in st 0) (costs_in st 1)

-- ---- a stage joined: case table I + 1 and its sources

-- one case; those of a state of row 0 in a pose, of a state of row 0, of all
-- states: states of row 1 below m, poses below n
abbrev pub OneCase : ℕ → ℕ → ℕ → ℕ → ℕ → ℕ → Type 0
OneCase p₀ p₁ b q₀ q₁ a = (q₀ ≡ p₀) × (q₁ ≡ p₁) × (a ≡ b)

abbrev pub PoseCases : ℕ → ℕ → ℕ → ℕ → ℕ → ℕ → Type 0
PoseCases p₀ m b q₀ q₁ a = (q₀ ≡ p₀) × (q₁ < m) × (a ≡ b)

abbrev pub BlockCases : ℕ → ℕ → ℕ → ℕ → ℕ → ℕ → Type 0
BlockCases p₀ m n q₀ q₁ a = (q₀ ≡ p₀) × (q₁ < m) × (a < n)

abbrev pub StageCases : ℕ → ℕ → ℕ → ℕ → ℕ → ℕ → Type 0
StageCases k m n q₀ q₁ a = (q₀ < k) × (q₁ < m) × (a < n)

-- not the place of a case P of table I, nor of its source
abbrev pub Elsewhere : ℕ → (ℕ → ℕ → ℕ → Type 0) → ℕ → Type 0
Elsewhere I P k = (q₀ q₁ a : ℕ) → P q₀ q₁ a → (k ≡ case_at I q₀ q₁ + a → ⊥) × (k ≡ pointer_at I q₀ q₁ + a → ⊥)

-- the cases P of table I + 1 and their sources are right, every other word is as it was
pub record CasesMade (starts lanes I : ℕ) (P : ℕ → ℕ → ℕ → Type 0) (old new : List ℕ) : Type 0 where
  pub long : length new ≡ length old
  pub low : Low new
  pub kept : (k : ℕ) → Elsewhere (suc I) P k → get_or new k 0 ≡ get_or old k 0
  pub done : (q₀ q₁ a : ℕ) → P q₀ q₁ a
      → Least
      (next_in starts lanes I old q₀ q₁ a)
      (WayIn starts lanes I old q₀ q₁ a)
      (cases_in new (suc I) q₀ q₁ a)
      (pointers_in new (suc I) q₀ q₁ a)

-- the whole of it, for the ends and poses asked for
pub record Joined (starts lanes ends poses I : ℕ) (old new : List ℕ) : Type 0 where
  pub long : length new ≡ length old
  pub low : Low new
  -- the other tables are kept
  pub tables : (J q₀ q₁ a : ℕ) → (J ≡ suc I → ⊥) → Slot J q₀ q₁ a → SameCase J q₀ q₁ a old new
  pub done : (q₀ q₁ a : ℕ) → q₀ < ends → q₁ < ends → a < poses
      → Least
      (next_in starts lanes I old q₀ q₁ a)
      (WayIn starts lanes I old q₀ q₁ a)
      (cases_in new (suc I) q₀ q₁ a)
      (pointers_in new (suc I) q₀ q₁ a)

-- what it takes, with the cases of so many ends in so many poses
pub record JoinGiven (starts lanes ends poses I : ℕ) (st : List ℕ) : Type 0 where
  pub table : Table starts lanes I st
  pub pages : Pages ends st
  pub last : ends ≤ 12
  pub offered : poses ≤ max_poses

-- ---- lanes closed: no case goes by them

-- so many pages, of whose cases of `ends` states of row 1 the lanes from `low` to `high` are to be closed
pub record Closing (I pages ends low high : ℕ) (st : List ℕ) : Type 0 where
  pub fits : Low st
  pub long : Pages pages st
  pub table : I ≤ 25
  pub states : pages ≤ 12
  pub few : ends ≤ 12
  pub order : low ≤ high
  pub narrow : high ≤ max_lanes

-- one state of both rows; those of a state of row 0; all states: states of row 1 below m
abbrev pub OneState : ℕ → ℕ → ℕ → ℕ → Type 0
OneState p₀ p₁ q₀ q₁ = (q₀ ≡ p₀) × (q₁ ≡ p₁)

abbrev pub StateWith : ℕ → ℕ → ℕ → ℕ → Type 0
StateWith p₀ m q₀ q₁ = (q₀ ≡ p₀) × (q₁ < m)

abbrev pub AllStates : ℕ → ℕ → ℕ → ℕ → Type 0
AllStates k m q₀ q₁ = (q₀ < k) × (q₁ < m)

-- the lanes from `low` to `high` of the states P of table I are NONE, every other case and source is as it was
pub record Closed (I low high : ℕ) (P : ℕ → ℕ → Type 0) (old new : List ℕ) : Type 0 where
  pub long : length new ≡ length old
  pub fits : Low new
  pub kept : (J q₀ q₁ a : ℕ) → Slot J q₀ q₁ a → (J ≡ I → P q₀ q₁ → low ≤ a → ⊥) → SameCase J q₀ q₁ a old new
  pub none : (q₀ q₁ l : ℕ) → P q₀ q₁ → low ≤ l → l < high → cases_in new I q₀ q₁ l ≡ B
