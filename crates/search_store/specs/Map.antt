-- The map of the store. A layer is a block: twelve states, each with a row of lanes for each place for a pose. Two
-- layers stand at its start, then the layers of a segment in one lane, kept one after the other; then a page for each
-- state, which has its segment costs as a start state in both rows, and the cases and back pointers of the tables in
-- which it is row 0's state.
use Rattle.std.specs.Prelude.{ℕ, ◌+◌, ◌*◌, ◌≤◌, ◌<◌, ◌⊎◌, List, length}
use Rattle.theory_tables.specs.Steps.{pose_slots}

-- the words of a row of a table: one for each lane
abbrev pub max_lanes : ℕ
max_lanes = 64

-- so many pose numbers a cell can have
abbrev pub max_poses : ℕ
max_poses = 60

-- the words of a state in a layer, and of a layer
abbrev pub state_block : ℕ
state_block = 4096

abbrev pub layer_block : ℕ
layer_block = 49152

-- where the flags of a state's rows stand in its block: one for each pose, behind the rows
abbrev pub flags_from : ℕ
flags_from = 3840

-- where the two layers end and the kept ones begin, and the words of one of these
abbrev pub kept_from : ℕ
kept_from = 98304

abbrev pub kept_layer : ℕ
kept_layer = 768

-- so many layers can be kept
abbrev pub max_kept : ℕ
max_kept = 66

-- where layer i is kept, which has at least one cell: state q has pose_slots words, one for each pose
abbrev pub kept_at : ℕ → ℕ
kept_at i = 97536 + i * kept_layer

-- where the pages begin, and the words of a page
abbrev pub pages_from : ℕ
pages_from = 148992

abbrev pub page_words : ℕ
page_words = 138240

-- the page of state p
abbrev pub page_at : ℕ → ℕ
page_at p = pages_from + p * page_words

-- the costs of start state s in a row
abbrev pub costs_at : ℕ → ℕ → ℕ
costs_at row s = page_at s + row * layer_block

-- the cases of the states q₀ and q₁ in table I, and their back pointers
abbrev pub case_at : ℕ → ℕ → ℕ → ℕ
case_at I q₀ q₁ = 247296 + q₀ * page_words + q₁ * 1664 + I * pose_slots

abbrev pub pointer_at : ℕ → ℕ → ℕ → ℕ
pointer_at I q₀ q₁ = case_at I q₀ q₁ + 19968

-- a back pointer: so much for each state of row 0, so much for each of row 1, and the pose
abbrev pub pointer_row₀ : ℕ
pointer_row₀ = 768

abbrev pub pointer_row₁ : ℕ
pointer_row₁ = pose_slots

-- the store has so many pages
abbrev pub Pages : ℕ → List ℕ → Type 0
Pages n st = page_at n ≤ length st

-- the map has a row of cases of these states in table I
pub record CaseRow (I q₀ q₁ : ℕ) : Type 0 where
  pub table : I ≤ 25
  pub state₀ : q₀ ≤ 12
  pub state₁ : q₁ ≤ 12

-- the map has a row of costs of start state s in a row of cells, to state q in pose a
pub record CostRow (row s q a : ℕ) : Type 0 where
  pub side : row ≤ 1
  pub start : s ≤ 12
  pub state : q ≤ 12
  pub pose : a ≤ pose_slots

-- there is such a case in the map
abbrev pub Slot : ℕ → ℕ → ℕ → ℕ → Type 0
Slot I q₀ q₁ a = (I ≤ 25) × (q₀ < 12) × (q₁ < 12) × (a < pose_slots)

-- a word outside the costs that begin at `costs`
abbrev pub OutsideCosts : ℕ → ℕ → Type 0
OutsideCosts costs k = (k < costs) ⊎ (costs + layer_block ≤ k)

-- ---- beside the store

-- the rows of a bucket, by the end site of a source; and its words, in all lanes
abbrev pub bucket_rows : ℕ
bucket_rows = 19

abbrev pub bucket_words : ℕ
bucket_words = 1216

-- the table in which the sources of a state are gathered: 9 buckets
abbrev pub table_words : ℕ
table_words = 10944
