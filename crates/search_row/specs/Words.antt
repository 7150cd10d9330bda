-- A row and the states as words: what the search reads, and the deck that they stand for.
use Rattle.std.specs.Prelude.{ℕ, suc, ◌+◌, ◌-◌, ◌*◌, ◌/◌, ◌%◌, ◌≤◌, ◌<◌, ◌≡◌, Bool, ◌&&◌, cond, List, length, get_or, leb, ltb, eqb}
use Rattle.definition.specs.Job.{max_cells, max_tall, max_reordering}
use Rattle.definition.specs.Rules.{is_forbidden}
use Rattle.definition.specs.Cost.{charge}
use Rattle.theory_tables.specs.Steps.{B, Deck, state_count, offset, marks, before, last_at, pose_slots}
use Rattle.search_store.specs.Map.{max_poses}
use Rattle.search_row.specs.declared.Sizes.{Sizes}

-- The words of a row: those of its cells, then those of the states, then the positions of its tall cells.
abbrev pub cell_words : ℕ
cell_words = 128

abbrev pub states_from : ℕ
states_from = 8192

abbrev pub states_end : ℕ
states_end = 8240

abbrev pub talls_from : ℕ
talls_from = 8256

abbrev pub row_length : ℕ
row_length = 8288

-- The words of a cell: first what it costs by pose (B: not offered); then the site of its pose number 0, with D added;
-- the widths of its layouts, whether it is tall; by variant (2 layout + mark) its heights left P, left N, right P,
-- right N; the weight of a step where it touches the cell on its left, its number, and the weight of a filled step
-- there; the site where it may not stand as the first of its row, and the end that it may not have as the last,
-- both with D added.
abbrev pub first_word : ℕ
first_word = 64

abbrev pub width_word : ℕ
width_word = 65

abbrev pub tall_word : ℕ
tall_word = 67

abbrev pub left_p : ℕ
left_p = 68

abbrev pub left_n : ℕ
left_n = 72

abbrev pub right_p : ℕ
right_p = 76

abbrev pub right_n : ℕ
right_n = 80

abbrev pub touching_word : ℕ
touching_word = 84

abbrev pub number_word : ℕ
number_word = 85

abbrev pub filled_word : ℕ
filled_word = 86

abbrev pub front_barred : ℕ
front_barred = 87

abbrev pub back_barred : ℕ
back_barred = 88

-- how many words of a cell are in use
abbrev pub words_used : ℕ
words_used = 89

-- Pose a is 4 e + 2 layout + mark, at site given + e - D. Sites are compared with D added to both.
abbrev pub word_of : List ℕ → ℕ → ℕ → ℕ
word_of row k i = get_or row (k * cell_words + i) 0

abbrev pub variant : ℕ → ℕ
variant a = a % 4

-- the left site of pose a, and the first site right of pose b; both with D added
abbrev pub site_in : List ℕ → ℕ → ℕ → ℕ
site_in row k a = word_of row k first_word + a / 4

abbrev pub end_in : List ℕ → ℕ → ℕ → ℕ
end_in row k b = site_in row k b + word_of row k (width_word + variant b / 2)

-- how many of the heights differ where pose b of k has pose a of m on its right
abbrev pub differ_in : List ℕ → ℕ → ℕ → ℕ → ℕ → ℕ
differ_in row k b m a =
    cond (eqb (word_of row k (right_p + variant b)) (word_of row m (left_p + variant a))) 0 1
    + cond (eqb (word_of row k (right_n + variant b)) (word_of row m (left_n + variant a))) 0 1

-- the weight of a step between m and the cell on its left, by the gap between them (A7)
abbrev pub weight_in : List ℕ → ℕ → ℕ → ℕ
weight_in row m gap = cond (eqb gap 0) (word_of row m touching_word) (word_of row m filled_word)

-- what the right one's left site x and the left one's end y make of what they pay by their gap
abbrev pub toll_at : ℕ → ℕ → (ℕ → ℕ) → ℕ
toll_at x y pay = cond (ltb x y) B (cond (is_forbidden (x - y)) B (charge (x - y) * pay (x - y)))

unfoldable pub toll_in : List ℕ → ℕ → ℕ → ℕ → ℕ → ℕ
toll_in row k b m a = toll_at (site_in row m a) (end_in row k b) (λ gap. weight_in row m gap * differ_in row k b m a)

-- what a cell pays as the first of its row, and as the last: nothing, but where it is barred
abbrev pub end_toll : ℕ → ℕ → ℕ
end_toll at barred = cond (eqb at barred) B 0

unfoldable pub front_in : List ℕ → ℕ → ℕ → ℕ
front_in row k a = end_toll (site_in row k a) (word_of row k front_barred)

unfoldable pub back_in : List ℕ → ℕ → ℕ → ℕ
back_in row k a = end_toll (end_in row k a) (word_of row k back_barred)

abbrev pub deck_of : List ℕ → ℕ → ℕ → Deck
deck_of row n poses =
    record {
      size = n;
      poses = poses;
      own = λ k a. word_of row k a;
      toll = toll_in row;
      tall = λ k. eqb (word_of row k tall_word) 1;
      front = front_in row;
      back = back_in row;
    }

-- with i cells placed, the row of n cells has the last of them, that of state q; so it is with every deck of n cells
abbrev pub there_in : ℕ → ℕ → ℕ → ℕ → Bool
there_in n R i q = leb (suc R) (i + offset R q) && ltb (last_at R i q) n

-- the words of the states, after those of the cells: state q has four, its digit, its marks, and the marks before
abbrev pub state_at : ℕ → ℕ
state_at q = states_from + q * 4

pub record StateWords (R : ℕ) (row : List ℕ) : Type 0 where
  pub reorder : R ≤ max_reordering
  pub few : state_count R ≤ 12
  pub small : (q : ℕ) → q < state_count R → offset R q ≤ 4
  pub long : states_end ≤ length row
  pub digit : (q : ℕ) → q < state_count R → get_or row (state_at q) 0 ≡ offset R q
  pub mark : (q : ℕ) → q < state_count R → get_or row (state_at q + 1) 0 ≡ marks R q
  pub earlier : (q : ℕ) → q < state_count R → get_or row (state_at q + 2) 0 ≡ before R q

-- a row's words: none is over B, and the step weights are so small that what is paid stays below it (document 01 has
-- weights up to 1,000; a request that ranks equal costs, A14, is to scale them by 128)
pub record RowWords (row : List ℕ) : Type 0 where
  pub long : row_length ≤ length row
  pub word : (k : ℕ) → get_or row k 0 ≤ B
  pub weight : (k : ℕ) → word_of row k touching_word ≤ 131072
  pub filled : (k : ℕ) → word_of row k filled_word ≤ 131072

-- the row as the tables' numbers
abbrev pub deck_in : List ℕ → Sizes → Deck
deck_in row z = deck_of row z.cells z.poses

-- where its tall cells stand: their words come after those of the states
unfoldable pub pos_in : List ℕ → ℕ → ℕ
pos_in row I = get_or row (talls_from + I) 0

-- the sizes of a row with another number of cells
abbrev pub with_cells : Sizes → ℕ → Sizes
with_cells z n =
    record { cells = n; poses = z.poses; reordering = z.reordering; states = z.states; talls = z.talls }

-- what every function of the search is given: a row's words and its sizes
pub record Ground (row : List ℕ) (z : Sizes) : Type 0 where
  pub size : z.cells ≤ max_cells
  pub few : z.poses ≤ max_poses
  pub all : z.states ≡ state_count z.reordering
  pub words : RowWords row
  pub coded : StateWords z.reordering row

-- a row: its words, and its tall cells' positions
pub record RowGiven (row : List ℕ) (z : Sizes) : Type 0 where
  pub grounded : Ground row z
  pub few : z.talls ≤ max_tall
  pub inside : (I : ℕ) → I < z.talls → pos_in row I < z.cells

-- ---- what the functions that read a row are given

-- state q is one of the row's; i, a count of cells or a position, is so small that a digit can be added
pub record StateKnown (row : List ℕ) (R i q : ℕ) : Type 0 where
  pub words : StateWords R row
  pub state : q < state_count R
  pub few : i ≤ 100

-- state q with one cell more than i, whose sources are looked for
pub record TargetGiven (row : List ℕ) (z : Sizes) (i q : ℕ) : Type 0 where
  pub grounded : Ground row z
  pub state : q < z.states
  pub early : i ≤ 100

-- and state q of the layer with i cells, if it is one
pub record SourceAsked (row : List ℕ) (z : Sizes) (i q₁ q : ℕ) : Type 0 where
  pub target : TargetGiven row z i q₁
  pub source : q < z.states

-- tall cell i
pub record TallAt (row : List ℕ) (i : ℕ) : Type 0 where
  pub words : RowWords row
  pub few : i < 32

-- the cell at position m
pub record CellAt (row : List ℕ) (m : ℕ) : Type 0 where
  pub words : RowWords row
  pub cell : m < max_cells

-- the cell at position k in pose a
pub record PoseAt (row : List ℕ) (k a : ℕ) : Type 0 where
  pub words : RowWords row
  pub cell : k < max_cells
  pub pose : a < pose_slots

-- two neighbours, the left one at position k in pose b, the right one at position m in pose a
pub record NeighbourPoses (row : List ℕ) (k b m a : ℕ) : Type 0 where
  pub left : PoseAt row k b
  pub right : PoseAt row m a
