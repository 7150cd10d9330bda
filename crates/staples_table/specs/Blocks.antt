-- The table: a block of words for each pair of counts of placed cells, in it a word for each pair of site numbers of
-- the two last cells.
use Rattle.std.specs.Prelude.{ℕ, suc, ◌+◌, ◌-◌, ◌*◌, ◌≤◌, ◌<◌, min, ◌≡◌, List, length, get_or}
use Rattle.definition.specs.Job.{max_cells}
use Rattle.theory_tables.specs.Steps.{B}
use Rattle.theory_cover.specs.Recurrence.{fewest}
use Rattle.search_lanes.specs.Store.{Frame, Low}
use Rattle.staples_ways.specs.Words.{max_numbers, file_row, FileWords, LastStands}
use Rattle.staples_ways.specs.Ways.{ways_words, all_ways, found_among}
use Rattle.staples_table.specs.declared.Looks.{Looks}
use Rattle.staples_table.specs.declared.RowCounts.{RowCounts}

-- the words of a block; the block of p cells of row 0 and q of row 1
abbrev pub block_words : ℕ
block_words = 225

abbrev pub block_at : ℕ → ℕ → ℕ
block_at p q = (p * 65 + q) * block_words

-- the word of site numbers t and u in it
abbrev pub block_word : List ℕ → ℕ → ℕ → ℕ → ℕ
block_word st at t u = get_or st (at + t * max_numbers + u) 0

-- what both rows' next cells come to
abbrev pub lesser_way : List ℕ → List ℕ → Looks → ℕ → ℕ → ℕ
lesser_way ways₀ ways₁ k t u =
    min (found_among ways₀ (u * ways_words) k.numbers (k.end0 + t) k.first0)
    (found_among ways₁ (t * ways_words) k.numbers (k.end1 + u) k.first1)

-- both rows, of no more than 64 cells
pub record TwoRows (row₀ row₁ : List ℕ) (k : RowCounts) : Type 0 where
  pub first : FileWords row₀ k.cells0 k.limit
  pub second : FileWords row₁ k.cells1 k.limit
  pub few : k.cells0 + k.cells1 ≤ max_cells

-- how many cells are still to come
abbrev pub to_come : RowCounts → ℕ → ℕ → ℕ
to_come k p q = k.cells0 + k.cells1 - (p + q)

-- the block of p and q has the recurrence's numbers, wherever both last cells may stand
abbrev pub BlockRight : List ℕ → List ℕ → RowCounts → ℕ → ℕ → List ℕ → Type 0
BlockRight row₀ row₁ k p q st =
    (t u : ℕ) → t < 2 * k.limit + 1 → u < 2 * k.limit + 1 → LastStands row₀ k.cells0 k.limit p t
    → LastStands row₁ k.cells1 k.limit q u
    → block_word st (block_at p q) t u
    ≡ fewest (file_row row₀ k.cells0 k.limit) (file_row row₁ k.cells1 k.limit) (to_come k p q) p t q u

-- it is made, and no other word is touched
pub record BlockMade (row₀ row₁ : List ℕ) (k : RowCounts) (p q : ℕ) (old new : List ℕ) : Type 0 where
  pub frame : Frame (block_at p q) (block_at p q + block_words) old new
  pub low : Low new
  pub right : BlockRight row₀ row₁ k p q new

-- the blocks of p cells of row 0 are right from q cells of row 1 on
abbrev pub LineRight : List ℕ → List ℕ → RowCounts → ℕ → ℕ → List ℕ → Type 0
LineRight row₀ row₁ k p q st = (r : ℕ) → q ≤ r → r ≤ k.cells1 → BlockRight row₀ row₁ k p r st

-- all blocks are, from p cells of row 0 on
abbrev pub TableRight : List ℕ → List ℕ → RowCounts → ℕ → List ℕ → Type 0
TableRight row₀ row₁ k p st = (r : ℕ) → p ≤ r → r ≤ k.cells0 → LineRight row₀ row₁ k r 0 st

-- they are made, and no other word is touched
pub record LineMade (row₀ row₁ : List ℕ) (k : RowCounts) (p q : ℕ) (old new : List ℕ) : Type 0 where
  pub frame : Frame (block_at p 0) (block_at (suc p) 0) old new
  pub low : Low new
  pub right : LineRight row₀ row₁ k p q new

pub record TableMade (row₀ row₁ : List ℕ) (k : RowCounts) (p : ℕ) (old new : List ℕ) : Type 0 where
  pub long : length new ≡ length old
  pub low : Low new
  pub right : TableRight row₀ row₁ k p new

-- the words of n rows of a block are f's
pub record RowsPut (f : ℕ → ℕ → ℕ) (at n m : ℕ) (old new : List ℕ) : Type 0 where
  pub frame : Frame at (at + block_words) old new
  pub low : Low new
  pub words : (t u : ℕ) → t < n → u < m → block_word new at t u ≡ f t u

-- ---- what the functions are given

pub record WordLooks (ways₀ ways₁ : List ℕ) (k : Looks) (t u : ℕ) : Type 0 where
  pub long₀ : length ways₀ ≡ all_ways
  pub long₁ : length ways₁ ≡ all_ways
  pub low₀ : Low ways₀
  pub low₁ : Low ways₁
  pub few : k.numbers ≤ max_numbers
  pub end₀ : k.end0 ≤ B + B + max_numbers
  pub end₁ : k.end1 ≤ B + B + max_numbers
  pub number₀ : t < max_numbers
  pub number₁ : u < max_numbers

pub record RowLooks (st ways₀ ways₁ : List ℕ) (k : Looks) (at t : ℕ) : Type 0 where
  pub word : WordLooks ways₀ ways₁ k t 0
  pub low : Low st
  pub room : at + k.numbers ≤ length st

pub record BlockLooks (st ways₀ ways₁ : List ℕ) (k : Looks) (at : ℕ) : Type 0 where
  pub word : WordLooks ways₀ ways₁ k 0 0
  pub low : Low st
  pub room : at + block_words ≤ length st

-- the table's words, all blocks of at most 64 cells
abbrev pub blocks_words : ℕ
blocks_words = 950625

-- the block of p and q is to be made, those with one cell more being right
pub record BlockAsked (st row₀ row₁ : List ℕ) (k : RowCounts) (p q : ℕ) : Type 0 where
  pub rows : TwoRows row₀ row₁ k
  pub low : Low st
  pub room : blocks_words ≤ length st
  pub placed₀ : p ≤ k.cells0
  pub placed₁ : q ≤ k.cells1
  pub next₀ : p < k.cells0 → BlockRight row₀ row₁ k (suc p) q st
  pub next₁ : q < k.cells1 → BlockRight row₀ row₁ k p (suc q) st

-- the same where a cell is still to come
pub record NextAsked (st row₀ row₁ : List ℕ) (k : RowCounts) (p q : ℕ) : Type 0 where
  pub block : BlockAsked st row₀ row₁ k p q
  pub some : p + q < k.cells0 + k.cells1

-- both rows, and a store with room for the table
pub record TableAsked (st row₀ row₁ : List ℕ) (k : RowCounts) : Type 0 where
  pub rows : TwoRows row₀ row₁ k
  pub low : Low st
  pub room : blocks_words ≤ length st

-- the blocks of p cells of row 0 are to be made, those of one more being right
pub record LineAsked (st row₀ row₁ : List ℕ) (k : RowCounts) (p : ℕ) : Type 0 where
  pub table : TableAsked st row₀ row₁ k
  pub placed : p ≤ k.cells0
  pub next : p < k.cells0 → LineRight row₀ row₁ k (suc p) 0 st
