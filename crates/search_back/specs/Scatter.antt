-- From a row's path to pose numbers by cell number: what is given, and what is left.
use Rattle.std.specs.Prelude.{ℕ, ◌/◌, ◌%◌, ◌≤◌, ◌<◌, ◌≡◌, List, length, get_or}
use Rattle.definition.specs.Job.{max_cells}
use Rattle.theory_tables.specs.Steps.{pose_slots}
use Rattle.search_row.specs.Words.{word_of, RowWords, number_word}
use Rattle.theory_traceback.specs.Words.{Places}

-- the number of the cell at place i of a path, and its pose number
abbrev pub cell_at : List ℕ → List ℕ → ℕ → ℕ
cell_at row path i = word_of row (get_or path i 0 / pose_slots) number_word

abbrev pub pose_at : List ℕ → ℕ → ℕ
pose_at path i = get_or path i 0 % pose_slots

-- a row's path: each place has another position of the row, and no two positions have the same number
pub record ScatterGiven (row path out : List ℕ) (n : ℕ) : Type 0 where
  pub words : RowWords row
  pub size : n ≤ max_cells
  pub room : n < length path
  pub poses : ℕ
  pub places : Places n poses (λ i. get_or path i 0)
  pub small : (k : ℕ) → k < n → word_of row k number_word < length out
  pub apart : (k m : ℕ) → k < n → m < n → word_of row k number_word ≡ word_of row m number_word → k ≡ m

-- the places below m have their pose numbers, and nothing else is changed
pub record ScatteredBelow (row path : List ℕ) (m : ℕ) (old new : List ℕ) : Type 0 where
  pub long : length new ≡ length old
  pub done : (i : ℕ) → 0 < i → i < m → get_or new (cell_at row path i) 0 ≡ pose_at path i
  pub kept : (c : ℕ) → ((i : ℕ) → 0 < i → i < m → cell_at row path i ≡ c → ⊥) → get_or new c 0 ≡ get_or old c 0

-- all n places
pub record Scattered (row path : List ℕ) (n : ℕ) (old new : List ℕ) : Type 0 where
  pub long : length new ≡ length old
  pub done : (i : ℕ) → 0 < i → i ≤ n → get_or new (cell_at row path i) 0 ≡ pose_at path i
  pub kept : (c : ℕ) → ((i : ℕ) → 0 < i → i ≤ n → cell_at row path i ≡ c → ⊥) → get_or new c 0 ≡ get_or old c 0
