-- What a loop over the lanes of a row is given, and what it leaves.
use Rattle.std.specs.Prelude.{ℕ, ◌+◌, ◌≤◌, ◌<◌, min, ◌≡◌, List, length, get_or}
use Rattle.theory_tables.specs.Steps.{B}
use Rattle.search_store.specs.Map.{max_lanes}
use Rattle.search_lanes.specs.Store.{Low, StoreWords}

-- a word for each lane, none over B
pub record LaneWords (words : List ℕ) : Type 0 where
  pub long : length words ≡ max_lanes
  pub low : Low words

-- a word for each lane; for the lanes in use a row of the store at `at`, and a cost to add
pub record LaneRow (acc st : List ℕ) (at cost lanes : ℕ) : Type 0 where
  pub word : LaneWords acc
  pub row : StoreWords st at lanes
  pub narrow : lanes ≤ max_lanes
  pub small : cost ≤ B

-- the lanes below `lanes` are lowered to f's, the others as they were
pub record Lowered (f : ℕ → ℕ) (lanes : ℕ) (old new : List ℕ) : Type 0 where
  pub long : length new ≡ length old
  pub done : (k : ℕ) → k < lanes → get_or new k 0 ≡ min (get_or old k 0) (f k)
  pub rest : (k : ℕ) → lanes ≤ k → get_or new k 0 ≡ get_or old k 0

-- a row's words, each with a charge
abbrev pub charged : List ℕ → ℕ → ℕ → ℕ → ℕ
charged row at charge l = get_or row (at + l) 0 + charge

-- a lane with the cell's own cost, capped
abbrev pub with_own : ℕ → List ℕ → ℕ → ℕ
with_own own acc l = min (own + get_or acc l 0) B

-- the same word everywhere
abbrev pub always : ℕ → ℕ → ℕ
always x k = x

-- the words from a place on
abbrev pub words_from : List ℕ → ℕ → ℕ → ℕ
words_from st at k = get_or st (at + k) 0

-- the same by rows of lanes
abbrev pub always_rows : ℕ → ℕ → ℕ → ℕ
always_rows x a l = x
