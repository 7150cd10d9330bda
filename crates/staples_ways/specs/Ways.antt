-- The ways by a row's next cell, as words: one for each of its site numbers, and behind them the least of those from
-- each number on; what the end of the cell before finds in them.
use Rattle.std.specs.Prelude.{ℕ, suc, ◌+◌, ◌-◌, ◌*◌, ◌≤◌, ◌<◌, min, ◌≡◌, ◌≢◌, cond, List, length, get_or, ltb, eqb}
use Rattle.definition.specs.Job.{max_cells}
use Rattle.theory_tables.specs.Steps.{B}
use Rattle.theory_cover.specs.Runs.{low_from}
use Rattle.search_lanes.specs.Store.{Frame, Low}
use Rattle.search_row.specs.Words.{RowWords}
use Rattle.staples_ways.specs.declared.LastCell.{LastCell}
use Rattle.staples_ways.specs.declared.NextCell.{NextCell}
use Rattle.staples_ways.specs.declared.Rests.{Rests}
use Rattle.staples_ways.specs.Words.{max_numbers, site_of_number, way_in}

-- the words of the ways after one end of the other row's last cell, and of all
abbrev pub ways_words : ℕ
ways_words = 32

abbrev pub all_ways : ℕ
all_ways = 480

-- where the least from number k on stands among them
abbrev pub low_from_at : ℕ
low_from_at = 15

-- what is left to be covered after site number v of the next cell
abbrev pub rest_in : List ℕ → Rests → ℕ → ℕ
rest_in st r v = get_or st (r.at + v * r.step) 0

-- the ways by the next cell
abbrev pub ways_in : List ℕ → List ℕ → NextCell → LastCell → Rests → ℕ → ℕ
ways_in st row next last r v = way_in row next.cells next.placed last (rest_in st r v) v

-- the other row's last cell, u site numbers further right, and what is left then
abbrev pub later_by : LastCell → ℕ → LastCell
later_by last u = record { start = last.start + u; end = last.end + u }

abbrev pub rests_by : Rests → ℕ → ℕ → Rests
rests_by r beside u = record { at = r.at + u * beside; step = r.step }

-- the ways by the next cell, if there is one, after each site number u of the other row's last cell
abbrev pub ahead_in : List ℕ → List ℕ → NextCell → LastCell → Rests → ℕ → ℕ → ℕ → ℕ
ahead_in st row next last r beside u v =
    cond (ltb next.placed next.cells) (ways_in st row next (later_by last u) (rests_by r beside u) v) B

-- from number k on, below n, the words at `to` are those of G
pub record WaysFrom (G : ℕ → ℕ) (n k to : ℕ) (ways : List ℕ) : Type 0 where
  pub word : (v : ℕ) → k ≤ v → v < n → get_or ways (to + v) 0 ≡ G v
  pub least : (v : ℕ) → k ≤ v → v ≤ n + 1 → get_or ways (to + low_from_at + v) 0 ≡ low_from G n v

-- the way x by number v is written before them, and nothing else
pub record WayPut (to v x : ℕ) (old new : List ℕ) : Type 0 where
  pub long : length new ≡ length old
  pub low : Low new
  pub word : get_or new (to + v) 0 ≡ x
  pub least : get_or new (to + low_from_at + v) 0 ≡ min x (get_or old (to + low_from_at + (v + 1)) 0)
  pub other : (k : ℕ) → k ≢ to + v → k ≢ to + low_from_at + v → get_or new k 0 ≡ get_or old k 0

-- they are written there, and nothing else
pub record WaysPut (G : ℕ → ℕ) (n to : ℕ) (old new : List ℕ) : Type 0 where
  pub frame : Frame to (to + ways_words) old new
  pub low : Low new
  pub put : WaysFrom G n 0 to new

-- those after each of m ends are written
pub record AllPut (G : ℕ → ℕ → ℕ) (n m : ℕ) (ways : List ℕ) : Type 0 where
  pub long : length ways ≡ all_ways
  pub low : Low ways
  pub put : (u : ℕ) → u < m → WaysFrom (G u) n 0 (u * ways_words) ways

-- and g is the next cell's first site
pub record Ahead (G : ℕ → ℕ → ℕ) (row : List ℕ) (next : NextCell) (g : ℕ) (ways : List ℕ) : Type 0 where
  pub all : AllPut G next.numbers next.numbers ways
  pub first : next.placed < next.cells → g ≡ site_of_number row next.placed 0
  pub small : g ≤ B

-- what the end a finds, where the next cell's first site is g
abbrev pub found_among : List ℕ → ℕ → ℕ → ℕ → ℕ → ℕ
found_among ways to n a g =
    cond (ltb (suc a) g) (get_or ways (to + low_from_at) 0)
    (cond (eqb (suc a) g) (get_or ways (to + low_from_at + 1) 0)
    (cond (ltb (a - g) n) (min (get_or ways (to + (a - g)) 0) (get_or ways (to + low_from_at + (a - g + 2)) 0)) B))

-- ---- what the functions are given

-- the way x by number v to be put
pub record WayToPut (ways : List ℕ) (to v x : ℕ) : Type 0 where
  pub long : length ways ≡ all_ways
  pub low : Low ways
  pub room : to + ways_words ≤ all_ways
  pub number : v < max_numbers
  pub cost : x ≤ B

-- ways to be put at `to`
pub record WaysToPut (ways st row : List ℕ) (to : ℕ) (next : NextCell) (last : LastCell) (r : Rests) : Type 0 where
  pub long : length ways ≡ all_ways
  pub ways_low : Low ways
  pub room : to + ways_words ≤ all_ways
  pub words : RowWords row
  pub low : Low st
  pub cell : next.placed < max_cells
  pub few : next.numbers ≤ max_numbers
  pub start : last.start ≤ B + B
  pub end : last.end ≤ B + B + B
  pub inside : (v : ℕ) → v < next.numbers → r.at + v * r.step < length st

-- ways at `to` to be looked at from the end a
pub record EndLooks (ways : List ℕ) (to n a g : ℕ) : Type 0 where
  pub long : length ways ≡ all_ways
  pub room : to + ways_words ≤ all_ways
  pub few : n ≤ max_numbers
  pub end : a ≤ B + B + B

-- ways after each end to be put
pub record AllToPut (ways st row : List ℕ) (next : NextCell) (last : LastCell) (r : Rests) (beside : ℕ) : Type 0 where
  pub long : length ways ≡ all_ways
  pub ways_low : Low ways
  pub words : RowWords row
  pub low : Low st
  pub cell : next.placed < max_cells
  pub few : next.numbers ≤ max_numbers
  pub start : last.start ≤ B + max_numbers
  pub end : last.end ≤ B + B + max_numbers
  pub inside : (u v : ℕ) → u < next.numbers → v < next.numbers → r.at + u * beside + v * r.step < length st

-- the same if there is a next cell
pub record AheadAsked (ways st row : List ℕ) (next : NextCell) (last : LastCell) (r : Rests) (beside : ℕ) : Type 0 where
  pub long : length ways ≡ all_ways
  pub ways_low : Low ways
  pub words : RowWords row
  pub low : Low st
  pub placed : next.placed ≤ next.cells
  pub cells : next.cells ≤ max_cells
  pub some : 1 ≤ next.numbers
  pub few : next.numbers ≤ max_numbers
  pub start : last.start ≤ B + max_numbers
  pub end : last.end ≤ B + B + max_numbers
  pub inside : (u v : ℕ) → next.placed < next.cells → u < next.numbers → v < next.numbers
      → r.at + u * beside + v * r.step < length st
