-- The buckets in one table: 9 buckets of bucket_rows rows of lanes. What is given, and what the loops leave.
use Rattle.std.specs.Prelude.{ℕ, suc, ◌+◌, ◌*◌, ◌-◌, ◌/◌, ◌%◌, ◌≤◌, ◌<◌, min, ◌≡◌, Bool, false, ◌⊎◌, List, length, get_or}
use Rattle.definition.specs.Job.{max_cells}
use Rattle.search_store.specs.Map.{state_block, table_words, bucket_rows, bucket_words, max_lanes, max_poses}
use Rattle.lists.specs.Numbers.{from}
use Rattle.theory_pair.specs.Coded.{lowest}
use Rattle.theory_tables.specs.Steps.{B, Deck}
use Rattle.search_lanes.specs.Store.{Low, Written, said_in, layer_in}
use Rattle.search_row.specs.Words.{word_of, RowWords}
use Rattle.search_buckets.specs.Gaps.{paying}
use Rattle.search_buckets.specs.declared.Source.{Source}
use Rattle.search_buckets.specs.Rows.{in_row, bucket_in, one_pose, by_poses, one_state, by_states, found, Pays, PaysLow}
use Rattle.search_buckets.specs.Rows.{pay_words}

-- the buckets of lane l
abbrev pub word_at : List ℕ → ℕ → ℕ → ℕ → ℕ
word_at table l v t = get_or table (v * bucket_words + t * max_lanes + l) 0

-- a row's cell at position k is asked about so many poses
pub record PosesAsked (row : List ℕ) (k poses : ℕ) : Type 0 where
  pub words : RowWords row
  pub cell : k < max_cells
  pub few : poses ≤ max_poses

-- of so many poses, it is offered none from n on
pub record OfferedBelow (row : List ℕ) (k poses n : ℕ) : Type 0 where
  pub most : n ≤ poses
  pub none : (a : ℕ) → n ≤ a → a < poses → B ≤ word_of row k a

-- a table lent to gather sources in: any words, none over B
pub record TableLent (table : List ℕ) : Type 0 where
  pub long : length table ≡ table_words
  pub low : Low table

-- the same for so many poses in so many lanes
pub record TableFor (table : List ℕ) (poses lanes : ℕ) : Type 0 where
  pub lent : TableLent table
  pub few : poses ≤ max_poses
  pub narrow : lanes ≤ max_lanes

-- the same, so many buckets of it to be cleared
pub record TableToClear (table : List ℕ) (buckets poses lanes : ℕ) : Type 0 where
  pub table_for : TableFor table poses lanes
  pub most : buckets ≤ 9

-- a word of a table, to be lowered to x
pub record WordToLower (table : List ℕ) (to x : ℕ) : Type 0 where
  pub lent : TableLent table
  pub room : to < table_words
  pub cost : x ≤ B + B

-- so many lanes of it from `to` on, to be lowered to those from `from` on, which lie before them
pub record LanesToLower (table : List ℕ) (to from lanes : ℕ) : Type 0 where
  pub lent : TableLent table
  pub room : to + lanes ≤ table_words
  pub before : from + lanes ≤ to

-- how many buckets a target may need
abbrev pub FiveOrNine : ℕ → Type 0
FiveOrNine buckets = (buckets ≡ 5) ⊎ (buckets ≡ 9)

-- no source yet in the buckets below v, in so many rows and lanes
pub record Cleared (rows lanes v : ℕ) (table : List ℕ) : Type 0 where
  pub long : length table ≡ table_words
  pub low : Low table
  pub none : (l u t : ℕ) → l < lanes → u < v → t < rows → word_at table l u t ≡ B

-- the buckets of each lane are lowered to other ones, so many buckets, in all rows that count, which are those
-- below `rows`: row 0 counts in bucket 0 alone
pub record Gathered (bucket : ℕ → ℕ → ℕ → ℕ) (rows buckets lanes : ℕ) (old new : List ℕ) : Type 0 where
  pub long : length new ≡ length old
  pub low : Low new
  pub done : (l v t : ℕ) → l < lanes → v < buckets → t < rows → v ≤ 8 * t
      → word_at new l v t ≡ min (word_at old l v t) (bucket l v t)

-- the same, and whether any word may have changed
pub record GatheredIf (used : Bool) (bucket : ℕ → ℕ → ℕ → ℕ) (rows buckets lanes : ℕ) (old new : List ℕ) : Type 0 where
  pub gathered : Gathered bucket rows buckets lanes old new
  pub unused : used ≡ false → new ≡ old

-- lowered in all rows and the buckets from `least` on below `last`, so many lanes from `first` on, by one source in
-- row t, whose cost in bucket v and the j-th of these lanes is f v j; the other buckets and lanes are as they were
pub record Spread (f : ℕ → ℕ → ℕ) (t least last first lanes : ℕ) (old new : List ℕ) : Type 0 where
  pub long : length new ≡ length old
  pub low : Low new
  pub done : (j v s : ℕ) → j < lanes → least ≤ v → v < last → s < bucket_rows → v ≤ 8 * s
      → word_at new (first + j) v s ≡ min (word_at old (first + j) v s) (in_row t s (f v j))
  pub rest : (j v s : ℕ) → j < lanes → (v < least) ⊎ (last ≤ v) → s < bucket_rows
      → word_at new (first + j) v s ≡ word_at old (first + j) v s
  pub other : (l v s : ℕ) → l < max_lanes → (l < first) ⊎ (first + lanes ≤ l) → s < bucket_rows
      → word_at new l v s ≡ word_at old l v s

-- a variant's pays for a row's words, by bucket
abbrev pub charged_words : List ℕ → List ℕ → ℕ → ℕ → ℕ → ℕ
charged_words words pays u v l = get_or words l 0 + get_or pays (u * 9 + v) 0

-- the same for one lane, whose word is x
abbrev pub charged_one : ℕ → List ℕ → ℕ → ℕ → ℕ → ℕ
charged_one x pays u v l = x + get_or pays (u * 9 + v) 0

-- a source of cost x in one lane, to be put to row t: by its variant u, what it pays in the buckets below n
pub record LaneSpread (table pays : List ℕ) (n x u t lane : ℕ) : Type 0 where
  pub lent : TableLent table
  pub cost : x ≤ B
  pub needed : FiveOrNine n
  pub paid : PaysLow n pays
  pub kind : u < 4
  pub here : t < bucket_rows
  pub inside : lane < max_lanes

-- the same to the four buckets of a kind of gap, those from `first` on
pub record NearSpread (table pays : List ℕ) (x u t lane first : ℕ) : Type 0 where
  pub spread : LaneSpread table pays (first + 4) x u t lane
  pub least : 1 ≤ first
  pub most : first ≤ 5

-- the words of a source to be put to row t, one for each lane
pub record WordsSpread (table words pays : List ℕ) (n u t : ℕ) : Type 0 where
  pub lent : TableLent table
  pub low : Low words
  pub narrow : length words ≤ max_lanes
  pub needed : FiveOrNine n
  pub paid : PaysLow n pays
  pub kind : u < 4
  pub here : t < bucket_rows

-- a table to be lowered by a source, what it pays being known
pub record WideSource (table st row pays : List ℕ) (s : Source) (lanes : ℕ) : Type 0 where
  pub words : RowWords row
  pub low : Low st
  pub table_low : Low table
  pub table_long : length table ≡ table_words
  pub narrow : lanes ≤ max_lanes
  pub room : s.at + state_block ≤ length st
  pub left : s.left < max_cells
  pub right : s.right < max_cells
  pub needed : FiveOrNine s.buckets
  pub paid : Pays row s.left s.right s.buckets pay_words pays

-- the same by its pose b, in the rows below `rows`
pub record PoseSource (table st row pays : List ℕ) (s : Source) (b rows lanes : ℕ) : Type 0 where
  pub source : WideSource table st row pays s lanes
  pub pose : b < max_poses
  pub few : rows ≤ bucket_rows

-- the same by its poses, so many
pub record PosesSource (table st row pays : List ℕ) (s : Source) (poses rows lanes : ℕ) : Type 0 where
  pub source : WideSource table st row pays s lanes
  pub offered : poses ≤ max_poses
  pub few : rows ≤ bucket_rows

-- ---- sources in the store, l is the lane

-- the costs of a cell's poses, whose rows begin at `at`
abbrev pub row_in : List ℕ → ℕ → ℕ → ℕ → ℕ
row_in st at l b = said_in st at b l

-- pose b of the cell at position k for the cell at position m
abbrev pub pose_in : List ℕ → List ℕ → ℕ → ℕ → ℕ → ℕ → ℕ → ℕ → ℕ → ℕ
pose_in st row at k m b l = one_pose row k m b (row_in st at l b)

-- its poses below n
abbrev pub poses_in : List ℕ → List ℕ → ℕ → ℕ → ℕ → ℕ → ℕ → ℕ → ℕ → ℕ
poses_in st row at k m n l = by_poses row k m (row_in st at l) n

-- state p of the layer in the block at `at`, which has i cells, if it is a source of state q
abbrev pub state_in : List ℕ → List ℕ → Deck → ℕ → ℕ → ℕ → ℕ → ℕ → ℕ → ℕ → ℕ → ℕ
state_in st row D R at i q p l = one_state row D R (layer_in st at l) i q p

-- the states below n
abbrev pub states_in : List ℕ → List ℕ → Deck → ℕ → ℕ → ℕ → ℕ → ℕ → ℕ → ℕ → ℕ → ℕ
states_in st row D R at i q n l = by_states row D R (layer_in st at l) i q n

-- ---- what is found

-- in a table of so many buckets, the last four of them those of gaps 2 and 3, whose bucket 0 has
-- in each row the lowest of all rows up to it
abbrev pub found_in : ℕ → List ℕ → ℕ → ℕ → ℕ
found_in buckets table a l =
    min (lowest B (λ gap. word_at table l (bucket_in (buckets - 4) gap (a % 4)) (a / 4 + 4 - gap)) paying)
    (word_at table l 0 (a / 4))

-- bucket 0 has in each row below `rows` the lowest of all rows up to it; the other buckets are as they were
pub record RunUp (rows lanes : ℕ) (old new : List ℕ) : Type 0 where
  pub long : length new ≡ length old
  pub low : Low new
  pub near : (l v t : ℕ) → l < lanes → 1 ≤ v → t < bucket_rows → word_at new l v t ≡ word_at old l v t
  pub far : (l t : ℕ) → l < lanes → t < rows → word_at new l 0 t ≡ lowest B (word_at old l 0) (from 0 (suc t))
  pub rest : (l t : ℕ) → l < lanes → rows ≤ t → t < bucket_rows → word_at new l 0 t ≡ word_at old l 0 t

-- what every pose below `poses` finds is what it finds in the buckets
pub record TableReady (bucket : ℕ → ℕ → ℕ → ℕ) (poses buckets lanes : ℕ) (table : List ℕ) : Type 0 where
  pub long : length table ≡ table_words
  pub low : Low table
  pub right : (a l : ℕ) → a < poses → l < lanes → found_in buckets table a l ≡ found (bucket l) a

-- a cell's own cost with what its pose finds, capped
abbrev pub found_row : ℕ → List ℕ → ℕ → ℕ → ℕ → ℕ
found_row buckets table own a l = min (own + found_in buckets table a l) B

-- pose a of the cell at position k
abbrev pub found_row_of : ℕ → List ℕ → List ℕ → ℕ → ℕ → ℕ → ℕ
found_row_of buckets row table k a l = found_row buckets table (word_of row k a) a l

-- a row's words are f's, and x is at most each of them
pub record RowFound (x : ℕ) (f : ℕ → ℕ) (at lanes : ℕ) (old new : List ℕ) : Type 0 where
  pub written : Written f at lanes old new
  pub least : (l : ℕ) → l < lanes → x ≤ f l

-- a table in which pose a looks up what it finds
pub record PoseLooks (table : List ℕ) (a buckets : ℕ) : Type 0 where
  pub lent : TableLent table
  pub pose : a < max_poses
  pub least : 5 ≤ buckets
  pub most : buckets ≤ 9

-- the same in lane l
pub record LaneLooks (table : List ℕ) (a l buckets : ℕ) : Type 0 where
  pub looks : PoseLooks table a buckets
  pub inside : l < max_lanes

-- the row of pose a is to be written, with the cell's own cost
pub record ToRow (st table : List ℕ) (at a own buckets lanes : ℕ) : Type 0 where
  pub looks : PoseLooks table a buckets
  pub cost : own ≤ B
  pub low : Low st
  pub room : at + lanes ≤ length st
  pub narrow : lanes ≤ max_lanes

-- rows to be written from a table of so many buckets
pub record ToRows (st row table : List ℕ) (k buckets lanes : ℕ) : Type 0 where
  pub words : RowWords row
  pub low : Low st
  pub table_low : Low table
  pub table_long : length table ≡ table_words
  pub narrow : lanes ≤ max_lanes
  pub cell : k < max_cells
  pub least : 5 ≤ buckets
  pub most : buckets ≤ 9

-- the row of pose a, in a state whose words begin at `at`
pub record PoseToRow (st row table : List ℕ) (at k a buckets lanes : ℕ) : Type 0 where
  pub rows : ToRows st row table k buckets lanes
  pub room : at + state_block ≤ length st
  pub pose : a < max_poses

-- the rows of so many poses
pub record PosesToRows (st row table : List ℕ) (at k poses buckets lanes : ℕ) : Type 0 where
  pub rows : ToRows st row table k buckets lanes
  pub room : at + state_block ≤ length st
  pub few : poses ≤ max_poses
