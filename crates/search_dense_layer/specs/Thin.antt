-- Layers of one lane, dense: state q has pose_slots words of a block, one for each pose. The sources of a
-- target are gathered in buckets:
-- `far` has bucket 0, row t at t; `near` buckets 1 to 4, row t of bucket 1 + v at 4 t + v; `apart`
-- likewise buckets 5 to 8, where they are needed.
use Rattle.std.specs.Prelude.{ℕ, suc, ◌+◌, ◌*◌, ◌/◌, ◌%◌, ◌≤◌, ◌<◌, min, ◌≡◌, cond, List, length, get_or, replicate, eqb}
use Rattle.definition.specs.Job.{max_cells}
use Rattle.search_store.specs.Map.{bucket_rows, kept_layer, max_kept, max_poses}
use Rattle.search_row.specs.declared.Sizes.{Sizes}
use Rattle.lists.specs.Numbers.{from}
use Rattle.theory_pair.specs.Coded.{lowest}
use Rattle.theory_tables.specs.Steps.{B, Deck, Layer, next_layer, pose_slots}
use Rattle.search_lanes.specs.Lanes.{Lowered}
use Rattle.search_lanes.specs.Store.{Frame, Low}
use Rattle.search_row.specs.Words.{word_of, RowWords, Ground}
use Rattle.search_buckets.specs.declared.Source.{Source}
use Rattle.search_buckets.specs.Next.{Target}
use Rattle.search_buckets.specs.Rows.{in_row, Pays, PaysLow, pay_words}
use Rattle.search_dense_layer.specs.declared.Buckets.{Buckets}

-- the layer whose block begins at `at`
abbrev pub thin_in : List ℕ → ℕ → Layer
thin_in st at q a = get_or st (at + q * pose_slots + a) 0

-- ---- the buckets

-- a word for each of four variants in every row of a bucket
abbrev pub variant_words : ℕ
variant_words = 76

-- the words of four buckets, and those that are needed of the last four
abbrev pub near_of : (ℕ → ℕ → ℕ) → ℕ → ℕ
near_of bucket j = bucket (1 + j % 4) (j / 4)

abbrev pub apart_of : ℕ → (ℕ → ℕ → ℕ) → ℕ → ℕ
apart_of needed bucket j = cond (eqb needed 9) (bucket (5 + j % 4) (j / 4)) B

-- nothing is gathered yet
abbrev pub empty_buckets : Buckets
empty_buckets =
    record { near = replicate variant_words B; apart = replicate variant_words B; far = replicate bucket_rows B }

-- arrays in which sources may be gathered
pub record ThinArrays (b : Buckets) : Type 0 where
  pub near_long : length b.near ≡ variant_words
  pub apart_long : length b.apart ≡ variant_words
  pub far_long : length b.far ≡ bucket_rows
  pub near_low : Low b.near
  pub apart_low : Low b.apart
  pub far_low : Low b.far

-- all their words are lowered to those of other buckets, of which so many are needed
pub record ThinGathered (bucket : ℕ → ℕ → ℕ) (needed : ℕ) (old new : Buckets) : Type 0 where
  pub near_to : Lowered (near_of bucket) variant_words old.near new.near
  pub apart_to : Lowered (apart_of needed bucket) variant_words old.apart new.apart
  pub far_to : Lowered (bucket 0) bucket_rows old.far new.far

-- a source of cost x in row t: what it pays in four buckets, from word p of what is paid on
abbrev pub four_of : ℕ → ℕ → List ℕ → ℕ → ℕ → ℕ
four_of t x pays p j = in_row t (j / 4) (x + get_or pays (p + j % 4) 0)

-- the same in all buckets, for variant u
abbrev pub spread_of : ℕ → ℕ → List ℕ → ℕ → ℕ → ℕ → ℕ
spread_of t x pays u v s = in_row t s (x + get_or pays (u * 9 + v) 0)

-- a source of cost x, to be put to row t of four buckets, where it pays the words from word p on
pub record FourSpread (words pays : List ℕ) (t x p : ℕ) : Type 0 where
  pub long : length words ≡ variant_words
  pub low : Low words
  pub here : t < bucket_rows
  pub cost : x ≤ B
  pub pays_long : length pays ≡ pay_words
  pub inside : p + 4 ≤ pay_words
  pub paid : (v : ℕ) → v < 4 → get_or pays (p + v) 0 ≤ B

-- the same to row t of all buckets that are needed, by its variant u; in bucket 0 it pays nothing
pub record ThinSpread (b : Buckets) (pays : List ℕ) (x u t needed : ℕ) : Type 0 where
  pub arrays : ThinArrays b
  pub cost : x ≤ B
  pub paid : PaysLow needed pays
  pub free : get_or pays (u * 9) 0 ≡ 0
  pub kind : u < 4
  pub here : t < bucket_rows
  pub five : 5 ≤ needed
  pub nine : needed ≤ 9

-- ---- sources in the store

-- the cell at position k, whose words begin at `at`, for the cell at position m
pub record ThinSource (st row : List ℕ) (at k m : ℕ) : Type 0 where
  pub words : RowWords row
  pub low : Low st
  pub room : at + pose_slots ≤ length st
  pub left : k < max_cells
  pub right : m < max_cells

-- its poses below `poses` are to be gathered: there are arrays for them, and what it pays is known
pub record FromPoses (b : Buckets) (st row pays : List ℕ) (s : Source) (poses : ℕ) : Type 0 where
  pub arrays : ThinArrays b
  pub source : ThinSource st row s.at s.left s.right
  pub paid : Pays row s.left s.right s.buckets pay_words pays
  pub five : 5 ≤ s.buckets
  pub nine : s.buckets ≤ 9
  pub few : poses ≤ max_poses

-- the words from `at` on
abbrev pub poses_at : List ℕ → ℕ → ℕ → ℕ
poses_at st at b = get_or st (at + b) 0

-- ---- what is found

-- a far bucket
pub record FarBucket (far : List ℕ) : Type 0 where
  pub long : length far ≡ bucket_rows
  pub low : Low far

-- the lowest of all rows up to each row below `rows`
pub record FarRunUp (rows : ℕ) (old new : List ℕ) : Type 0 where
  pub long : length new ≡ length old
  pub low : Low new
  pub far : (t : ℕ) → t < rows → get_or new t 0 ≡ lowest B (λ s. get_or old s 0) (from 0 (suc t))
  pub rest : (t : ℕ) → rows ≤ t → get_or new t 0 ≡ get_or old t 0

-- the far bucket is so for all sites, the others are as they were
pub record RunUp (old new : Buckets) : Type 0 where
  pub near : new.near ≡ old.near
  pub apart : new.apart ≡ old.apart
  pub far : FarRunUp 15 old.far new.far

-- buckets 5 to 8 are those of gap 0 where they are not needed
abbrev pub shared : ℕ → Buckets → Buckets
shared needed b = record b { apart = cond (eqb needed 9) b.apart b.near }

-- buckets 5 to 8 are looked up in these words
abbrev pub with_apart : List ℕ → Buckets → Buckets
with_apart apart b = record b { apart = apart }

-- what the pose at site e in variant v finds, where `far` ran up
abbrev pub found_by : Buckets → ℕ → ℕ → ℕ
found_by b e v =
    min
    (min (get_or b.near ((e + 4) * 4 + v) 0)
    (min (get_or b.apart ((e + 2) * 4 + v) 0) (get_or b.apart ((e + 1) * 4 + v) 0)))
    (get_or b.far e 0)

-- with the own cost of the cell at position k, capped
abbrev pub found_of : List ℕ → Buckets → ℕ → ℕ → ℕ
found_of row b k a = min (word_of row k a + found_by b (a / 4) (a % 4)) B

-- four poses from pose 4 e on
abbrev pub found_four : List ℕ → Buckets → ℕ → ℕ → ℕ → ℕ
found_four row b k e v = found_of row b k (e * 4 + v)

-- arrays in which the pose at site e in variant v looks up what it finds
pub record ThinLooks (b : Buckets) (e v : ℕ) : Type 0 where
  pub arrays : ThinArrays b
  pub site : e < 15
  pub kind : v < 4

-- four words are to be those of the poses at site e of the cell at position k
pub record ToFour (b : Buckets) (row four : List ℕ) (k e : ℕ) : Type 0 where
  pub arrays : ThinArrays b
  pub words : RowWords row
  pub low : Low four
  pub long : length four ≡ 4
  pub cell : k < max_cells
  pub site : e < 15

-- the words from `to` on are to be those of the poses below `poses` of the cell at position k
pub record ToPut (b : Buckets) (row st : List ℕ) (to k poses : ℕ) : Type 0 where
  pub arrays : ThinArrays b
  pub words : RowWords row
  pub low : Low st
  pub room : to + pose_slots ≤ length st
  pub cell : k < max_cells
  pub few : poses ≤ max_poses

-- ---- a layer from the layer before

-- a layer with i cells in the block at `at`, and room for the next
pub record ThinGiven (row st : List ℕ) (z : Sizes) (i at : ℕ) : Type 0 where
  pub grounded : Ground row z
  pub low : Low st
  pub early : i ≤ max_kept + 1
  pub room : at + 2 * kept_layer ≤ length st

-- and state q of the next
pub record ThinNext (row st : List ℕ) (z : Sizes) (i at q : ℕ) : Type 0 where
  pub given : ThinGiven row st z i at
  pub state : q < z.states

-- the same, if its cell is there
pub record ThinTarget (row st : List ℕ) (z : Sizes) (i at q : ℕ) : Type 0 where
  pub given : ThinGiven row st z i at
  pub target : Target z.cells z.reordering i q

-- its sources are to be gathered
pub record ThinGathering (b : Buckets) (row st : List ℕ) (z : Sizes) (i at q : ℕ) : Type 0 where
  pub arrays : ThinArrays b
  pub sought : ThinTarget row st z i at q

-- and state p of the layer, if it is one of them
pub record ThinFrom (b : Buckets) (row st : List ℕ) (z : Sizes) (i at q p : ℕ) : Type 0 where
  pub gathering : ThinGathering b row st z i at q
  pub state : p < z.states

-- state q of the next layer, in the block after
pub record Put (D : Deck) (R i from q : ℕ) (old new : List ℕ) : Type 0 where
  pub frame : Frame (from + kept_layer + q * pose_slots) (from + kept_layer + q * pose_slots + pose_slots) old new
  pub low : Low new
  pub right : (a : ℕ) → a < D.poses → thin_in new (from + kept_layer) q a ≡ next_layer D R (thin_in old from) i q a

-- its states below `count`
pub record Stepped (D : Deck) (R count i from : ℕ) (old new : List ℕ) : Type 0 where
  pub frame : Frame (from + kept_layer) (from + 2 * kept_layer) old new
  pub low : Low new
  pub right : (q a : ℕ) → q < count → a < D.poses
      → thin_in new (from + kept_layer) q a ≡ next_layer D R (thin_in old from) i q a
