-- Sources gathered by their end site. Row t of a target cell has the sources that end at its first
-- site - 4 + t; row 0 those further left too.
-- The least cost of a pose e sites right of the first one is found in few rows: one for each gap
-- that pays, and one for all gaps that are free.
use Rattle.std.specs.Prelude.{ℕ, suc, ◌+◌, ◌*◌, ◌-◌, ◌/◌, ◌%◌, ◌≤◌, ◌<◌, min, ◌≡◌, cond, List, length, get_or, ltb, eqb}
use Rattle.definition.specs.Job.{max_cells}
use Rattle.lists.specs.Numbers.{from}
use Rattle.theory_pair.specs.Coded.{lowest}
use Rattle.theory_tables.specs.Steps.{B, Deck, Layer, last_at, is_source, pose_slots}
use Rattle.search_row.specs.Words.{word_of, end_in, differ_in, filled_word, first_word, touching_word, RowWords}
use Rattle.search_buckets.specs.Gaps.{paying}

-- what a source in row r that costs c is in row t
abbrev pub in_row : ℕ → ℕ → ℕ → ℕ
in_row r t c = cond (eqb r t) c B

-- the bucket in which the sources at a gap are found by a target in variant v: bucket 0 is that of the gaps that are
-- free, buckets 1 to 4 are those of gap 0, the buckets from `other` on those of the other gaps that pay
abbrev pub bucket_in : ℕ → ℕ → ℕ → ℕ
bucket_in other gap v = cond (eqb gap 0) (1 + v) (other + v)

-- a bucket has a cost for each row; what pose a finds in the buckets: in its variant's bucket of a gap that pays the
-- row of that gap, in bucket 0 all rows that end four sites or more left of it
unfoldable pub found : (ℕ → ℕ → ℕ) → ℕ → ℕ
found bucket a = min (lowest B (λ gap. bucket (bucket_in 5 gap (a % 4)) (a / 4 + 4 - gap)) paying)
    (lowest B (bucket 0) (from 0 (suc (a / 4))))

-- how many buckets a target at position m needs: where all gaps that pay have one
-- weight, buckets 5 to 8 are as buckets 1 to 4
unfoldable pub buckets_in : List ℕ → ℕ → ℕ
buckets_in row m = cond (eqb (word_of row m touching_word) (word_of row m filled_word)) 5 9

-- the rows that the poses below `poses` look at
abbrev pub rows_of : ℕ → ℕ
rows_of poses = (poses + 3) / 4 + 4

-- ---- a row's words

-- the row in which pose b of the cell at position k counts for the cell at position m
unfoldable pub end_row_of : List ℕ → ℕ → ℕ → ℕ → ℕ
end_row_of row k b m = end_in row k b + 4 - word_of row m first_word

-- what pose b of k pays in bucket v of m: by the variant of m that the bucket is for, in bucket 0 nothing
unfoldable pub pay_in : List ℕ → ℕ → ℕ → ℕ → ℕ → ℕ
pay_in row k b m v =
    cond (ltb v 1) 0 (cond (ltb v 5)
    (word_of row m touching_word * differ_in row k b m (v - 1)) (word_of row m filled_word * differ_in row k b m (v - 5)))

-- a word for each of four variants in each of 9 buckets
abbrev pub pay_words : ℕ
pay_words = 36

-- what each variant of the cell at position k pays in each bucket below `buckets` of the cell at position m: 9
-- words for each variant, those below n of them
pub record Pays (row : List ℕ) (k m buckets n : ℕ) (pays : List ℕ) : Type 0 where
  pub long : length pays ≡ pay_words
  pub pay : (j : ℕ) → j < n → j % 9 < buckets → get_or pays j 0 ≡ pay_in row k (j / 9) m (j % 9)

-- all of them, none over B
pub record PaysLow (buckets : ℕ) (pays : List ℕ) : Type 0 where
  pub long : length pays ≡ pay_words
  pub low : (j : ℕ) → j < pay_words → j % 9 < buckets → get_or pays j 0 ≤ B

-- two cells of a row as neighbours: the left one at position k, the right one at position m
pub record Neighbours (row : List ℕ) (k m : ℕ) : Type 0 where
  pub words : RowWords row
  pub left : k < max_cells
  pub right : m < max_cells

-- the left one in pose b
pub record SourcePose (row : List ℕ) (k b m : ℕ) : Type 0 where
  pub cells : Neighbours row k m
  pub pose : b < pose_slots

-- what variant u of the left one pays in bucket v of the right one is to be told
pub record PayGiven (row : List ℕ) (k u m v : ℕ) : Type 0 where
  pub cells : Neighbours row k m
  pub kind : u < 4
  pub bucket : v < 9

-- what the left one pays in so many buckets of the right one is to be written, n of the words being there
pub record PaysGiven (row : List ℕ) (k m buckets n : ℕ) (pays : List ℕ) : Type 0 where
  pub cells : Neighbours row k m
  pub few : buckets ≤ 9
  pub before : Pays row k m buckets n pays

-- the same for variant u, where the words of the variants before it are there
pub record VariantPays (row : List ℕ) (k u m buckets : ℕ) (pays : List ℕ) : Type 0 where
  pub given : PaysGiven row k m buckets (u * 9) pays
  pub kind : u < 4

-- a source of cost c in the buckets
abbrev pub one_pose : List ℕ → ℕ → ℕ → ℕ → ℕ → ℕ → ℕ → ℕ
one_pose row k m b c v t = in_row (end_row_of row k b m) t (c + pay_in row k b m v)

-- by way of the poses below n of the cell at position k, each with a cost
unfoldable pub by_poses : List ℕ → ℕ → ℕ → (ℕ → ℕ) → ℕ → ℕ → ℕ → ℕ
by_poses row k m f n v t = lowest B (λ b. one_pose row k m b (f b) v t) (from 0 n)

-- by way of state p of the layer f, which has i cells, if it is a source of state q
unfoldable pub one_state : List ℕ → Deck → ℕ → Layer → ℕ → ℕ → ℕ → ℕ → ℕ → ℕ
one_state row D R f i q p v t =
    cond (is_source D R i q p) (by_poses row (last_at R i p) (last_at R (suc i) q) (f p) D.poses v t) B

-- by way of the states below n
unfoldable pub by_states : List ℕ → Deck → ℕ → Layer → ℕ → ℕ → ℕ → ℕ → ℕ → ℕ
by_states row D R f i q n v t = lowest B (λ p. one_state row D R f i q p v t) (from 0 n)
