-- The start of a segment in a table of buckets: each lane has one pose to start with, which costs nothing.
use Rattle.std.specs.Prelude.{ℕ, ◌+◌, ◌*◌, ◌-◌, ◌≤◌, ◌<◌, min, ◌≡◌, refl, ◌≢◌, ◌⊎◌, Bool, true, false, cond, List, length, eqb}
use Rattle.std.proofs.Common.{◌∙◌, inl, inr, arith}
use Rattle.std.proofs.Math.Decide.{ℕ_discrete, dec_lt}
use Rattle.definition.specs.Job.{max_cells}
use Rattle.theory_tables.specs.Steps.{B}
use Rattle.search_store.specs.Map.{bucket_rows, bucket_words, max_lanes}
use Rattle.search_lanes.specs.Store.{Low}
use Rattle.search_row.specs.Words.{word_of, RowWords}
use Rattle.search_buckets.specs.Rows.{in_row, buckets_in, end_row_of, pay_in, one_pose, Pays, pay_words}
use Rattle.search_buckets.specs.Laws.{row-miss, pay-small, found-one}
use Rattle.search_buckets.specs.Sources.{pose_twin, buckets_last}
use Rattle.search_wide_buckets.specs.Table.{word_at, TableLent, FiveOrNine, Spread, Gathered, TableReady, found_row}
use Rattle.search_wide_first.specs.Firsts.{after_row}

-- pose l of the cell at position p in lane l, for the cell at position k
abbrev pub start_in : List ℕ → ℕ → ℕ → ℕ → ℕ → ℕ → ℕ
start_in row p k l = one_pose row p k l 0

-- a table for the starts after the cell at position p, of the cell at position k
pub record Starting (table row : List ℕ) (p k rows buckets : ℕ) : Type 0 where
  pub lent : TableLent table
  pub words : RowWords row
  pub start : p < max_cells
  pub cell : k < max_cells
  pub few : rows ≤ bucket_rows
  pub needed : FiveOrNine buckets

-- the same in so many lanes
pub record StartingLanes (table row : List ℕ) (p k rows buckets lanes : ℕ) : Type 0 where
  pub starting : Starting table row p k rows buckets
  pub narrow : lanes ≤ max_lanes

-- the same for lane l, what the start pays being known
pub record StartingLane (table row pays : List ℕ) (p k rows buckets l : ℕ) : Type 0 where
  pub starting : Starting table row p k rows buckets
  pub paid : Pays row p k buckets pay_words pays
  pub lane : l < max_lanes

-- one lane's buckets are lowered, in the rows that count; the other lanes are as they were
pub record Started (bucket : ℕ → ℕ → ℕ) (rows buckets lane : ℕ) (old new : List ℕ) : Type 0 where
  pub long : length new ≡ length old
  pub low : Low new
  pub done : (v t : ℕ) → v < buckets → t < rows → v ≤ 8 * t
      → word_at new lane v t ≡ min (word_at old lane v t) (bucket v t)
  pub other : (l v t : ℕ) → l < max_lanes → l ≢ lane → t < rows → word_at new l v t ≡ word_at old l v t

-- the lanes below n
pub record StartedTo (bucket : ℕ → ℕ → ℕ → ℕ) (rows buckets n : ℕ) (old new : List ℕ) : Type 0 where
  pub long : length new ≡ length old
  pub low : Low new
  pub done : (l v t : ℕ) → l < n → v < buckets → t < rows → v ≤ 8 * t
      → word_at new l v t ≡ min (word_at old l v t) (bucket l v t)
  pub rest : (l v t : ℕ) → n ≤ l → l < max_lanes → t < rows → word_at new l v t ≡ word_at old l v t

-- ---- one lane

-- a start that ends right of all rows that count
pub started_out :
    (row : List ℕ) {table : List ℕ} (p k b : ℕ) {rows buckets lane : ℕ}
    → Low table → rows ≤ end_row_of row p b k → Started (one_pose row p k b 0) rows buckets lane table table
started_out row {table} p k b {lane = lane} w h =
    record {
      long = refl;
      low = w;
      done = λ v t i j g. omega (
        arith,
        w.word (v * bucket_words + t * max_lanes + lane),
        row-miss (end_row_of row p b k) t (0 + pay_in row p b k v) (λ e. omega arith),
      );
      other = λ l v t i j k. refl;
    }

-- a start in row t
pub started_in :
    {f bucket : ℕ → ℕ → ℕ} {t rows buckets lane : ℕ} {old new : List ℕ}
    → rows ≤ bucket_rows → Spread f t 0 buckets lane 1 old new
    → ((v s : ℕ) → v < buckets → bucket v s ≡ in_row t s (f v 0))
    → Started bucket rows buckets lane old new
started_in {lane = lane} h s e =
    record {
      long = s.long;
      low = s.low;
      done = λ v r i j g.
          let z : lane + 0 ≡ lane = omega arith in
          let d = rw z at (s.done 0 v r (omega arith) (omega arith) i (omega arith) g) in
          omega (arith, e v r i);
      other = λ l v r i j k. s.other l v r i (side l j (dec_lt l lane)) (omega arith);
    }
  where
    side : (l : ℕ) → l ≢ lane → Dec (l < lane) → (l < lane) ⊎ (lane + 1 ≤ l)
    side l j (yes h) = inl h
    side l j (no h) = inr (omega arith)

-- ---- every lane

pub starts_none : (bucket : ℕ → ℕ → ℕ → ℕ) (rows buckets : ℕ) {table : List ℕ} → Low table
    → StartedTo bucket rows buckets 0 table table
starts_none bucket rows buckets w =
    record { long = refl; low = w; done = λ l v t i j k g. absurd (omega arith); rest = λ l v t i j k. refl }

pub starts_more :
    {bucket : ℕ → ℕ → ℕ → ℕ} {rows buckets : ℕ} {old mid new : List ℕ} (n : ℕ)
    → n < max_lanes → StartedTo bucket rows buckets n old mid → Started (bucket n) rows buckets n mid new
    → StartedTo bucket rows buckets (n + 1) old new
starts_more {bucket} {rows} {buckets} {old} {mid} {new} n h s w =
    record {
      long = w.long ∙ s.long;
      low = w.low;
      done = λ l v t i j k g. go l v t i j k g (ℕ_discrete l n);
      rest = λ l v t i j k. w.other l v t j (λ e. omega arith) k ∙ s.rest l v t (omega arith) j k;
    }
  where
    go : (l v t : ℕ) → l < n + 1 → v < buckets → t < rows → v ≤ 8 * t → Dec (l ≡ n)
        → word_at new l v t ≡ min (word_at old l v t) (bucket l v t)
    go l v t i j k g (yes e) = rw e (omega (arith, w.done v t j k g, s.rest n v t (omega arith) h k))
    go l v t i j k g (no d) = w.other l v t (omega arith) d k ∙ s.done l v t (omega arith) j k g

pub starts_all :
    {bucket : ℕ → ℕ → ℕ → ℕ} {rows buckets lanes : ℕ} {old new : List ℕ}
    → StartedTo bucket rows buckets lanes old new → Gathered bucket rows buckets lanes old new
starts_all s = record { long = s.long; low = s.low; done = s.done }

-- ---- what is found

pub starts_low : {row : List ℕ} (p k l v t : ℕ) → RowWords row → start_in row p k l v t ≤ B
starts_low {row} p k l v t w = go (eqb (end_row_of row p l k) t) (pay-small row p l k v w)
  where
    go : (z : Bool) → pay_in row p l k v ≤ B → cond z (0 + pay_in row p l k v) B ≤ B
    go true h = omega arith
    go false h = omega arith

-- the last four of the buckets that are needed are those of gaps 2 and 3
pub starts_last : (row : List ℕ) (p k l v t : ℕ) → v < 4
    → start_in row p k l (buckets_in row k - 4 + v) t ≡ start_in row p k l (5 + v) t
starts_last row p k l v t h =
    buckets_last (λ (u : ℕ). start_in row p k l u t) row k v (λ e. pose_twin row k e p l 0 v t h)

pub after-found :
    (row : List ℕ) (p k a l : ℕ) {table : List ℕ} {poses buckets lanes : ℕ}
    → TableReady (start_in row p k) poses buckets lanes table → a < poses → l < lanes
    → after_row row p k a l ≡ found_row buckets table (word_of row k a) a l
after-found row p k a l r h i = omega (arith, r.right a l h i, found-one row p l k a 0)
