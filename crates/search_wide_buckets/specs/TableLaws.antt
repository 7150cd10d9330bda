-- Laws of the table: what one lowered row, one source and one more of each loop make of it.
use Prim.Native.Nat.{ℕ, zero, suc, ◌+◌, ◌*◌, ◌-◌, ◌/◌, ◌%◌, ◌≤◌, ◌<◌, min}
use Rattle.std.specs.Prelude.{◌≡◌, refl, Bool, List, get_or, replicate, eqb}
use Rattle.std.proofs.Common.{ap, ◌∙◌, ⊎_elim, inl, inr, below_more}
use Rattle.std.proofs.Math.Path.{ap₂}
use Rattle.std.proofs.Math.Bool.{true, false, cond}
use native.Mathlib.Omega.{arith}
use Rattle.std.proofs.Math.Decide.{ℕ_discrete, dec_lt}
use Rattle.std.proofs.lemmas.List.{length-replicate}
use Rattle.search_lanes.specs.Lowered.{LoweredAt, lowered_at-low}
use Rattle.search_store.specs.Map.{table_words, bucket_rows, bucket_words, max_lanes, max_poses}
use Rattle.theory_tables.specs.Steps.{B}
use Rattle.lists.specs.Numbers.{from}
use Rattle.theory_pair.specs.Coded.{lowest, lowest-from}
use Rattle.search_lanes.specs.Lanes.{words_from}
use Rattle.search_lanes.specs.Store.{Frame, Low}
use Rattle.search_lanes.specs.Laws.{same_low}
use Rattle.search_buckets.specs.declared.Source.{Source}
use Rattle.search_buckets.specs.Loops.{lowest-same, lowest_ext}
use Rattle.search_buckets.specs.Gaps.{paying, paying-low}
use Rattle.search_buckets.specs.Rows.{rows_of, in_row, bucket_in, found}
use Rattle.search_buckets.specs.Laws.{row-hit, row-miss, found_none, found_ext}
use Rattle.search_wide_buckets.specs.Table.{word_at, TableLent, Cleared, Gathered}
use Rattle.search_wide_buckets.specs.Table.{Spread, WideSource, RunUp, found_in, TableReady, ToRows}

-- ---- one row

-- a word that is not in the frame
pub frame-other : {a b : ℕ} {old new : List ℕ} (k : ℕ) → Frame a b old new → (a ≤ k → b ≤ k)
    → get_or new k 0 ≡ get_or old k 0
frame-other {a} {b} {old} {new} k f h = go (dec_lt k a)
  where
    go : Dec (k < a) → get_or new k 0 ≡ get_or old k 0
    go (yes p) = f.low k p
    go (no p) = f.high k (h (omega arith))

-- ---- rows without sources

-- a table of zeros may be lent
pub lent_zeros : TableLent (replicate table_words 0)
lent_zeros = record { long = length-replicate {A = ℕ} table_words 0; low = same_low table_words 0 (omega arith) }

-- ---- one source

-- one bucket more
pub spread-more :
    {f : ℕ → ℕ → ℕ} {t least first lanes : ℕ} {old mid new : List ℕ} (v : ℕ)
    → first + lanes ≤ max_lanes → t < bucket_rows → least ≤ v → Low old → Spread f t least v first lanes old mid
    → LoweredAt (f v) (v * bucket_words + t * max_lanes + first) lanes mid new
    → Spread f t least (v + 1) first lanes old new
spread-more {f} {t} {least} {first} {lanes} {old} {mid} {new} v n h c b s w =
    record {
      long = w.frame.long ∙ s.long;
      low = lowered_at-low w s.low;
      done = λ l u r i p j k g. go l u r i p j k g (ℕ_discrete u v) (ℕ_discrete r t);
      rest = λ l u r i j k.
          ⊎_elim
          (λ p. away (first + l) u r (λ e. omega arith) ∙ s.rest l u r i (inl p) k)
          (λ p. away (first + l) u r (λ e. omega arith) ∙ s.rest l u r i (inr (omega arith)) k)
          j;
      other = λ l u r i j k. away l u r (⊎_elim (λ p e. omega arith) (λ p e. omega arith) j) ∙ s.other l u r i j k;
    }
  where
    away :
        (l u r : ℕ) → (v * bucket_words + t * max_lanes + first ≤ u * bucket_words + r * max_lanes + l
        → v * bucket_words + t * max_lanes + first + lanes ≤ u * bucket_words + r * max_lanes + l)
        → word_at new l u r ≡ word_at mid l u r
    away l u r e = frame-other (u * bucket_words + r * max_lanes + l) w.frame e

    go : (l u r : ℕ) → l < lanes → least ≤ u → u < v + 1 → r < bucket_rows → u ≤ 8 * r → Dec (u ≡ v) → Dec (r ≡ t)
        → word_at new (first + l) u r ≡ min (word_at old (first + l) u r) (in_row t r (f u l))
    go l u r i p j k g (no d) x = away (first + l) u r (λ e. omega arith) ∙ s.done l u r i p (omega arith) k g
    go l u r i p j k g (yes e) (no d) =
        omega (
          arith,
          away (first + l) u r (λ z. omega arith),
          s.rest l u r i (inr (omega arith)) k,
          row-miss t r (f u l) (λ z. omega arith),
          b.word (u * bucket_words + r * max_lanes + (first + l)),
        )
    go l u r i p j k g (yes e) (yes d) =
        let z : get_or new (v * bucket_words + t * max_lanes + (first + l)) 0
        ≡ get_or new (v * bucket_words + t * max_lanes + first + l) 0 =
        ap (λ (k : ℕ). get_or new k 0) (omega arith) in
        let y : get_or mid (v * bucket_words + t * max_lanes + (first + l)) 0
        ≡ get_or mid (v * bucket_words + t * max_lanes + first + l) 0 =
        ap (λ (k : ℕ). get_or mid k 0) (omega arith) in
        rw (e, d) (omega (arith, w.done l i, s.rest l v t i (inr (omega arith)) h, row-hit t t (f v l) refl))

-- all buckets, in all lanes: the source is gathered
pub spread-all :
    {f : ℕ → ℕ → ℕ} {bucket : ℕ → ℕ → ℕ → ℕ} {t rows buckets lanes : ℕ} {old new : List ℕ}
    → rows ≤ bucket_rows → Spread f t 0 buckets 0 lanes old new
    → ((l v s : ℕ) → l < lanes → v < buckets → bucket l v s ≡ in_row t s (f v l))
    → Gathered bucket rows buckets lanes old new
spread-all {old = old} {new = new} h s e =
    record {
      long = s.long;
      low = s.low;
      done = λ l v r i j k g.
          let z : 0 + l ≡ l = omega arith in
          let d = rw z at (s.done l v r i (omega arith) j (omega arith) g) in
          omega (arith, e l v r i j);
    }

-- ---- what is found

-- the words that found_in names: `near` those of gap 0, `other` those of gaps 2 and 3, `far` the rows that ran up
pub found-words :
    {table : List ℕ} (buckets a l near other far : ℕ)
    → Low table → far ≡ a / 4 * max_lanes + l → near ≡ (1 + a % 4) * bucket_words + far
    → other ≡ (buckets - 4 + a % 4) * bucket_words + far
    → min (min (get_or table (near + 4 * max_lanes) 0)
    (min (get_or table (other + 2 * max_lanes) 0) (get_or table (other + max_lanes) 0))) (get_or table far 0)
    ≡ found_in buckets table a l
unfolding lowest
found-words {table} buckets a l near other far w p q o =
    let at : ℕ → ℕ = λ k. get_or table k 0 in
    let z : at (other + max_lanes) ≡ min (at (other + max_lanes)) B = omega (arith, w.word (other + max_lanes)) in
    ap₂ min
    (ap₂ min (ap at (omega arith)) (ap₂ min (ap at (omega arith)) (z ∙ ap (λ (k : ℕ). min (at k) B) (omega arith))))
    (ap at (omega arith))

-- bucket 0 before anything ran up
pub run_none : (lanes : ℕ) {table : List ℕ} → Low table → RunUp 1 lanes table table
unfolding lowest from
run_none lanes {table} w =
    record { long = refl; low = w; near = λ l v t i j k. refl; far = λ l t i j. go l t j; rest = λ l t i j k. refl }
  where
    go : (l t : ℕ) → t < 1 → word_at table l 0 t ≡ lowest B (word_at table l 0) (from 0 (suc t))
    go l zero h = omega (arith, w.word (0 * bucket_words + 0 * max_lanes + l))
    go l (suc t) h = absurd (omega arith)

-- one row more
pub run_more :
    {lanes : ℕ} {old mid new : List ℕ} (t : ℕ)
    → lanes ≤ max_lanes → t + 1 < bucket_rows → RunUp (t + 1) lanes old mid
    → LoweredAt (words_from mid (t * max_lanes)) (max_lanes + t * max_lanes) lanes mid new
    → RunUp (t + 1 + 1) lanes old new
run_more {lanes} {old} {mid} {new} t n g s w =
    record {
      long = w.frame.long ∙ s.long;
      low = lowered_at-low w s.low;
      near = λ l v r i j k. away l v r i (λ e. omega arith) ∙ s.near l v r i j k;
      far = λ l r i j.
          below_more (λ (r : ℕ). word_at new l 0 r ≡ lowest B (word_at old l 0) (from 0 (suc r))) (t + 1)
          (λ r h. away l 0 r i (λ e. omega arith) ∙ s.far l r i h)
          (last l i)
          r
          j;
      rest = λ l r i j k. away l 0 r i (λ e. omega arith) ∙ s.rest l r i (omega arith) k;
    }
  where
    away : (l u r : ℕ) → l < lanes
        → (max_lanes + t * max_lanes ≤ u * bucket_words + r * max_lanes + l
        → max_lanes + t * max_lanes + lanes ≤ u * bucket_words + r * max_lanes + l)
        → word_at new l u r ≡ word_at mid l u r
    away l u r i e = frame-other (u * bucket_words + r * max_lanes + l) w.frame e

    last : (l : ℕ) → l < lanes → word_at new l 0 (t + 1) ≡ lowest B (word_at old l 0) (from 0 (suc (t + 1)))
    last l i =
        let at : ℕ → ℕ = λ k. get_or new k 0 in
        let x : word_at new l 0 (t + 1) ≡ get_or new (max_lanes + t * max_lanes + l) 0 = ap at (omega arith) in
        let y : get_or mid (max_lanes + t * max_lanes + l) 0 ≡ word_at mid l 0 (t + 1) =
        ap (λ (k : ℕ). get_or mid k 0) (omega arith) in
        let v : get_or mid (t * max_lanes + l) 0 ≡ word_at mid l 0 t = ap (λ (k : ℕ). get_or mid k 0) (omega arith) in
        let z : word_at old l 0 (0 + (t + 1)) ≡ word_at old l 0 (t + 1) = ap (word_at old l 0) (omega arith) in
        let e : lowest B (word_at old l 0) (from 0 (suc t)) ≡ lowest B (word_at old l 0) (from 0 (t + 1)) =
        ap (λ (k : ℕ). lowest B (word_at old l 0) (from 0 k)) (omega arith) in
        omega (
          arith,
          w.done l i,
          s.rest l (t + 1) i (omega arith) (omega arith),
          s.far l t i (omega arith),
          lowest-from B (word_at old l 0) 0 (t + 1),
        )

pub found-small : {table : List ℕ} (buckets a l : ℕ) → Low table → found_in buckets table a l ≤ B
found-small buckets a l w = omega (arith, w.word (0 * bucket_words + a / 4 * max_lanes + l))

-- ---- many sources

-- no source, or none that lowers anything
pub gathered_none :
    {bucket : ℕ → ℕ → ℕ → ℕ} (rows buckets lanes : ℕ) {table : List ℕ}
    → Low table → ((l v t : ℕ) → l < lanes → v < buckets → t < rows → B ≤ bucket l v t)
    → Gathered bucket rows buckets lanes table table
gathered_none rows buckets lanes {table} w h =
    record {
      long = refl;
      low = w;
      done = λ l v t i j k g. omega (arith, w.word (v * bucket_words + t * max_lanes + l), h l v t i j k);
    }

-- one after the other
pub gathered-join :
    {P Q S : ℕ → ℕ → ℕ → ℕ} {rows buckets lanes : ℕ} {old mid new : List ℕ}
    → Gathered P rows buckets lanes old mid → Gathered Q rows buckets lanes mid new
    → ((l v t : ℕ) → l < lanes → S l v t ≡ min (P l v t) (Q l v t))
    → Gathered S rows buckets lanes old new
gathered-join p q e =
    record {
      long = q.long ∙ p.long;
      low = q.low;
      done = λ l v t i j k g. omega (arith, p.done l v t i j k g, q.done l v t i j k g, e l v t i);
    }

-- the same by another name
pub gathered_ext :
    {P Q : ℕ → ℕ → ℕ → ℕ} {rows buckets lanes : ℕ} {old new : List ℕ}
    → Gathered P rows buckets lanes old new → ((l v t : ℕ) → l < lanes → Q l v t ≡ P l v t)
    → Gathered Q rows buckets lanes old new
gathered_ext p e =
    record { long = p.long; low = p.low; done = λ l v t i j k g. omega (arith, p.done l v t i j k g, e l v t i) }

-- what a function was given holds on
pub source-on :
    {bucket : ℕ → ℕ → ℕ → ℕ} {table table' st row pays : List ℕ} {s : Source} {rows lanes : ℕ}
    → WideSource table st row pays s lanes → Gathered bucket rows s.buckets lanes table table'
    → WideSource table' st row pays s lanes
source-on g w =
    record {
      words = g.words;
      low = g.low;
      table_low = w.low;
      table_long = w.long ∙ g.table_long;
      narrow = g.narrow;
      room = g.room;
      left = g.left;
      right = g.right;
      needed = g.needed;
      paid = g.paid;
    }

pub rows_on : {st st' row table : List ℕ} {k buckets lanes : ℕ} → ToRows st row table k buckets lanes → Low st'
    → ToRows st' row table k buckets lanes
rows_on g w =
    record {
      words = g.words;
      low = w;
      table_low = g.table_low;
      table_long = g.table_long;
      narrow = g.narrow;
      cell = g.cell;
      least = g.least;
      most = g.most;
    }

-- ---- from a table without sources

-- so many buckets are filled, and the last four of them are the buckets of gaps 2 and 3
module _
    {bucket : ℕ → ℕ → ℕ → ℕ} {poses buckets lanes : ℕ} {clear table : List ℕ}
    (few : poses ≤ max_poses) (least : 5 ≤ buckets) (most : buckets ≤ 9)
    (low : (l v t : ℕ) → bucket l v t ≤ B)
    (last : (l v t : ℕ) → v < 4 → bucket l (buckets - 4 + v) t ≡ bucket l (5 + v) t)
    (none : Cleared (rows_of poses) lanes buckets clear) (w : Gathered bucket (rows_of poses) buckets lanes clear table)
  where
    -- it has the buckets
    filled : (l v t : ℕ) → l < lanes → v < buckets → t < rows_of poses → v ≤ 8 * t → word_at table l v t ≡ bucket l v t
    filled l v t i j k g = omega (arith, w.done l v t i j k g, none.none l v t i j (omega arith), low l v t)

    -- those of the gaps that pay are found where they are looked for
    looked : (l gap v t : ℕ) → l < lanes → v < 4 → 1 ≤ t → t < rows_of poses
        → word_at table l (bucket_in (buckets - 4) gap v) t ≡ bucket l (bucket_in 5 gap v) t
    looked l gap v t i j b k = go (eqb gap 0)
      where
        go : (z : Bool) → word_at table l (cond z (1 + v) (buckets - 4 + v)) t ≡ bucket l (cond z (1 + v) (5 + v)) t
        go true = filled l (1 + v) t i (omega arith) k (omega arith)
        go false = filled l (buckets - 4 + v) t i (omega arith) k (omega arith) ∙ last l v t j

    -- and once bucket 0 ran up, what is found in them
    pub ready : {table' : List ℕ} → RunUp (rows_of poses - 3) lanes table table'
        → TableReady bucket poses buckets lanes table'
    unfolding found
    ready {table'} u =
        record {
          long = u.long ∙ w.long ∙ none.long;
          low = u.low;
          right = λ a l h i.
              ap₂ min
              (lowest-same (λ gap. word_at table' l (bucket_in (buckets - 4) gap (a % 4)) (a / 4 + 4 - gap))
              (λ gap. bucket l (bucket_in 5 gap (a % 4)) (a / 4 + 4 - gap)) paying
              (λ gap g.
              let b = paying-low gap g in
              u.near l (bucket_in (buckets - 4) gap (a % 4)) (a / 4 + 4 - gap) i (above gap (a % 4)) (omega arith)
              ∙ looked l gap (a % 4) (a / 4 + 4 - gap) i (omega arith) (omega arith) (omega arith)))
              (u.far l (a / 4) i (omega arith) ∙ lowest_ext (word_at table l 0) (bucket l 0) 0
              (suc (a / 4)) (λ t k. filled l 0 t i (omega arith) (omega arith) (omega arith)));
        }
      where
        above : (gap v : ℕ) → 1 ≤ bucket_in (buckets - 4) gap v
        above gap v = go (eqb gap 0)
          where
            go : (z : Bool) → 1 ≤ cond z (1 + v) (buckets - 4 + v)
            go true = omega arith
            go false = omega arith

    -- if nothing lowered it, nothing is found
    pub unused : table ≡ clear → (a l : ℕ) → a < poses → l < lanes → found (bucket l) a ≡ B
    unused e a l h i =
        found_ext (bucket l) (λ v t. B) a {rows = rows_of poses} (omega arith)
        (λ v t j k g. go v t j k g (dec_lt v buckets))
        ∙ found_none a
      where
        away : (v t : ℕ) → v < buckets → t < rows_of poses → v ≤ 8 * t → bucket l v t ≡ B
        away v t j k g =
            let z : word_at table l v t ≡ word_at clear l v t = ap (λ (s : List ℕ). word_at s l v t) e in
            omega (arith, filled l v t i j k g, none.none l v t i j k)

        go : (v t : ℕ) → v < 9 → t < rows_of poses → v ≤ 8 * t → Dec (v < buckets) → bucket l v t ≡ B
        go v t j k g (yes p) = away v t p k g
        go v t j k g (no p) =
            let x : 5 + (v - 5) ≡ v = omega arith in
            let y = rw x at (last l (v - 5) t (omega arith)) in
            omega (arith, away (buckets - 4 + (v - 5)) t (omega arith) k (omega arith))
