-- What is found in the buckets is the least by way of every source: for one source by the law of its toll, and a bucket
-- of the lowest of many sources finds the lowest of what each finds.
use Prim.Native.Nat.{ℕ, suc, ◌+◌, ◌*◌, ◌-◌, ◌/◌, ◌%◌, ◌≤◌, ◌<◌, min}
use Rattle.std.specs.Prelude.{◌≡◌, ◌≢◌, Bool, true, false, ltb, eqb}
use Rattle.std.proofs.Math.Path.{refl, ap}
use Rattle.std.proofs.Common.{sym, ap₂, ◌∙◌}
use Rattle.std.proofs.Math.Bool.{cond}
use mathlib.Core.List.{List, Memᴰ as In}
use native.Mathlib.Omega.{arith}
use Rattle.std.proofs.Math.Decide.{ℕ_discrete, dec_lt}
use borrow.Author.Tests.{lt-ltb, le-ltb}
use Rattle.lists.specs.Compare.{Eq?, same, differs, eq?}
use Rattle.lists.specs.Numbers.{from, in_from}
use Rattle.theory_pair.specs.Coded.{lowest, lowest-low}
use Rattle.theory_tables.specs.Steps.{B, Layer, state_count, last_at, is_source, via, reached}
use Rattle.theory_tables.specs.Lowest.{lowest-member, lowest-above, loop_member, loop_above}
use Rattle.search_row.specs.Words.{word_of, variant, end_in, differ_in, weight_in, toll_at, left_n, left_p, right_n, right_p}
use Rattle.search_row.specs.Words.{toll_in, deck_of, RowWords, filled_word, first_word, touching_word}
use Rattle.search_row.specs.Laws.{differ-low, pay-low}
use Rattle.search_buckets.specs.Loops.{lowest_cap, lowest-same, lowest-min, lowest-swap}
use Rattle.search_buckets.specs.Gaps.{paying, paying-low, Toll, pays, free, barred, toll?}
use Rattle.search_buckets.specs.Rows.{in_row, bucket_in, found, end_row_of, pay_in, one_pose, by_poses, one_state, by_states}

-- ---- one source in row r

pub row-hit : (r t c : ℕ) → r ≡ t → in_row r t c ≡ c
row-hit r t c h = go (eqb r t) (eq? r t)
  where
    go : (z : Bool) → Eq? r t z → cond z c B ≡ c
    go true (same e) = refl
    go false (differs n) = absurd (n h)

pub row-miss : (r t c : ℕ) → r ≢ t → in_row r t c ≡ B
row-miss r t c h = go (eqb r t) (eq? r t)
  where
    go : (z : Bool) → Eq? r t z → cond z c B ≡ B
    go true (same e) = absurd (h e)
    go false (differs n) = refl

-- in no row below its cost
pub row-above : (r t c : ℕ) → min c B ≤ in_row r t c
row-above r t c = go (eqb r t)
  where
    go : (z : Bool) → min c B ≤ cond z c B
    go true = omega arith
    go false = omega arith

-- a source in row r; what is found of it by a pose e sites right of the first one
module _ (r e : ℕ) where
  -- in the rows of the gaps that pay, where the source has a cost for each gap
  module _ (cost : ℕ → ℕ) (bucket : ℕ → ℕ → ℕ) (only : (gap t : ℕ) → bucket gap t ≡ in_row r t (cost gap)) where
    gap-miss : ((gap : ℕ) → In gap paying → r ≢ e + 4 - gap) → B ≤ lowest B (λ gap. bucket gap (e + 4 - gap)) paying
    gap-miss h = lowest-above B _ B paying (omega arith)
        (λ gap i. omega (arith, only gap (e + 4 - gap), row-miss r (e + 4 - gap) (cost gap) (h gap i)))

    gap-hit : (gap : ℕ) → In gap paying → r ≡ e + 4 - gap
        → lowest B (λ gap. bucket gap (e + 4 - gap)) paying ≡ min (cost gap) B
    gap-hit gap i h =
        omega (
          arith,
          lowest-member B (λ gap. bucket gap (e + 4 - gap)) paying i,
          only gap (e + 4 - gap),
          row-hit r (e + 4 - gap) (cost gap) h,
          lowest-low B (λ gap. bucket gap (e + 4 - gap)) paying,
          lowest-above B (λ gap. bucket gap (e + 4 - gap)) (min (cost gap) B) paying (omega arith)
              (λ g j. other g j (ℕ_discrete g gap)),
        )
      where
        -- no other gap has this row
        other : (g : ℕ) → In g paying → Dec (g ≡ gap) → min (cost gap) B ≤ bucket g (e + 4 - g)
        other g j (yes z) = rw z (omega (arith, only gap (e + 4 - gap), row-above r (e + 4 - gap) (cost gap)))
        other g j (no d) =
            let l = paying-low g j in
            let m = paying-low gap i in
            omega (arith, only g (e + 4 - g), row-miss r (e + 4 - g) (cost g) (λ z. d (omega arith)))

  -- in the rows up to e, where it costs c
  module _ (c : ℕ) (bucket : ℕ → ℕ) (only : (t : ℕ) → bucket t ≡ in_row r t c) where
    up_miss : e < r → B ≤ lowest B bucket (from 0 (suc e))
    up_miss h =
        loop_above B bucket (suc e) B (omega arith) (λ t i. omega (arith, only t, row-miss r t c (λ z. omega arith)))

    up_hit : r ≤ e → lowest B bucket (from 0 (suc e)) ≡ min c B
    up_hit h =
        omega (
          arith,
          loop_member B bucket (suc e) r (omega arith),
          only r,
          row-hit r r c refl,
          lowest-low B bucket (from 0 (suc e)),
          loop_above B bucket (suc e) (min c B) (omega arith) (λ t i. omega (arith, only t, row-above r t c)),
        )

-- a source that ends at y, by sites: the law of its toll
found-toll : (g e y c : ℕ) (pay : ℕ → ℕ) (near : ℕ → ℕ → ℕ) (far : ℕ → ℕ)
    → ((gap t : ℕ) → near gap t ≡ in_row (y + 4 - g) t (c + pay gap)) → ((t : ℕ) → far t ≡ in_row (y + 4 - g) t c)
    → min (c + toll_at (g + e) y pay) B
    ≡ min (lowest B (λ gap. near gap (e + 4 - gap)) paying) (lowest B far (from 0 (suc e)))
found-toll g e y c pay near far n f = go (toll_at (g + e) y pay) (toll? (g + e) y pay)
  where
    r : ℕ
    r = y + 4 - g

    cost : ℕ → ℕ
    cost gap = c + pay gap

    go : (z : ℕ) → Toll (g + e) y pay z
        → min (c + z) B ≡ min (lowest B (λ gap. near gap (e + 4 - gap)) paying) (lowest B far (from 0 (suc e)))
    go z (pays gap i h) =
        let l = paying-low gap i in
        omega (arith, gap-hit r e cost near n gap i (omega arith), up_miss r e c far f (omega arith))
    go z (free h) = omega (
      arith,
      gap-miss r e cost near n (λ gap i q. let l = paying-low gap i in omega arith),
      up_hit r e c far f (omega arith),
    )
    go z (barred h o) =
        omega (
          arith,
          gap-miss r e cost near n (λ gap i q. let l = paying-low gap i in o gap i (omega arith)),
          up_miss r e c far f (omega arith),
          lowest-low B (λ gap. near gap (e + 4 - gap)) paying,
          lowest-low B far (from 0 (suc e)),
        )

-- the buckets of the gaps that pay
pub bucket-low : (other gap v : ℕ) → other ≤ 5 → v < 4 → bucket_in other gap v ≤ 8
bucket-low other gap v h g = go (eqb gap 0)
  where
    go : (z : Bool) → cond z (1 + v) (other + v) ≤ 8
    go true = omega arith
    go false = omega arith

-- ---- one source by its words

module _ (row : List ℕ) (k b m : ℕ) where
  -- what is paid in the buckets of gap 0, in those of the other gaps, and in bucket 0
  pub pay-touching : (v : ℕ) → 1 ≤ v → v < 5
      → pay_in row k b m v ≡ word_of row m touching_word * differ_in row k b m (v - 1)
  unfolding pay_in
  pay-touching v h g = rw (le-ltb v 1 h, lt-ltb v 5 g)

  pub pay-apart : (v : ℕ) → 5 ≤ v → pay_in row k b m v ≡ word_of row m filled_word * differ_in row k b m (v - 5)
  unfolding pay_in
  pay-apart v h = rw (le-ltb v 1 (omega arith), le-ltb v 5 h)

  pub pay-none : pay_in row k b m 0 ≡ 0
  unfolding pay_in
  pay-none = refl

  -- by variants
  pub pay-same : (v : ℕ) → pay_in row k (variant b) m v ≡ pay_in row k b m v
  unfolding pay_in
  pay-same v =
      let e : variant (variant b) ≡ variant b = omega arith in
      ap (λ (u : ℕ). cond (ltb v 1) 0 (cond (ltb v 5)
      (word_of row m touching_word * differ_by u (v - 1)) (word_of row m filled_word * differ_by u (v - 5)))) e
    where
      differ_by : ℕ → ℕ → ℕ
      differ_by u a =
          cond (eqb (word_of row k (right_p + u)) (word_of row m (left_p + variant a))) 0 1
          + cond (eqb (word_of row k (right_n + u)) (word_of row m (left_n + variant a))) 0 1

  -- what pose a of m pays at a gap is what is paid in its bucket of that gap
  pay-bucket : (gap a : ℕ) → pay_in row k b m (bucket_in 5 gap (a % 4)) ≡ weight_in row m gap * differ_in row k b m a
  pay-bucket gap a = go (eqb gap 0)
    where
      vary : (v : ℕ) → variant v ≡ variant a → differ_in row k b m v ≡ differ_in row k b m a
      vary v e =
          ap (λ (u : ℕ). cond (eqb (word_of row k (right_p + variant b)) (word_of row m (left_p + u))) 0 1
          + cond (eqb (word_of row k (right_n + variant b)) (word_of row m (left_n + u))) 0 1) e

      go : (z : Bool) → pay_in row k b m (cond z (1 + a % 4) (5 + a % 4))
          ≡ cond z (word_of row m touching_word) (word_of row m filled_word) * differ_in row k b m a
      go true = pay-touching (1 + a % 4) (omega arith) (omega arith)
          ∙ ap (λ (d : ℕ). word_of row m touching_word * d) (vary (1 + a % 4 - 1) (omega arith))
      go false = pay-apart (5 + a % 4) (omega arith)
          ∙ ap (λ (d : ℕ). word_of row m filled_word * d) (vary (5 + a % 4 - 5) (omega arith))

  -- one weight for all gaps: the buckets of the other gaps are those of gap 0
  pub pay_twin : (v : ℕ) → v < 4 → word_of row m touching_word ≡ word_of row m filled_word
      → pay_in row k b m (5 + v) ≡ pay_in row k b m (1 + v)
  pay_twin v h e =
      let x : 5 + v - 5 ≡ 1 + v - 1 = omega arith in
      pay-apart (5 + v) (omega arith)
      ∙ ap₂ (λ (w u : ℕ). w * differ_in row k b m u) (sym e) x
      ∙ sym (pay-touching (1 + v) (omega arith) (omega arith))

  pub pay-small : (v : ℕ) → RowWords row → pay_in row k b m v ≤ B
  pay-small v w = go (dec_lt v 1) (dec_lt v 5)
    where
      go : Dec (v < 1) → Dec (v < 5) → pay_in row k b m v ≤ B
      go (yes h) g = let e : v ≡ 0 = omega arith in rw e (omega (arith, pay-none))
      go (no h) (yes g) =
          omega (arith, pay-touching v (omega arith) g, pay-low (w.weight m) (differ-low row k b m (v - 1)))
      go (no h) (no g) = omega (arith, pay-apart v (omega arith), pay-low (w.filled m) (differ-low row k b m (v - 5)))

pub found-one : (row : List ℕ) (k b m a c : ℕ) → min (c + toll_in row k b m a) B ≡ found (one_pose row k m b c) a
unfolding toll_in found end_row_of
found-one row k b m a c =
    found-toll (word_of row m first_word) (a / 4) (end_in row k b) c (λ gap. weight_in row m gap * differ_in row k b m a)
    (λ gap. one_pose row k m b c (bucket_in 5 gap (a % 4))) (one_pose row k m b c 0)
    (λ gap t. ap (λ (z : ℕ). in_row (end_row_of row k b m) t (c + z)) (pay-bucket row k b m gap a))
    (λ t. ap (λ (z : ℕ). in_row (end_row_of row k b m) t z) (let e = pay-none row k b m in omega arith))

-- ---- many sources

-- the lowest of many buckets finds the lowest of what each finds
pub found-lowest : {S : Type 0} (bucket : S → ℕ → ℕ → ℕ) (a : ℕ) (l : List S)
    → lowest B (λ s. found (bucket s) a) l ≡ found (λ v t. lowest B (λ s. bucket s v t) l) a
unfolding found
found-lowest bucket a l =
    lowest-min (λ s. lowest B (λ gap. bucket s (bucket_in 5 gap (a % 4)) (a / 4 + 4 - gap)) paying)
    (λ s. lowest B (bucket s 0) (from 0 (suc (a / 4)))) l
    ∙ ap₂ min
    (lowest-swap (λ s gap. bucket s (bucket_in 5 gap (a % 4)) (a / 4 + 4 - gap)) l paying)
    (lowest-swap (λ s t. bucket s 0 t) l (from 0 (suc (a / 4))))

-- buckets of B alone
pub found_none : (a : ℕ) → found (λ v t. B) a ≡ B
unfolding found
found_none a = let p = lowest-above B (λ (gap : ℕ). B) B paying (omega arith) (λ gap i. omega arith) in
    let q = lowest-above B (λ (t : ℕ). B) B (from 0 (suc (a / 4))) (omega arith) (λ t i. omega arith) in
    omega (arith, lowest-low B (λ (gap : ℕ). B) paying, lowest-low B (λ (t : ℕ). B) (from 0 (suc (a / 4))))

-- buckets of what is a source
found_if : (z : Bool) (bucket : ℕ → ℕ → ℕ) (a : ℕ) → cond z (found bucket a) B ≡ found (λ v t. cond z (bucket v t) B) a
found_if true bucket a = refl
found_if false bucket a = sym (found_none a)

-- by way of all poses of a cell
via-found : (row : List ℕ) (n poses R : ℕ) (f : Layer) (i p m a : ℕ)
    → via (deck_of row n poses) R f i p m a ≡ found (by_poses row (last_at R i p) m (f p) poses) a
unfolding via by_poses
via-found row n poses R f i p m a =
    lowest_cap _ _ (from 0 poses) (λ b. let e = found-one row (last_at R i p) b m a (f p b) in omega arith)
    ∙ found-lowest (λ b. one_pose row (last_at R i p) m b (f p b)) a (from 0 poses)

-- by way of all sources
pub reached-found : (row : List ℕ) (n poses R : ℕ) (f : Layer) (i q a : ℕ)
    → reached (deck_of row n poses) R f i q a ≡ found (by_states row (deck_of row n poses) R f i q (state_count R)) a
unfolding reached by_states one_state
reached-found row n poses R f i q a =
    let src : ℕ → Bool = is_source (deck_of row n poses) R i q in
    let bucket : ℕ → ℕ → ℕ → ℕ = λ p. by_poses row (last_at R i p) (last_at R (suc i) q) (f p) poses in
    lowest_cap _ _ (from 0 (state_count R))
    (λ p. ap (λ (x : ℕ). min x B) (ap (λ (x : ℕ). cond (src p) x B)
    (via-found row n poses R f i p (last_at R (suc i) q) a) ∙ found_if (src p) (bucket p) a))
    ∙ found-lowest (λ p v t. cond (src p) (bucket p v t) B) a (from 0 (state_count R))

-- only the rows that the gaps name count: row 0 in bucket 0 alone
pub found_ext : (P Q : ℕ → ℕ → ℕ) (a : ℕ) {rows : ℕ} → a / 4 + 4 < rows
    → ((v t : ℕ) → v < 9 → t < rows → v ≤ 8 * t → P v t ≡ Q v t) → found P a ≡ found Q a
unfolding found
found_ext P Q a {rows} h e =
    ap₂ min
    (lowest-same (λ gap. P (bucket_in 5 gap (a % 4)) (a / 4 + 4 - gap))
    (λ gap. Q (bucket_in 5 gap (a % 4)) (a / 4 + 4 - gap)) paying
    (λ gap i. let l = paying-low gap i in let p = bucket-low 5 gap (a % 4) (omega arith) (omega arith) in
    e (bucket_in 5 gap (a % 4)) (a / 4 + 4 - gap) (omega arith) (omega arith) (omega arith)))
    (lowest-same (P 0) (Q 0) (from 0 (suc (a / 4))) (λ t i. let l = in_from 0 (suc (a / 4)) i in
    e 0 t (omega arith) (omega arith) (omega arith)))

-- nothing is found where there is nothing
pub found-away : (P : ℕ → ℕ → ℕ) (a : ℕ) → ((v t : ℕ) → P v t ≡ B) → found P a ≡ B
found-away P a e = found_ext P (λ v t. B) a {rows = a / 4 + 5} (omega arith) (λ v t i j k. e v t) ∙ found_none a
