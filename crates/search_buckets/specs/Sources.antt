-- Laws of what sources pay, as words, and of the buckets of many sources, one more at a time.
use Rattle.std.specs.Prelude.{ℕ, suc, ◌+◌, ◌*◌, ◌-◌, ◌/◌, ◌%◌, ◌≤◌, ◌<◌, min, ◌≡◌, refl, ◌⊎◌, Bool, true, false, List, length, get_or, set, eqb}
use Rattle.std.proofs.Common.{sym, ap₂, ◌∙◌, inl, inr, below_more, length-set, get_or-set_same, get_or-set_other}
use Rattle.std.proofs.Math.Path.{ap}
use Rattle.std.proofs.Math.Bool.{cond}
use native.Mathlib.Omega.{arith}
use Rattle.theory_tables.specs.Steps.{B, Deck, Layer, last_at, is_source}
use Rattle.theory_tables.specs.Lowest.{loop_above}
use Rattle.lists.specs.Compare.{Eq?, same, differs, eq?}
use Rattle.lists.specs.Numbers.{from}
use Rattle.theory_pair.specs.Coded.{lowest-low}
use Rattle.search_row.specs.Words.{word_of, RowWords, filled_word, touching_word}
use Rattle.search_buckets.specs.Loops.{lowest-none, lowest-more, lowest_ext}
use Rattle.search_buckets.specs.Rows.{in_row, buckets_in, end_row_of, pay_in, Pays, pay_words}
use Rattle.search_buckets.specs.Rows.{PaysLow, one_pose, by_poses, one_state, by_states}
use Rattle.search_buckets.specs.Laws.{pay-same, pay-small, pay_twin, row-above}

-- ---- what is paid, as words

pub pays-none : (row : List ℕ) (k m buckets : ℕ) {pays : List ℕ} → length pays ≡ pay_words → Pays row k m buckets 0 pays
pays-none row k m buckets h = record { long = h; pay = λ j l. absurd (omega arith) }

-- one bucket more of variant u
pub pays-next :
    {row pays : List ℕ} {k m buckets : ℕ} (u v x : ℕ)
    → Pays row k m buckets (u * 9 + v) pays → u < 4 → v < 9 → x ≡ pay_in row k u m v
    → Pays row k m buckets (u * 9 + (v + 1)) (set pays (u * 9 + v) x)
pays-next {row} {pays} {k} {m} {buckets} u v x w h i e =
    let n = w.long in
    let j : ℕ = u * 9 + v in
    let z : j + 1 ≡ u * 9 + (v + 1) = omega arith in
    let here : x ≡ pay_in row k (j / 9) m (j % 9) = e
    ∙ ap₂ (λ (a b : ℕ). pay_in row k a m b) (omega arith) (omega arith) in
    let r : Pays row k m buckets (j + 1) (set pays j x) = record {
      long = length-set pays j x ∙ n;
      pay = below_more (λ (i : ℕ). i % 9 < buckets → get_or (set pays j x) i 0 ≡ pay_in row k (i / 9) m (i % 9)) j
          (λ i g c. get_or-set_other pays j i x 0 (omega arith) ∙ w.pay i g c)
          (λ c. get_or-set_same pays j x 0 (omega arith) ∙ here);
    } in
    rw z at r

-- the buckets that are not needed count for nothing
pub pays-row :
    {row pays : List ℕ} {k m buckets : ℕ} (u : ℕ)
    → Pays row k m buckets (u * 9 + buckets) pays → buckets ≤ 9 → Pays row k m buckets (u * 9 + 9) pays
pays-row {buckets = buckets} u w h = record { long = w.long; pay = λ j g c. w.pay j (omega arith) c }

pub pays-low : {row pays : List ℕ} {k m buckets : ℕ} → RowWords row → Pays row k m buckets pay_words pays
    → PaysLow buckets pays
pays-low {row} {k = k} {m = m} w p =
    record { long = p.long; low = λ j h c. omega (arith, p.pay j h c, pay-small row k (j / 9) m (j % 9) w) }

-- a source's pose in the buckets, from the words of what it pays
pub pose-pays :
    {row pays : List ℕ} {k m buckets t : ℕ} (b v s x : ℕ)
    → Pays row k m buckets pay_words pays → t ≡ end_row_of row k b m → v < buckets → buckets ≤ 9
    → one_pose row k m b x v s ≡ in_row t s (x + get_or pays (b % 4 * 9 + v) 0)
pose-pays {row} {pays} {k} {m} b v s x p e h g =
    let j : ℕ = b % 4 * 9 + v in
    let c : j % 9 ≡ v = omega arith in
    let z : get_or pays j 0 ≡ pay_in row k b m v = p.pay j (omega arith) (omega arith)
    ∙ ap₂ (λ (u w : ℕ). pay_in row k u m w) (omega arith) c ∙ pay-same row k b m v in
    ap₂ (λ (r y : ℕ). in_row r s (x + y)) (sym e) (sym z)

-- ---- many sources

-- the poses below n
module _ (row : List ℕ) (k m : ℕ) (f : ℕ → ℕ) where
  pub poses-none : (v t : ℕ) → by_poses row k m f 0 v t ≡ B
  unfolding by_poses
  poses-none v t = lowest-none _

  pub poses-more : (n v t : ℕ)
      → by_poses row k m f (n + 1) v t ≡ min (by_poses row k m f n v t) (one_pose row k m n (f n) v t)
  unfolding by_poses
  poses-more n v t = lowest-more _ n

  -- poses without any way
  pub poses-above : (n v t : ℕ) → ((b : ℕ) → b < n → B ≤ f b) → B ≤ by_poses row k m f n v t
  unfolding by_poses
  poses-above n v t h =
      loop_above B (λ b. one_pose row k m b (f b) v t) n B (omega arith)
      (λ b i. omega (arith, h b i, row-above (end_row_of row k b m) t (f b + pay_in row k b m v)))

-- the states below n
module _ (row : List ℕ) (D : Deck) (R : ℕ) (f : Layer) (i q : ℕ) where
  pub state_in_lem : (p v t : ℕ) → is_source D R i q p ≡ true
      → one_state row D R f i q p v t ≡ by_poses row (last_at R i p) (last_at R (suc i) q) (f p) D.poses v t
  unfolding one_state
  state_in_lem p v t e = ap (λ z. cond z (by_poses row (last_at R i p) (last_at R (suc i) q) (f p) D.poses v t) B) e

  pub state-out : (p v t : ℕ) → is_source D R i q p ≡ false → one_state row D R f i q p v t ≡ B
  unfolding one_state
  state-out p v t e = ap (λ z. cond z (by_poses row (last_at R i p) (last_at R (suc i) q) (f p) D.poses v t) B) e

  pub states-none : (v t : ℕ) → by_states row D R f i q 0 v t ≡ B
  unfolding by_states
  states-none v t = lowest-none _

  pub states-more : (n v t : ℕ)
      → by_states row D R f i q (n + 1) v t ≡ min (by_states row D R f i q n v t) (one_state row D R f i q n v t)
  unfolding by_states
  states-more n v t = lowest-more _ n

  -- none of them a source with a way
  pub states-away : (n v t : ℕ) → ((p : ℕ) → p < n → B ≤ one_state row D R f i q p v t)
      → by_states row D R f i q n v t ≡ B
  unfolding by_states
  states-away n v t h =
      omega (
        arith,
        lowest-low B (λ p. one_state row D R f i q p v t) (from 0 n),
        loop_above B (λ p. one_state row D R f i q p v t) n B (omega arith) h,
      )

  pub states-low : (n v t : ℕ) → by_states row D R f i q n v t ≤ B
  unfolding by_states
  states-low n v t = lowest-low B _ (from 0 n)

-- ---- one weight for all gaps

module _ (row : List ℕ) (m : ℕ) (e : word_of row m touching_word ≡ word_of row m filled_word) where
  pub pose_twin : (k b c v t : ℕ) → v < 4 → one_pose row k m b c (5 + v) t ≡ one_pose row k m b c (1 + v) t
  pose_twin k b c v t h = ap (λ (z : ℕ). in_row (end_row_of row k b m) t (c + z)) (pay_twin row k b m v h e)

  poses_twin : (k : ℕ) (f : ℕ → ℕ) (n v t : ℕ) → v < 4 → by_poses row k m f n (5 + v) t ≡ by_poses row k m f n (1 + v) t
  unfolding by_poses
  poses_twin k f n v t h = lowest_ext _ _ 0 n (λ b i. pose_twin k b (f b) v t h)

pub states_twin :
    (row : List ℕ) (D : Deck) (R : ℕ) (f : Layer) (i q n v t : ℕ)
    → word_of row (last_at R (suc i) q) touching_word ≡ word_of row (last_at R (suc i) q) filled_word → v < 4
    → by_states row D R f i q n (5 + v) t ≡ by_states row D R f i q n (1 + v) t
unfolding by_states one_state
states_twin row D R f i q n v t e h =
    lowest_ext _ _ 0 n (λ p j. ap (λ (x : ℕ). cond (is_source D R i q p) x B)
    (poses_twin row (last_at R (suc i) q) e (last_at R i p) (f p) D.poses v t h))

-- ---- how many buckets

pub buckets_either : (row : List ℕ) (m : ℕ) → (buckets_in row m ≡ 5) ⊎ (buckets_in row m ≡ 9)
unfolding buckets_in
buckets_either row m = go (eqb (word_of row m touching_word) (word_of row m filled_word))
  where
    go : (z : Bool) → (◌≡◌ {A = ℕ} (cond z 5 9) 5) ⊎ (◌≡◌ {A = ℕ} (cond z 5 9) 9)
    go true = inl refl
    go false = inr refl

-- the last four of them are as the buckets of the other gaps, for what is the same in
-- buckets 5 + v and 1 + v where there is one weight
pub buckets_last :
    (P : ℕ → ℕ) (row : List ℕ) (m v : ℕ)
    → (word_of row m touching_word ≡ word_of row m filled_word → P (5 + v) ≡ P (1 + v))
    → P (buckets_in row m - 4 + v) ≡ P (5 + v)
unfolding buckets_in
buckets_last P row m v h = go (eqb (word_of row m touching_word) (word_of row m filled_word))
    (eq? (word_of row m touching_word) (word_of row m filled_word))
  where
    go : (z : Bool) → Eq? (word_of row m touching_word) (word_of row m filled_word) z → P (cond z 5 9 - 4 + v) ≡ P (5 + v)
    go true (same e) = sym (h e)
    go false (differs n) = refl
