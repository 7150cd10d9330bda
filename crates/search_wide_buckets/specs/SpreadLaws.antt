-- Laws of a source spread lane by lane, and of some buckets after the others.
use Rattle.std.specs.Prelude.{ℕ, ◌+◌, ◌*◌, ◌≤◌, ◌<◌, min, ◌≡◌, ◌≢◌, ◌⊎◌, List}
use Rattle.std.proofs.Common.{sym, ap, ap₂, ◌∙◌, ⊎_elim, inl, inr, arith}
use Rattle.std.proofs.Math.Decide.{dec_lt}
use Rattle.search_store.specs.Map.{bucket_rows, max_lanes}
use Rattle.search_buckets.specs.Rows.{in_row, PaysLow}
use Rattle.search_wide_buckets.specs.Table.{word_at, FiveOrNine, Spread}

-- how many buckets there can be
pub five-least : {buckets : ℕ} → FiveOrNine buckets → 5 ≤ buckets
five-least p = ⊎_elim (λ e. omega arith) (λ e. omega arith) p

pub nine-most : {buckets : ℕ} → FiveOrNine buckets → buckets ≤ 9
nine-most p = ⊎_elim (λ e. omega arith) (λ e. omega arith) p

pub nine_else : {buckets : ℕ} → FiveOrNine buckets → buckets ≢ 5 → buckets ≡ 9
nine_else p n = ⊎_elim (λ e. absurd (n e)) (λ e. e) p

-- what is paid in fewer buckets
pub pays-fewer : {buckets : ℕ} {pays : List ℕ} (fewer : ℕ) → PaysLow buckets pays → fewer ≤ buckets → PaysLow fewer pays
pays-fewer fewer p h = record { long = p.long; low = λ j i c. p.low j i (omega arith) }

-- some buckets, then those that follow
pub spread_join :
    {f : ℕ → ℕ → ℕ} {t least mid last first lanes : ℕ} {old on new : List ℕ}
    → least ≤ mid → mid ≤ last → Spread f t least mid first lanes old on → Spread f t mid last first lanes on new
    → Spread f t least last first lanes old new
spread_join {f} {t} {least} {mid} {last} {first} {lanes} {old} {on} {new} p q s w =
    record {
      long = w.long ∙ s.long;
      low = w.low;
      done = λ j v r i a b k c. go j v r i a b k c (dec_lt v mid);
      rest = λ j v r i a k. w.rest j v r i (⊎_elim (λ h. inl (omega arith)) (λ h. inr h) a) k
          ∙ s.rest j v r i (⊎_elim (λ h. inl h) (λ h. inr (omega arith)) a) k;
      other = λ l v r i a k. w.other l v r i a k ∙ s.other l v r i a k;
    }
  where
    go : (j v r : ℕ) → j < lanes → least ≤ v → v < last → r < bucket_rows → v ≤ 8 * r → Dec (v < mid)
        → word_at new (first + j) v r ≡ min (word_at old (first + j) v r) (in_row t r (f v j))
    go j v r i a b k c (yes h) = w.rest j v r i (inl h) k ∙ s.done j v r i a h k c
    go j v r i a b k c (no h) =
        omega (arith, w.done j v r i (omega arith) b k c, s.rest j v r i (inr (omega arith)) k)

-- one lane more
pub spread-lane :
    {f : ℕ → ℕ → ℕ} {g : ℕ → ℕ → ℕ} {t least last first lanes : ℕ} {old mid new : List ℕ} (lane : ℕ)
    → lane ≡ first + lanes → lane < max_lanes → ((v : ℕ) → g v 0 ≡ f v lanes) → Spread f t least last first lanes old mid
    → Spread g t least last lane 1 mid new
    → Spread f t least last first (lanes + 1) old new
spread-lane {f} {g} {t} {least} {last} {first} {lanes} {old} {mid} {new} lane z n e s w =
    record {
      long = w.long ∙ s.long;
      low = w.low;
      done = λ l v r i a j k c. go l v r i a j k c (dec_lt l lanes);
      rest = λ l v r i j k. keep l v r i j k (dec_lt l lanes);
      other = λ l v r i j k. w.other l v r i (⊎_elim (λ p. inl (omega arith)) (λ p. inr (omega arith)) j) k
          ∙ s.other l v r i (⊎_elim (λ p. inl p) (λ p. inr (omega arith)) j) k;
    }
  where
    -- the lane that is new, and those before it
    fresh : (v r : ℕ) → r < bucket_rows → word_at mid lane v r ≡ word_at old lane v r
    fresh v r k = s.other lane v r n (inr (omega arith)) k

    before : (l v r : ℕ) → l < lanes → r < bucket_rows → word_at new (first + l) v r ≡ word_at mid (first + l) v r
    before l v r i k = w.other (first + l) v r (omega arith) (inl (omega arith)) k

    go : (l v r : ℕ) → l < lanes + 1 → least ≤ v → v < last → r < bucket_rows → v ≤ 8 * r → Dec (l < lanes)
        → word_at new (first + l) v r ≡ min (word_at old (first + l) v r) (in_row t r (f v l))
    go l v r i a j k c (yes h) = before l v r h k ∙ s.done l v r h a j k c
    go l v r i a j k c (no h) =
        let x : l ≡ lanes = omega arith in
        let y : first + l ≡ lane + 0 = omega arith in
        let d = w.done 0 v r (omega arith) a j k c in
        let b : lane ≡ lane + 0 = omega arith in
        let m = rw b at (fresh v r k) in
        rw y (d ∙ ap₂ (λ (p q : ℕ). min p (in_row t r q)) m (e v ∙ ap (f v) (sym x)))

    keep : (l v r : ℕ) → l < lanes + 1 → (v < least) ⊎ (last ≤ v) → r < bucket_rows → Dec (l < lanes)
        → word_at new (first + l) v r ≡ word_at old (first + l) v r
    keep l v r i j k (yes h) = before l v r h k ∙ s.rest l v r h j k
    keep l v r i j k (no h) =
        let y : first + l ≡ lane + 0 = omega arith in
        let b : lane ≡ lane + 0 = omega arith in
        rw y (w.rest 0 v r (omega arith) j k ∙ (rw b at (fresh v r k)))
