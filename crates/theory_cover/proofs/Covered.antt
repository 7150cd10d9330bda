-- Theorems on the definitions of specs/Covered.
-- How many sites the rest of two rows covers anew: one cell more covers its own new sites, and what is left then covers
-- the others.
use Rattle.std.specs.Prelude.{ℕ, suc, ◌+◌, max, ◌≤◌, ◌<◌, ◌≡◌, refl, Bool, true, false, ◌&&◌, ◌||◌, cond, List, [], ◌∷◌, length, leb, ltb}
use Rattle.std.proofs.Common.{ap, ap₂, ◌∙◌, true≢false, arith}
use Rattle.std.proofs.lemmas.Bool.{lt-leb}
use Rattle.lists.specs.Compare.{Le?, low, high, le?}
use Rattle.lists.specs.Numbers.{from}
use Rattle.theory_cover.specs.Sums.{sum_ext, sum-plus, sum_zeros, between, sum-between}
use Rattle.theory_cover.specs.FileRow.{FileRow, start_of, end_of, Follows, RowFrom, StartsFrom, covers}
use Rattle.theory_cover.specs.Recurrence.{new_sites}
use Rattle.theory_cover.specs.Covered.{covered, RowsFrom, anew, Inside}

abbrev covered_at : (ℕ → Bool) → (ℕ → Bool) → ℕ → ℕ → ℕ
covered_at g h e s = cond (leb e s && (g s || h s)) 1 0

-- ---- the sites from e on, of n, that one of two tests covers

or_swap : (a b : Bool) → (a || b) ≡ (b || a)
or_swap true true = refl
or_swap true false = refl
or_swap false true = refl
or_swap false false = refl

or_assoc : (a b c : Bool) → ((a || b) || c) ≡ (a || (b || c))
or_assoc true b c = refl
or_assoc false b c = refl

covered-swap : (g h : ℕ → Bool) (d e n : ℕ) → d ≡ e → covered g h d n ≡ covered h g e n
covered-swap g h d e n z = sum_ext (covered_at g h d) (covered_at h g e) (from 0 n)
    (λ s m. ap₂ (λ x t. cond (leb x s && t) 1 0) z (or_swap (g s) (h s)))

covered_none : (e n : ℕ) → covered (λ s. false) (λ s. false) e n ≡ 0
covered_none e n = sum_ext (covered_at (λ s. false) (λ s. false) e) (λ s. 0) (from 0 n) (λ s m. go (leb e s))
    ∙ sum_zeros (from 0 n)
  where
    go : (t : Bool) → ◌≡◌ {A = ℕ} (cond (t && false) 1 0) 0
    go true = refl
    go false = refl

-- one site: left of a cell at x, in it, right of it
point : (a b x w s : ℕ) (p q r k v c : Bool) → a ≤ x → Le? (max a b) s p → Le? x s q → Le? (suc s) (x + w) r
    → Le? (max b x) s k → Le? (max (x + w) b) s v → (s < x → c ≡ false)
    → cond (p && ((q && r) || c)) 1 0 ≡ cond (k && r) 1 0 + cond (v && c) 1 0
point a b x w s p false r true v c i P (high Q) R (low K) W n = absurd (omega arith)
point a b x w s p false r false v true i P (high Q) R K W n = absurd (true≢false (n Q))
point a b x w s true false r false true false i P Q R K W n = refl
point a b x w s true false r false false false i P Q R K W n = refl
point a b x w s false false r false true false i P Q R K W n = refl
point a b x w s false false r false false false i P Q R K W n = refl
point a b x w s p true true k true c i P Q (low R) K (low W) n = absurd (omega arith)
point a b x w s true true true true false c i P Q R K W n = refl
point a b x w s false true true false false c i P Q R K W n = refl
point a b x w s true true true false false c i (low P) (low Q) R (high K) W n = absurd (omega arith)
point a b x w s false true true true false c i (high P) Q R (low K) W n = absurd (omega arith)
point a b x w s true true false true true c i P Q R K W n = omega arith
point a b x w s true true false false true c i P Q R K W n = omega arith
point a b x w s false true false true false c i P Q R K W n = refl
point a b x w s false true false false false c i P Q R K W n = refl
point a b x w s true true false k false c i (low P) Q (high R) K (high W) n = absurd (omega arith)
point a b x w s false true false k true c i (high P) Q (high R) K (low W) n = absurd (omega arith)

-- a cell at x, right of what its row covers up to a; all other cells start from x on
cover_step : (g h : ℕ → Bool) (a b x w n : ℕ) → a ≤ x → x + w ≤ n → ((s : ℕ) → s < x → (g s || h s) ≡ false)
    → covered (λ s. (leb x s && ltb s (x + w)) || g s) h (max a b) n
    ≡ new_sites b x w + covered g h (max (x + w) b) n
cover_step g h a b x w n i l f =
    sum_ext (covered_at (λ s. (leb x s && ltb s (x + w)) || g s) h (max a b))
    (λ s. between (max b x) (x + w) s + covered_at g h (max (x + w) b) s) (from 0 n) (λ s m. at s)
    ∙ sum-plus (between (max b x) (x + w)) (covered_at g h (max (x + w) b)) (from 0 n)
    ∙ ap (λ y. y + covered g h (max (x + w) b) n) (let z = sum-between (max b x) (x + w) 0 n in omega arith)
  where
    at : (s : ℕ) → covered_at (λ s. (leb x s && ltb s (x + w)) || g s) h (max a b) s
        ≡ between (max b x) (x + w) s + covered_at g h (max (x + w) b) s
    at s =
        ap (λ t. cond (leb (max a b) s && t) 1 0) (or_assoc (leb x s && ltb s (x + w)) (g s) (h s))
        ∙ point a b x w s (leb (max a b) s) (leb x s) (ltb s (x + w)) (leb (max b x) s) (leb (max (x + w) b) s)
        (g s || h s) i (le? _ _) (le? _ _) (le? _ _) (le? _ _) (le? _ _) (f s)

-- ---- cells that start from z on

module _ (L : FileRow) where
  starts_less : (p y z : ℕ) (ts : List ℕ) → z ≤ y → StartsFrom L p y ts → StartsFrom L p z ts
  starts_less p y z [] h f = tt
  starts_less p y z (t ∷ ts) h f = omega arith

  row_starts : (p a : ℕ) (ts : List ℕ) → RowFrom L p a ts → StartsFrom L p a ts
  row_starts p a [] r = tt
  row_starts p a (t ∷ ts) r = r.0.clear

  -- no site number is left over
  pub row-size : (p a : ℕ) (ts : List ℕ) → RowFrom L p a ts → p + length ts ≡ L.size
  row-size p a [] r = omega arith
  row-size p a (t ∷ ts) r = let e = row-size (suc p) (L.site p t + L.wide p) ts r.1 in omega arith

  -- they cover nothing left of z
  row-clear : (p a z s : ℕ) (ts : List ℕ) → RowFrom L p a ts → StartsFrom L p z ts → s < z → covers L p ts s ≡ false
  row-clear p a z s [] r f h = refl
  row-clear p a z s (t ∷ ts) r f h =
      let end = L.site p t + L.wide p in
      let later = starts_less (suc p) end z ts (omega arith) (row_starts (suc p) end ts r.1) in
      ap₂ ◌||◌ (ap (λ b. b && ltb s end) (lt-leb (L.site p t) s (omega arith)))
      (row-clear (suc p) end z s ts r.1 later h)

-- ---- the rest of both rows

-- both rows, from the beginning
pub rows_begin : (L M : FileRow) (ts us : List ℕ) → RowFrom L 0 0 ts → RowFrom M 0 0 us → RowsFrom L M 0 0 0 0 ts us
rows_begin L M ts us r s = record {
  row₀ = r;
  row₁ = s;
  rises₀ = starts_less L 0 0 (max 0 0) ts (omega arith) (row_starts L 0 0 ts r);
  rises₁ = starts_less M 0 0 (max 0 0) us (omega arith) (row_starts M 0 0 us s);
}

module _ (L M : FileRow) (p t q u : ℕ) where
  -- no cell is left
  pub rows_end : p ≡ L.size → q ≡ M.size → RowsFrom L M p t q u [] []
  rows_end e f = record { row₀ = e; row₁ = f; rises₀ = tt; rises₁ = tt }

  pub anew-end : (n : ℕ) → anew L M n p t q u [] [] ≡ 0
  anew-end n = covered_none (max (end_of L p t) (end_of M q u)) n

  -- the rows exchanged
  pub rows-swap : (ts us : List ℕ) → RowsFrom L M p t q u ts us → RowsFrom M L q u p t us ts
  rows-swap ts us l = record {
    row₀ = l.row₁;
    row₁ = l.row₀;
    rises₀ = starts_less M q _ _ us (omega arith) l.rises₁;
    rises₁ = starts_less L p _ _ ts (omega arith) l.rises₀;
  }

  pub anew-swap : (n : ℕ) (ts us : List ℕ) → anew L M n p t q u ts us ≡ anew M L n q u p t us ts
  anew-swap n ts us = covered-swap (covers L p ts) (covers M q us) (max (end_of L p t) (end_of M q u))
      (max (end_of M q u) (end_of L p t)) n (omega arith)

-- cell p goes first, at its site number v: what is left, and what it covers
module _ (L M : FileRow) (p t q u v : ℕ) (ts us : List ℕ) where
  abbrev x : ℕ
  x = L.site p v

  pub rows_next : RowsFrom L M p t q u (v ∷ ts) us → StartsFrom M q x us → RowsFrom L M (suc p) v q u ts us
  rows_next l f = record {
    row₀ = l.row₀.1;
    row₁ = l.row₁;
    rises₀ = starts_less L (suc p) (x + L.wide p) (max x (start_of M q u)) ts (let z = l.rises₀ in omega arith)
        (row_starts L (suc p) (x + L.wide p) ts l.row₀.1);
    rises₁ = starts_less M q x (max x (start_of M q u)) us (let z = l.rises₀ in omega arith) f;
  }

  -- and back: before what is left
  pub rows_before : RowsFrom L M (suc p) v q u ts us → Follows L p (end_of L p t) v
      → max (start_of L p t) (start_of M q u) ≤ x → RowsFrom L M p t q u (v ∷ ts) us
  rows_before l f h = record {
    row₀ = (f, l.row₀);
    row₁ = l.row₁;
    rises₀ = h;
    rises₁ = starts_less M q (max x (start_of M q u)) (max (start_of L p t) (start_of M q u)) us (omega arith)
        l.rises₁;
  }

  pub rows-after : RowsFrom L M (suc p) v q u ts us → StartsFrom M q x us
  rows-after l = starts_less M q (max x (start_of M q u)) x us (omega arith) l.rises₁

  pub anew-next : (n : ℕ) → Inside L n → RowsFrom L M p t q u (v ∷ ts) us → StartsFrom M q x us
      → anew L M n p t q u (v ∷ ts) us ≡ new_sites (end_of M q u) x (L.wide p) + anew L M n (suc p) v q u ts us
  anew-next n inside l f =
      let end = x + L.wide p in
      let later = starts_less L (suc p) end x ts (omega arith) (row_starts L (suc p) end ts l.row₀.1) in
      cover_step (covers L (suc p) ts) (covers M q us) (end_of L p t) (end_of M q u) x (L.wide p) n
      l.row₀.0.clear (inside p (end_of L p t) v l.row₀.0)
      (λ s h. ap₂ ◌||◌ (row-clear L (suc p) end x s ts l.row₀.1 later h)
      (row-clear M q (end_of M q u) x s us l.row₁ f h))
