-- A row as a list of cells: the cells of the list, and their positions in it. What is
-- said of the cells is said of the positions.
use Rattle.std.specs.Prelude.{◌≡◌, refl, ◌≢◌, ◌↔◌, ◌⊎◌, Bool, true, false, cond, ℕ, zero, suc, ◌+◌, ◌≤◌, ◌<◌, length, get_or, leb, eqb}
use Rattle.std.proofs.Common.{sym, ap, ap₂, ◌∙◌, subst, arith}
use mathlib.Core.List.Memᴰ
use mathlib.Core.List.Memᴰ.{head as here}
use mathlib.Core.List.Memᴰ.{tail as there}
use mathlib.Core.List.{List, [], ◌∷◌, Memᴰ as In}
use Rattle.lists.specs.Compare.{Eq?, same, differs, eq?}
use Rattle.lists.specs.Numbers.{from, in_from}
use Rattle.lists.specs.Membership.{Distinct}
use Rattle.lists.specs.Neighbours.{Pairs, Chain, Next}
use Rattle.theory_row.specs.Order.{put, sort, order, place}
use Rattle.theory_row.proofs.Order.{order_below}
use Rattle.theory_row.specs.Rules.{Clear, NoGapOne, sum, sum_next, sum_neighbours}
use Rattle.theory_row.specs.Row.{LegalSites}
use Rattle.theory_pair.specs.Ends.{last_from, Ended}

-- ---- the cells at given positions

-- the cell at position p of a list
abbrev pub at : List ℕ → ℕ → ℕ
at ms p = get_or ms p 0

unfoldable pub images : (ℕ → ℕ) → List ℕ → List ℕ
images c [] = []
images c (p ∷ l) = c p ∷ images c l

pub at_in : (ms : List ℕ) (p : ℕ) → p < length ms → In (at ms p) ms
at_in [] p h = absurd (omega arith)
at_in (m ∷ ms) zero h = here refl
at_in (m ∷ ms) (suc p) h = there (at_in ms p (omega arith))

pub at_place : (ms : List ℕ) (k : ℕ) → In k ms → (at ms (place k ms) ≡ k) × (place k ms < length ms)
unfolding place
at_place [] k q = elim q [ ]
at_place (m ∷ ms) k q = go (eqb k m) (eq? k m) q (at_place ms k)
  where
    go : (t : Bool) → Eq? k m t → In k (m ∷ ms) → (In k ms → (at ms (place k ms) ≡ k) × (place k ms < length ms))
        → (at (m ∷ ms) (cond t 0 (suc (place k ms))) ≡ k) × (cond t 0 (suc (place k ms)) < suc (length ms))
    go true (same e) q f = (sym e, omega arith)
    go false (differs d) (here e) f = absurd (d e)
    go false (differs d) (there q) f = let r = f q in (r.0, omega arith)

pub place_at : (ms : List ℕ) (p : ℕ) → Distinct ms → p < length ms → place (at ms p) ms ≡ p
unfolding place
place_at [] p d h = absurd (omega arith)
place_at (m ∷ ms) zero d h = go (eqb m m) (eq? m m)
  where
    go : (t : Bool) → Eq? m m t → cond t 0 (suc (place m ms)) ≡ 0
    go true e = refl
    go false (differs n) = absurd (n refl)
place_at (m ∷ ms) (suc p) d h = go (eqb (at ms p) m) (eq? (at ms p) m) (place_at ms p d.1 (omega arith))
  where
    go : (t : Bool) → Eq? (at ms p) m t → place (at ms p) ms ≡ p → cond t 0 (suc (place (at ms p) ms)) ≡ suc p
    go true (same e) r = absurd (d.0 (Memᴰ.cast (sym e) (at_in ms p (omega arith))))
    go false e r = ap suc r

-- a list is the cells at all its positions
images-same : (c d : ℕ → ℕ) (a n : ℕ) → ((p : ℕ) → c (suc p) ≡ d p) → images c (from (suc a) n) ≡ images d (from a n)
unfolding images from
images-same c d a zero h = refl
images-same c d a (suc n) h = ap₂ ◌∷◌ (h a) (images-same c d (suc a) n h)

pub images-all : (ms : List ℕ) → images (at ms) (from 0 (length ms)) ≡ ms
unfolding images from
images-all [] = refl
images-all (m ∷ ms) = ap (λ l. m ∷ l) (images-same (at (m ∷ ms)) (at ms) 0 (length ms) (λ p. refl) ∙ images-all ms)

put-images : (site c : ℕ → ℕ) (k : ℕ) (l : List ℕ) → put site (c k) (images c l) ≡ images c (put (λ p. site (c p)) k l)
unfolding put images
put-images site c k [] = refl
put-images site c k (x ∷ l) = go (leb (site (c k)) (site (c x))) (put-images site c k l)
  where
    go : (t : Bool) → put site (c k) (images c l) ≡ images c (put (λ p. site (c p)) k l)
        → cond t (c k ∷ c x ∷ images c l) (c x ∷ put site (c k) (images c l))
        ≡ images c (cond t (k ∷ x ∷ l) (x ∷ put (λ p. site (c p)) k l))
    go true e = refl
    go false e = ap (λ y. c x ∷ y) e

sort-images : (site c : ℕ → ℕ) (l : List ℕ) → sort site (images c l) ≡ images c (sort (λ p. site (c p)) l)
unfolding sort images
sort-images site c [] = refl
sort-images site c (k ∷ l) = ap (put site (c k)) (sort-images site c l) ∙ put-images site c k (sort (λ p. site (c p)) l)

-- the cells by site are the cells at the positions by site
pub sort-order : (site : ℕ → ℕ) (ms : List ℕ) → sort site ms ≡ images (at ms) (order (λ p. site (at ms p)) (length ms))
unfolding order
sort-order site ms = ap (sort site) (sym (images-all ms)) ∙ sort-images site (at ms) (from 0 (length ms))

images-place : (c : ℕ → ℕ) (p : ℕ) (l : List ℕ) → ((x : ℕ) → In x l → c p ≡ c x → p ≡ x)
    → place (c p) (images c l) ≡ place p l
unfolding place images
images-place c p [] h = refl
images-place c p (x ∷ l) h =
    go (eqb (c p) (c x)) (eqb p x) (eq? (c p) (c x)) (eq? p x) (images-place c p l (λ y m. h y (there m)))
  where
    go : (t u : Bool) → Eq? (c p) (c x) t → Eq? p x u → place (c p) (images c l) ≡ place p l
        → cond t 0 (suc (place (c p) (images c l))) ≡ cond u 0 (suc (place p l))
    go true true a b e = refl
    go true false (same a) (differs b) e = absurd (b (h x (here refl) a))
    go false true (differs a) (same b) e = absurd (a (ap c b))
    go false false a b e = ap suc e

next-images : (P : ℕ → ℕ → Type 0) (c : ℕ → ℕ) (a : ℕ) (l : List ℕ)
    → Next P (c a) (images c l) ↔ Next (λ x y. P (c x) (c y)) a l
unfolding images
next-images P c a [] = (λ h. tt, λ h. tt)
next-images P c a (b ∷ l) = let r = next-images P c b l in (λ h. (h.0, r.0 h.1), λ h. (h.0, r.1 h.1))

chain-images : (P : ℕ → ℕ → Type 0) (c : ℕ → ℕ) (l : List ℕ) → Chain P (images c l) ↔ Chain (λ x y. P (c x) (c y)) l
unfolding images
chain-images P c [] = (λ h. tt, λ h. tt)
chain-images P c (a ∷ l) = next-images P c a l

last_from-images : (c : ℕ → ℕ) (a : ℕ) (l : List ℕ) → last_from (c a) (images c l) ≡ c (last_from a l)
unfolding images
last_from-images c a [] = refl
last_from-images c a (b ∷ l) = last_from-images c b l

pub ended-images : (opens closes : ℕ → Bool) (c : ℕ → ℕ) (l : List ℕ)
    → Ended opens closes (images c l) ↔ Ended (λ p. opens (c p)) (λ p. closes (c p)) l
unfolding images
ended-images opens closes c [] = (λ h. tt, λ h. tt)
ended-images opens closes c (a ∷ l) =
    let e = ap closes (last_from-images c a l) in
    (λ h. (h.0, sym e ∙ h.1), λ h. (h.0, e ∙ h.1))

pub sum-images : (f c : ℕ → ℕ) (l : List ℕ) → sum f (images c l) ≡ sum (λ p. f (c p)) l
unfolding sum images
sum-images f c [] = refl
sum-images f c (p ∷ l) = ap (λ x. f (c p) + x) (sum-images f c l)

sum_next-images : (f : ℕ → ℕ → ℕ) (c : ℕ → ℕ) (a : ℕ) (l : List ℕ)
    → sum_next f (c a) (images c l) ≡ sum_next (λ x y. f (c x) (c y)) a l
unfolding sum_next images
sum_next-images f c a [] = refl
sum_next-images f c a (b ∷ l) = ap (λ x. f (c a) (c b) + x) (sum_next-images f c b l)

pub sum_neighbours-images : (f : ℕ → ℕ → ℕ) (c : ℕ → ℕ) (l : List ℕ)
    → sum_neighbours f (images c l) ≡ sum_neighbours (λ x y. f (c x) (c y)) l
unfolding images
sum_neighbours-images f c [] = refl
sum_neighbours-images f c (a ∷ l) = sum_next-images f c a l

-- ---- the rules of a row that is a list of cells

pub record RowLegal (R : ℕ) (site wide : ℕ → ℕ) (ms : List ℕ) : Type 0 where
  pub rule4 : (a b : ℕ) → In a ms → In b ms → a ≢ b → Clear site wide a b ⊎ Clear site wide b a
  pub rule5 : Chain (NoGapOne site wide) (sort site ms)
  pub rule6 : (k : ℕ) → In k ms → (place k (sort site ms) ≤ place k ms + R) × (place k ms ≤ place k (sort site ms) + R)

module _ (R : ℕ) (site wide : ℕ → ℕ) (ms : List ℕ) (d : Distinct ms) where
  abbrev site_at : ℕ → ℕ
  site_at p = site (at ms p)

  abbrev wide_at : ℕ → ℕ
  wide_at p = wide (at ms p)

  injective : (p q : ℕ) → p < length ms → q < length ms → at ms p ≡ at ms q → p ≡ q
  injective p q h k e = sym (place_at ms p d h) ∙ ap (λ x. place x ms) e ∙ place_at ms q d k

  place_sorted : (p : ℕ) → p < length ms → place (at ms p) (sort site ms) ≡ place p (order site_at (length ms))
  place_sorted p h =
      ap (place (at ms p)) (sort-order site ms)
      ∙ images-place (at ms) p (order site_at (length ms))
      (λ x m e. injective p x h (order_below site_at (length ms) x m) e)

  pub row_positions : RowLegal R site wide ms → LegalSites R site_at wide_at (length ms)
  row_positions r = record {
    rule4 = λ a b p q n. r.rule4 (at ms a) (at ms b) (at_in ms a p) (at_in ms b q) (λ e. n (injective a b p q e));
    rule5 = (chain-images (NoGapOne site wide) (at ms) (order site_at (length ms))).0
        (subst (λ l. Chain (NoGapOne site wide) l) (sort-order site ms) r.rule5);
    rule6 = λ k h. let a = r.rule6 (at ms k) (at_in ms k h) in let b = place_sorted k h in
        let c = place_at ms k d h in omega arith;
  }

  pub positions_row : LegalSites R site_at wide_at (length ms) → RowLegal R site wide ms
  positions_row r = record {
    rule4 = λ a b p q n. four a b (at_place ms a p) (at_place ms b q) n;
    rule5 = subst (λ l. Chain (NoGapOne site wide) l) (sym (sort-order site ms))
        ((chain-images (NoGapOne site wide) (at ms) (order site_at (length ms))).1 r.rule5);
    rule6 = λ k m. six k (at_place ms k m);
  }
    where
      four : (a b : ℕ) → (at ms (place a ms) ≡ a) × (place a ms < length ms)
          → (at ms (place b ms) ≡ b) × (place b ms < length ms) → a ≢ b → Clear site wide a b ⊎ Clear site wide b a
      four a b p q n =
          subst (λ x. Clear site wide x b ⊎ Clear site wide b x) p.0
          (subst (λ y. Clear site wide (at ms (place a ms)) y ⊎ Clear site wide y (at ms (place a ms))) q.0
          (r.rule4 (place a ms) (place b ms) p.1 q.1 (λ e. n (sym p.0 ∙ ap (at ms) e ∙ q.0))))

      six : (k : ℕ) → (at ms (place k ms) ≡ k) × (place k ms < length ms)
          → (place k (sort site ms) ≤ place k ms + R) × (place k ms ≤ place k (sort site ms) + R)
      six k p =
          let a = r.rule6 (place k ms) p.1 in
          let b = place_sorted (place k ms) p.1 in
          let c : place (at ms (place k ms)) (sort site ms) ≡ place k (sort site ms) =
          ap (λ x. place x (sort site ms)) p.0 in
          omega arith

-- the numbers from a on rise, and so does what is picked from them
pub from-rising : (a n : ℕ) → Pairs (λ x y. x < y) (from a n)
unfolding from
from-rising a zero = tt
from-rising a (suc n) = (λ k m. let h = in_from (suc a) n m in omega arith, from-rising (suc a) n)

pub rising-at : (l : List ℕ) → Pairs (λ x y. x < y) l → (i j : ℕ) → i < j → j < length l → at l i < at l j
rising-at [] h i j k e = absurd (omega arith)
rising-at (x ∷ l) h i zero k e = absurd (omega arith)
rising-at (x ∷ l) h zero (suc j) k e = h.0 (at l j) (at_in l j (omega arith))
rising-at (x ∷ l) h (suc i) (suc j) k e = rising-at l h.1 i j (omega arith) (omega arith)

pub rising_distinct' : (l : List ℕ) → Pairs (λ x y. x < y) l → Distinct l
rising_distinct' [] h = tt
rising_distinct' (x ∷ l) h = (λ m. let z = h.0 x m in omega arith, rising_distinct' l h.1)
