-- Theorems on the definitions of specs/Rules.
-- Rules 4, 5 and 6 for a row in general, and the sum over neighbours. The row has n cells, numbered from 0
-- in file order; cell k stands at site k and is wide k sites wide. Each rule is a test of one cell, and
-- then a statement about the row; the two agree.
use Rattle.std.specs.Prelude.{◌≡◌, ◌≢◌, ◌↔◌, ◌⊎◌, Bool, true, false, not, ◌&&◌, ◌||◌, cond, ℕ, suc, ◌+◌, ◌≤◌, ◌<◌, T, leb, ltb}
use Rattle.std.proofs.Math.Path.{refl}
use Rattle.std.proofs.Common.{sym, subst, inl, inr, arith}
use mathlib.Core.List.Memᴰ.{head as here}
use mathlib.Core.List.Memᴰ.{tail as there}
use mathlib.Core.List.{List, [], ◌∷◌, Memᴰ as In}
use Rattle.std.proofs.Math.Dec.{eqb, eqb_refl}
use Rattle.lists.specs.Compare.{Eq?, same, differs, eq?, Le?, low, high, le?}
use Rattle.lists.specs.Numbers.{from, in_from, from_in}
use Rattle.lists.specs.Neighbours.{Chain, Next}
use Rattle.theory_row.specs.Order.{order, place}
use Rattle.theory_row.proofs.Order.{order_below, order-all}
use Rattle.theory_row.specs.Rules.{any, any_next, any_neighbours, share, gap_one, breaks4, breaks5, breaks6, lowest, Clear, NoGapOne, Rule4, Rule5, Rule6, None}

-- ---- tests that fail

clash : true ≡ false → ⊥
clash e = subst T e tt

or-false : (a b : Bool) → (a || b) ≡ false ↔ ((a ≡ false) × (b ≡ false))
or-false true b = (λ e. absurd (clash e), λ p. p.0)
or-false false b = (λ e. (refl, e), λ p. p.1)

and_right : (a : Bool) {b : Bool} → b ≡ false → (a && b) ≡ false
and_right true e = e
and_right false e = refl

and-rest : (a : Bool) {b : Bool} → T a → (a && b) ≡ false → b ≡ false
and-rest false {b = b} t e = elim t [ ]
and-rest true t e = e

or_left : (a b : Bool) → T a → T (a || b)
or_left false b t = elim t [ ]
or_left true b t = tt

leb-false : (a b : ℕ) → leb a b ≡ false ↔ (b < a)
leb-false a b = (go (leb a b) (le? a b), λ h. back (leb a b) (le? a b) h)
  where
    go : (t : Bool) → Le? a b t → t ≡ false → b < a
    go true v e = absurd (clash e)
    go false (high h) e = h

    back : (t : Bool) → Le? a b t → b < a → t ≡ false
    back true (low l) h = absurd (omega arith)
    back false v h = refl

eqb-false : (a b : ℕ) → eqb a b ≡ false ↔ (a ≢ b)
eqb-false a b = (go (eqb a b) (eq? a b), λ h. back (eqb a b) (eq? a b) h)
  where
    go : (t : Bool) → Eq? a b t → t ≡ false → a ≢ b
    go true v e = absurd (clash e)
    go false (differs h) e = h

    back : (t : Bool) → Eq? a b t → a ≢ b → t ≡ false
    back true (same l) h = absurd (h l)
    back false v h = refl

any_false : (f : ℕ → Bool) (l : List ℕ) → any f l ≡ false ↔ ((k : ℕ) → In k l → f k ≡ false)
unfolding any
any_false f [] = (λ e k m. elim m [ ], λ g. refl)
any_false f (x ∷ l) = (
  λ e k m. let p = (or-false (f x) (any f l)).0 e in go k p.0 ((any_false f l).0 p.1 k) m,
  λ g. (or-false (f x) (any f l)).1 (g x (here refl), (any_false f l).1 (λ k m. g k (there m))),
)
  where
    go : (k : ℕ) → f x ≡ false → (In k l → f k ≡ false) → In k (x ∷ l) → f k ≡ false
    go k p g (here e) = rw e p
    go k p g (there m) = g m

lowest-false : (f : ℕ → Bool) (l : List ℕ) → lowest f l ≡ 0 ↔ (any f l ≡ false)
unfolding lowest any
lowest-false f [] = (λ e. refl, λ e. refl)
lowest-false f (k ∷ l) = go (f k) (lowest-false f l)
  where
    go : (t : Bool) → lowest f l ≡ 0 ↔ (any f l ≡ false) → cond t (suc k) (lowest f l) ≡ 0 ↔ ((t || any f l) ≡ false)
    go true b = (λ e. absurd (omega arith), λ e. absurd (clash e))
    go false b = b

-- a test over the row's cells
pub any_none : (f : ℕ → Bool) (n : ℕ) → any f (from 0 n) ≡ false ↔ None f n
any_none f n = (
  λ e k h. (any_false f (from 0 n)).0 e k (from_in k 0 n (omega arith) (omega arith)),
  λ g. (any_false f (from 0 n)).1 (λ k m. g k (let h = in_from 0 n m in omega arith)),
)

pub lowest-none : (f : ℕ → Bool) (n : ℕ) → lowest f (from 0 n) ≡ 0 ↔ None f n
lowest-none f n =
    (λ e. (any_none f n).0 ((lowest-false f (from 0 n)).0 e), λ g. (lowest-false f (from 0 n)).1 ((any_none f n).1 g))

-- ---- each rule's test and statement agree

pub rule4-test : (site wide : ℕ → ℕ) (n : ℕ) → None (breaks4 site wide n) n ↔ Rule4 site wide n
unfolding breaks4
rule4-test site wide n = (
  λ g a b p q d. go a b d ((any_none (test a) n).0 (g a p) b q),
  λ r k h. (any_none (test k) n).1 (λ b q. back k b (r k b h q)),
)
  where
    test : ℕ → ℕ → Bool
    test k b = not (eqb b k) && share site wide k b

    cases : (a b : ℕ) (s t u : Bool) → Eq? b a s → Le? (suc (site a)) (site b + wide b) t
        → Le? (suc (site b)) (site a + wide a) u
        → a ≢ b → (not s && (t && u)) ≡ false → Clear site wide a b ⊎ Clear site wide b a
    cases a b true t u (same e) v w d z = absurd (d (sym e))
    cases a b false true true e v w d z = absurd (clash z)
    cases a b false true false e v (high h) d z = inl (omega arith)
    cases a b false false u e (high h) w d z = inr (omega arith)

    go : (a b : ℕ) → a ≢ b → test a b ≡ false → Clear site wide a b ⊎ Clear site wide b a
    go a b d z = cases a b (eqb b a) (ltb (site a) (site b + wide b)) (ltb (site b) (site a + wide a)) (eq? b a)
        (le? _ _) (le? _ _) d z

    case₂ : (a b : ℕ) (s t u : Bool) → Eq? b a s → Le? (suc (site a)) (site b + wide b) t
        → Le? (suc (site b)) (site a + wide a) u
        → (a ≢ b → Clear site wide a b ⊎ Clear site wide b a) → (not s && (t && u)) ≡ false
    case₂ a b true t u e v w c = refl
    case₂ a b false false u e v w c = refl
    case₂ a b false true false e v w c = refl
    case₂ a b false true true (differs d) (low v) (low w) c = absurd (not-both (c (λ e. d (sym e))))
      where
        not-both : Clear site wide a b ⊎ Clear site wide b a → ⊥
        not-both (inl h) = omega arith
        not-both (inr h) = omega arith

    back : (a b : ℕ) → (a ≢ b → Clear site wide a b ⊎ Clear site wide b a) → test a b ≡ false
    back a b c = case₂ a b (eqb b a) (ltb (site a) (site b + wide b)) (ltb (site b) (site a + wide a)) (eq? b a)
        (le? _ _) (le? _ _) c

module _ (site wide : ℕ → ℕ) where
  at5 : ℕ → ℕ → ℕ → Bool
  at5 k a b = (eqb k a || eqb k b) && gap_one site wide a b

  next5 : (a : ℕ) (l : List ℕ) → ((k : ℕ) → In k (a ∷ l) → any_next (at5 k) a l ≡ false) → Next (NoGapOne site wide) a l
  unfolding any_next at5
  next5 a [] g = tt
  next5 a (b ∷ l) g =
      let f = (or-false (at5 a a b) (any_next (at5 a) b l)).0 (g a (here refl)) in (
        (eqb-false (site b) (site a + wide a + 1)).0
            (and-rest (eqb a a || eqb a b) (or_left (eqb a a) (eqb a b) (eqb_refl a)) f.0),
        next5 b l (λ k m. ((or-false (at5 k a b) (any_next (at5 k) b l)).0 (g k (there m))).1),
      )

  back5 : (k a : ℕ) (l : List ℕ) → Next (NoGapOne site wide) a l → any_next (at5 k) a l ≡ false
  unfolding any_next at5
  back5 k a [] h = refl
  back5 k a (b ∷ l) h =
      (or-false (at5 k a b) (any_next (at5 k) b l)).1
      (and_right (eqb k a || eqb k b) ((eqb-false (site b) (site a + wide a + 1)).1 h.0), back5 k b l h.1)

  chain5 : (l : List ℕ) → ((k : ℕ) → In k l → any_neighbours (at5 k) l ≡ false) ↔ Chain (NoGapOne site wide) l
  chain5 [] = (λ g. tt, λ h k m. refl)
  chain5 (a ∷ l) = (next5 a l, λ h k m. back5 k a l h)

pub rule5-test : (site wide : ℕ → ℕ) (n : ℕ) → None (breaks5 site wide n) n ↔ Rule5 site wide n
unfolding breaks5 at5
rule5-test site wide n = (
  λ g. (chain5 site wide (order site n)).0 (λ k m. g k (order_below site n k m)),
  λ h k p. (chain5 site wide (order site n)).1 h k (order-all site n k p),
)

pub rule6-test : (R : ℕ) (site : ℕ → ℕ) (n : ℕ) → None (breaks6 R site n) n ↔ Rule6 R site n
unfolding breaks6
rule6-test R site n = (λ g k h. go k (place k (order site n)) (g k h), λ r k h. back k (place k (order site n)) (r k h))
  where
    go : (k p : ℕ) → (ltb (k + R) p || ltb (p + R) k) ≡ false → (p ≤ k + R) × (k ≤ p + R)
    go k p e =
        let f = (or-false (ltb (k + R) p) (ltb (p + R) k)).0 e in
        let a = (leb-false (suc (k + R)) p).0 f.0 in
        let b = (leb-false (suc (p + R)) k).0 f.1 in
        omega arith

    back : (k p : ℕ) → (p ≤ k + R) × (k ≤ p + R) → (ltb (k + R) p || ltb (p + R) k) ≡ false
    back k p c =
        (or-false (ltb (k + R) p) (ltb (p + R) k)).1
        ((leb-false (suc (k + R)) p).1 (omega arith), (leb-false (suc (p + R)) k).1 (omega arith))
