-- Tests of the definitions and what they say: of two tests together, of the
-- marks, of the entries of a list, of both rows.
use Rattle.std.specs.Prelude.{◌≡◌, refl, ◌↔◌, Bool, true, false, not, ◌&&◌, ◌||◌, ℕ, ◌<◌, eqb}
use Rattle.std.proofs.Common.{sym, ap, ◌∙◌, true≢false, arith}
use Rattle.std.proofs.lemmas.Bool.{false≢true}
use mathlib.Core.List.Memᴰ.{head as here}
use mathlib.Core.List.Memᴰ.{tail as there}
use mathlib.Core.List.{List, [], ◌∷◌, Memᴰ as In}
use Rattle.definition.specs.Lists.{any}
use Rattle.definition.specs.Job.{both_rows}
use Rattle.lists.specs.Compare.{Eq?, same, differs, eq?}
use Rattle.theory_pair.specs.Cells.{Side, row₀, row₁}
use Rattle.theory_bridge.specs.Paired.{row_of}

pub and-true : (a b : Bool) → (a && b) ≡ true ↔ ((a ≡ true) × (b ≡ true))
and-true true b = (λ e. (refl, e), λ p. p.1)
and-true false b = (λ e. absurd (false≢true e), λ p. p.0)

pub and-false : (a b : Bool) → (a && b) ≡ false ↔ (a ≡ true → b ≡ false)
and-false true b = (λ e h. e, λ f. f refl)
and-false false b = (λ e h. absurd (false≢true h), λ f. refl)

pub or-false : (a b : Bool) → (a || b) ≡ false ↔ ((a ≡ false) × (b ≡ false))
or-false true b = (λ e. absurd (true≢false e), λ p. p.0)
or-false false b = (λ e. (refl, e), λ p. p.1)

pub not-false : (a : Bool) → not a ≡ false ↔ (a ≡ true)
not-false true = (λ e. refl, λ e. refl)
not-false false = (λ e. sym e, λ e. sym e)

-- "The mark is 0, or is 1 on a mirrorable cell."
pub mark-test : (m : ℕ) (t : Bool) → (eqb m 0 || (eqb m 1 && t)) ≡ true ↔ ((m < 2) × (m ≡ 1 → t ≡ true))
mark-test m t = go (eqb m 0) (eqb m 1) (eq? m 0) (eq? m 1)
  where
    go : (a b : Bool) → Eq? m 0 a → Eq? m 1 b → (a || (b && t)) ≡ true ↔ ((m < 2) × (m ≡ 1 → t ≡ true))
    go true b (same z) v = (λ e. (omega arith, λ o. absurd (omega arith)), λ p. refl)
    go false true u (same o) = (λ e. (omega arith, λ q. e), λ p. p.1 o)
    go false false (differs z) (differs o) = (λ e. absurd (false≢true e), λ p. absurd (let h = p.0 in omega arith))

pub any_false : {A : Type 0} (f : A → Bool) (l : List A) → any f l ≡ false ↔ ((x : A) → In x l → f x ≡ false)
any_false f [] = (λ e x m. elim m [ ], λ g. refl)
any_false {A} f (y ∷ l) = (
  λ e x m. let p = (or-false (f y) (any f l)).0 e in go x p.0 ((any_false f l).0 p.1 x) m,
  λ g. (or-false (f y) (any f l)).1 (g y (here refl), (any_false f l).1 (λ x m. g x (there m))),
)
  where
    go : (x : A) → f y ≡ false → (In x l → f x ≡ false) → In x (y ∷ l) → f x ≡ false
    go x p g (here e) = ap f e ∙ p
    go x p g (there m) = g m

-- a test of both rows
pub any-row : (f : ℕ → Bool) → any f both_rows ≡ false ↔ ((s : Side) → f (row_of s) ≡ false)
any-row f = (
  λ e. each ((any_false f both_rows).0 e),
  λ g. (or-false (f 0) (f 1 || false)).1 (g row₀, (or-false (f 1) false).1 (g row₁, refl)),
)
  where
    each : ((x : ℕ) → In x both_rows → f x ≡ false) → (s : Side) → f (row_of s) ≡ false
    each h row₀ = h 0 (here refl)
    each h row₁ = h 1 (there (here refl))

pub some-row : (f : ℕ → Bool) → any f both_rows ≡ true ↔ ((s : Side) × (f (row_of s) ≡ true))
some-row f = (to (f 0) (f 1) refl refl, λ p. back p.0 p.1)
  where
    to : (a b : Bool) → f 0 ≡ a → f 1 ≡ b → (a || (b || false)) ≡ true → (s : Side) × (f (row_of s) ≡ true)
    to true b p q e = (row₀, p)
    to false true p q e = (row₁, q)
    to false false p q e = absurd (false≢true e)

    second : (a b : Bool) → b ≡ true → (a || (b || false)) ≡ true
    second true b e = refl
    second false true e = refl
    second false false e = e

    back : (s : Side) → f (row_of s) ≡ true → (f 0 || (f 1 || false)) ≡ true
    back row₀ e = ap (λ t. t || (f 1 || false)) e
    back row₁ e = second (f 0) (f 1) e
