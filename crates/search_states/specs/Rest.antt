-- A list that is written entry by entry: what is still to come of it, and the next entry.
use Rattle.std.specs.Prelude.{ℕ, suc, ◌+◌, ◌-◌, ◌≤◌, ◌<◌, ◌≡◌, Bool, cond, List, [], ◌∷◌, length, get_or, drop}
use Rattle.std.proofs.Common.{sym, ap, ◌∙◌, arith, add-one, length-drop, drop-cons}
use Rattle.lists.specs.Numbers.{from}
use Rattle.theory_pair.specs.Pick.{pick}

-- the numbers from a on and below b that pass a test
unfoldable pub rest : (ℕ → Bool) → ℕ → ℕ → List ℕ
rest f a b = pick f (from a (b - a))

pub rest-none : (f : ℕ → Bool) (a b : ℕ) → b ≤ a → rest f a b ≡ []
unfolding rest pick from
rest-none f a b h = let e : b - a ≡ 0 = omega arith in rw e

pub rest_more : (f : ℕ → Bool) (a b : ℕ) → a < b → rest f a b ≡ cond (f a) (a ∷ rest f (a + 1) b) (rest f (a + 1) b)
unfolding rest pick from
rest_more f a b h = let e : b - a ≡ suc (b - suc a) = omega arith in rw (e, add-one a)

pub rest_all : (f : ℕ → Bool) (b : ℕ) → rest f 0 b ≡ pick f (from 0 b)
unfolding rest
rest_all f b = let e : b - 0 ≡ b = omega arith in rw e

-- entry `count` is the next one
pub record Next {A : Type 0} (d : A) (whole : List A) (count : ℕ) (x : A) (l : List A) : Type 0 where
  pub inside : count < length whole
  pub here : get_or whole count d ≡ x
  pub after : drop (count + 1) whole ≡ l

pub next : {A : Type 0} {d : A} (whole : List A) (count : ℕ) {x : A} {l : List A} → drop count whole ≡ x ∷ l
    → Next d whole count x l
next {d = d} whole count {x} {l} e =
    let h : count < length whole = omega (arith, simp length-drop at (ap length e)) in
    let s : get_or whole count d ∷ drop (suc count) whole ≡ x ∷ l = sym (drop-cons whole count d h) ∙ e in
    record { inside = h; here = cc; after = rw add-one (cc) }

-- nothing is to come
pub done : {A : Type 0} (whole : List A) (count : ℕ) → count ≤ length whole → drop count whole ≡ []
    → count ≡ length whole
done whole count h e = omega (arith, simp length-drop at (ap length e))
