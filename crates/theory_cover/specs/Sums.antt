-- Sums over a list of numbers, and how many of the numbers from x on lie between two.
use Rattle.std.specs.Prelude.{ℕ, zero, suc, ◌+◌, ◌-◌, min, max, ◌≡◌, refl, Bool, true, false, ◌&&◌, cond, leb, ltb}
use Rattle.std.proofs.Common.{ap₂, arith}
use mathlib.Core.List.Memᴰ.{head as here}
use mathlib.Core.List.Memᴰ.{tail as there}
use mathlib.Core.List.{List, [], ◌∷◌, Memᴰ as In}
use Rattle.lists.specs.Compare.{Le?, low, high, le?}
use Rattle.lists.specs.Numbers.{from}
use Rattle.theory_row.specs.Rules.{sum}

pub sum_ext : (f g : ℕ → ℕ) (l : List ℕ) → ((x : ℕ) → In x l → f x ≡ g x) → sum f l ≡ sum g l
unfolding sum
sum_ext f g [] h = refl
sum_ext f g (x ∷ l) h = ap₂ ◌+◌ (h x (here refl)) (sum_ext f g l (λ y m. h y (there m)))

pub sum-plus : (f g : ℕ → ℕ) (l : List ℕ) → sum (λ x. f x + g x) l ≡ sum f l + sum g l
unfolding sum
sum-plus f g [] = refl
sum-plus f g (x ∷ l) = let r = sum-plus f g l in omega arith

pub sum_zeros : (l : List ℕ) → sum (λ x. 0) l ≡ 0
unfolding sum
sum_zeros [] = refl
sum_zeros (x ∷ l) = let r = sum_zeros l in omega arith

-- 1 from a on and below b
abbrev pub between : ℕ → ℕ → ℕ → ℕ
between a b x = cond (leb a x && ltb x b) 1 0

pub sum-between : (a b x n : ℕ) → sum (between a b) (from x n) ≡ min b (x + n) - max a x
unfolding sum from
sum-between a b x zero = omega arith
sum-between a b x (suc n) = go (leb a x) (ltb x b) (le? a x) (le? (suc x) b) (sum-between a b (suc x) n)
  where
    go : (t u : Bool) → Le? a x t → Le? (suc x) b u
        → sum (between a b) (from (suc x) n) ≡ min b (suc x + n) - max a (suc x)
        → cond (t && u) 1 0 + sum (between a b) (from (suc x) n) ≡ min b (x + suc n) - max a x
    go true true (low h) (low l) r = omega arith
    go true false (low h) (high l) r = omega arith
    go false u (high h) l r = omega arith
