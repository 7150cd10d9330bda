-- Loops that keep the lowest, in general: one turn more, only members count, two loops in either order.
use Prim.Native.Nat.{ℕ, ◌+◌, ◌≤◌, ◌<◌, min}
use Rattle.std.specs.Prelude.{◌≡◌}
use Rattle.std.proofs.Math.Path.{refl, ap₂}
use Rattle.std.proofs.Common.{ap, ◌∙◌, add-one}
use mathlib.Core.List.Memᴰ.{head as here}
use mathlib.Core.List.Memᴰ.{tail as there}
use mathlib.Core.List.{List, [], ◌∷◌, Memᴰ as In}
use native.Mathlib.Omega.{arith}
use Rattle.lists.specs.Numbers.{from, in_from}
use Rattle.theory_pair.specs.Coded.{lowest, lowest-low, lowest-from}
use Rattle.theory_tables.specs.Steps.{B}
use Rattle.theory_tables.specs.Lowest.{lowest-member, lowest-above}

-- ---- loops over the numbers below n

pub lowest-none : (h : ℕ → ℕ) → lowest B h (from 0 0) ≡ B
unfolding lowest from
lowest-none h = refl

pub lowest-more : (h : ℕ → ℕ) (n : ℕ) → lowest B h (from 0 (n + 1)) ≡ min (lowest B h (from 0 n)) (h n)
lowest-more h n =
    let z : 0 + n ≡ n = omega arith in
    ap (λ (k : ℕ). lowest B h (from 0 k)) (add-one n) ∙ lowest-from B h 0 n
    ∙ ap (λ (k : ℕ). min (lowest B h (from 0 n)) (h k)) z

-- ---- loops over any list

module _ {S : Type 0} where
  -- only what is below the bound counts
  pub lowest_cap : (f g : S → ℕ) (l : List S) → ((s : S) → min (f s) B ≡ min (g s) B) → lowest B f l ≡ lowest B g l
  unfolding lowest
  lowest_cap f g [] e = refl
  lowest_cap f g (s ∷ l) e = omega (arith, e s, lowest_cap f g l e, lowest-low B f l, lowest-low B g l)

  pub lowest-same : (f g : S → ℕ) (l : List S) → ((s : S) → In s l → f s ≡ g s) → lowest B f l ≡ lowest B g l
  unfolding lowest
  lowest-same f g [] e = refl
  lowest-same f g (s ∷ l) e = ap₂ min (e s (here refl)) (lowest-same f g l (λ u i. e u (there i)))

  pub lowest-min : (f g : S → ℕ) (l : List S) → lowest B (λ s. min (f s) (g s)) l ≡ min (lowest B f l) (lowest B g l)
  unfolding lowest
  lowest-min f g [] = omega arith
  lowest-min f g (s ∷ l) = omega (arith, lowest-min f g l)

module _ {S T : Type 0} where
  lowest_turn : (h : S → T → ℕ) (l : List S) (m : List T)
      → lowest B (λ s. lowest B (h s) m) l ≤ lowest B (λ t. lowest B (λ s. h s t) l) m
  lowest_turn h l m =
      lowest-above B (λ t. lowest B (λ s. h s t) l) _ m (lowest-low B _ l)
      (λ t j. lowest-above B (λ s. h s t) _ l (lowest-low B _ l)
      (λ s i. let p = lowest-member B (λ s. lowest B (h s) m) l i in let q = lowest-member B (h s) m j in omega arith))

-- loops in either order
pub lowest-swap : {S T : Type 0} (h : S → T → ℕ) (l : List S) (m : List T)
    → lowest B (λ s. lowest B (h s) m) l ≡ lowest B (λ t. lowest B (λ s. h s t) l) m
lowest-swap h l m = let p = lowest_turn h l m in let q = lowest_turn (λ t s. h s t) m l in omega arith

-- the same for each number
pub lowest_ext : (f g : ℕ → ℕ) (a n : ℕ) → ((k : ℕ) → k < a + n → f k ≡ g k)
    → lowest B f (from a n) ≡ lowest B g (from a n)
lowest_ext f g a n e = lowest-same f g (from a n) (λ k i. e k (in_from a n i).1)
