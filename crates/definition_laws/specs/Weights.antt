-- Steps by their gaps and by their weights (A7): all steps are those at gap 0 and the filled ones; where both weigh the
-- same, the cost is document 01's; and a `K` header with equal weights is the `J` header of its other numbers.
use Rattle.std.specs.Prelude.{ℕ, ◌+◌, ◌*◌, ◌≡◌, refl, Bool, true, false, ◌&&◌, cond, List, [], ◌∷◌, eqb}
use Rattle.std.proofs.Math.Path.{ap}
use Rattle.std.proofs.Common.{◌∙◌}
use Rattle.std.proofs.Math.Nat.{mul-add, add-mul}
use native.Mathlib.Omega.{arith}
use Rattle.definition.specs.Lists.{all, sum_next}
use Rattle.definition.specs.Texts.{within}
use Rattle.definition.specs.Job.{Job, max_sites, max_displacement, max_reordering, max_weight, header_in_range, header_of}
use Rattle.definition.specs.Placement.{Placement}
use Rattle.definition.specs.Rules.{gap, order}
use Rattle.definition.specs.Cost.{charge, touching, filled, differing, steps_at, steps_in, steps_by}
use Rattle.definition.specs.Cost.{steps, touching_steps, filled_steps, shifted, mirrored, changed, cost}

pub charge-parts : (n : ℕ) → charge n ≡ touching n + filled n
charge-parts n = go (eqb n 0) (charge n)
  where
    go : (t : Bool) (c : ℕ) → c ≡ cond t c 0 + cond t 0 c
    go true c = omega arith
    go false c = omega arith

next-parts : (f g h : ℕ → ℕ → ℕ) → ((a b : ℕ) → f a b ≡ g a b + h a b) → (l : List ℕ)
    → sum_next f l ≡ sum_next g l + sum_next h l
next-parts f g h e [] = refl
next-parts f g h e (a ∷ []) = refl
next-parts f g h e (a ∷ b ∷ l) = omega (arith, e a b, next-parts f g h e (b ∷ l))

module _ (j : Job) (P : Placement) where
  at-parts : (row a b : ℕ) → steps_at charge j P row a b ≡ steps_at touching j P row a b + steps_at filled j P row a b
  unfolding steps_at
  at-parts row a b =
      ap (λ n. n * differing j P row a b) (charge-parts (gap j P a b))
      ∙ add-mul (touching (gap j P a b)) (filled (gap j P a b)) (differing j P row a b)

  in_parts_lem : (row : ℕ) → steps_in charge j P row ≡ steps_in touching j P row + steps_in filled j P row
  unfolding steps_in
  in_parts_lem row =
      next-parts (steps_at charge j P row) (steps_at touching j P row) (steps_at filled j P row) (at-parts row)
      (order j P row)

  pub steps-parts : steps j P ≡ touching_steps j P + filled_steps j P
  unfolding steps_by
  steps-parts = omega (arith, in_parts_lem 0, in_parts_lem 1)

  -- "Cost = step × steps + shift × sites shifted + mirror × cells mirrored + swap × cells in layout 1."
  pub equal-cost : j.header.filled_weight ≡ j.header.step_weight
      → cost j P ≡ j.header.step_weight * steps j P + j.header.shift_weight * shifted j P
      + j.header.mirror_weight * mirrored j P + j.header.swap_weight * changed j P
  unfolding cost
  equal-cost e =
      let a = ap (λ w. w * filled_steps j P) e in
      let b = mul-add j.header.step_weight (touching_steps j P) (filled_steps j P) in
      let c = ap (λ n. j.header.step_weight * n) steps-parts in
      omega arith

-- ---- a `K` header with equal weights

-- what passes a test may be said twice
pub said-twice : {A : Type 0} (f : A → Bool) (a b c d : A)
    → all f (a ∷ b ∷ c ∷ d ∷ a ∷ []) ≡ all f (a ∷ b ∷ c ∷ d ∷ [])
said-twice f a b c d = go (f a) (f b) (f c) (f d)
  where
    go : (p q r s : Bool) → p && (q && (r && (s && (p && true)))) ≡ p && (q && (r && (s && true)))
    go true true true true = refl
    go true true true false = refl
    go true true false s = refl
    go true false r s = refl
    go false q r s = refl

-- it is in range just if the `J` header of its other numbers is
pub equal_range : (a b c d e f g h : ℕ)
    → header_in_range (a ∷ b ∷ c ∷ d ∷ e ∷ f ∷ g ∷ h ∷ e ∷ []) ≡ header_in_range (a ∷ b ∷ c ∷ d ∷ e ∷ f ∷ g ∷ h ∷ [])
unfolding header_in_range
equal_range a b c d e f g h =
    ap (λ t. within 1 2 a && within 1 max_sites b && within 0 max_displacement c && within 0 max_reordering d && t)
    (said-twice (within 0 max_weight) e f g h)

-- and is that header
pub equal-header : (a b c d e f g h : ℕ)
    → header_of true (a ∷ b ∷ c ∷ d ∷ e ∷ f ∷ g ∷ h ∷ e ∷ []) ≡ header_of false (a ∷ b ∷ c ∷ d ∷ e ∷ f ∷ g ∷ h ∷ [])
unfolding header_of
equal-header a b c d e f g h = refl
