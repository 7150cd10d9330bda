-- The lowest of a loop by its two laws: it is at most every member's, and a bound of every member's is at most it. With
-- them loops over different lists are compared member by member. The same for a cost and its code.
use Rattle.std.specs.Prelude.{◌≡◌, ℕ, min, ◌≤◌, ◌<◌}
use Rattle.std.proofs.Math.Path.{refl, ap}
use mathlib.Core.List.Memᴰ.{head as here}
use mathlib.Core.List.Memᴰ.{tail as there}
use mathlib.Core.List.{List, [], ◌∷◌, Memᴰ as In}
use native.Mathlib.Omega.{arith}
use Rattle.std.proofs.Math.Decide.{dec_lt}
use Rattle.lists.specs.Numbers.{from, in_from, from_in}
use Rattle.theory_pair.specs.Forward.{cost_if}
use Rattle.theory_pair.specs.Coded.{coded, lowest}

module _ {S : Type 0} (B : ℕ) (h : S → ℕ) where
  pub lowest-member : {u : S} (l : List S) → In u l → lowest B h l ≤ h u
  unfolding lowest
  lowest-member {u = u} [] x' = elim x' [ ]
  lowest-member (x ∷ l) (here e) = let z = ap h e in omega arith
  lowest-member (x ∷ l) (there m) = let r = lowest-member l m in omega arith

  pub lowest-above : (x : ℕ) (l : List S) → x ≤ B → ((u : S) → In u l → x ≤ h u) → x ≤ lowest B h l
  unfolding lowest
  lowest-above x [] b g = b
  lowest-above x (u ∷ l) b g =
      let r = lowest-above x l b (λ v m. g v (there m)) in
      let z = g u (here refl) in
      omega arith

  -- below the bound it is a member's
  pub lowest-met : (l : List S) → lowest B h l < B → (u : S) × In u l × (h u < B)
  unfolding lowest
  lowest-met [] g = absurd (omega arith)
  lowest-met (x ∷ l) g = go (dec_lt (h x) B) (lowest-met l)
    where
      go : Dec (h x < B) → (lowest B h l < B → (u : S) × In u l × (h u < B)) → (u : S) × In u (x ∷ l) × (h u < B)
      go (yes c) f = (x, here refl, c)
      go (no c) f = let r = f (omega arith) in (r.0, there r.1, r.2)

-- a loop over the numbers below n
module _ (B : ℕ) (h : ℕ → ℕ) (n : ℕ) where
  pub loop_member : (k : ℕ) → k < n → lowest B h (from 0 n) ≤ h k
  loop_member k l = lowest-member B h (from 0 n) (from_in k 0 n (omega arith) (omega arith))

  pub loop_above : (x : ℕ) → x ≤ B → ((k : ℕ) → k < n → x ≤ h k) → x ≤ lowest B h (from 0 n)
  loop_above x b g = lowest-above B h x (from 0 n) b (λ k m. let l = in_from 0 n m in g k (omega arith))

-- the code of what may be, and of what may not
pub cost_yes : {P : Type 0} (B x : ℕ) (d : Dec P) → P → coded B (cost_if d x) ≡ min x B
unfolding cost_if coded
cost_yes B x (yes p) h = refl
cost_yes B x (no n) h = absurd (n h)

pub cost-no : {P : Type 0} (B x : ℕ) (d : Dec P) → ¬ P → coded B (cost_if d x) ≡ B
unfolding cost_if coded
cost-no B x (yes p) h = absurd (h p)
cost-no B x (no n) h = refl
