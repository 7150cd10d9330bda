-- The numbers from a on, n of them.
use Rattle.std.specs.Prelude.{◌≡◌, refl, ℕ, zero, suc, ◌+◌, ◌≤◌, ◌<◌, length}
use Rattle.std.proofs.Common.{ap, arith}
use mathlib.Core.List.Memᴰ.{head as here}
use mathlib.Core.List.Memᴰ.{tail as there}
use mathlib.Core.List.{List, [], ◌∷◌, Memᴰ as In}
use Rattle.std.proofs.Math.Decide.{ℕ_discrete}

unfoldable pub from : ℕ → ℕ → List ℕ
from a zero = []
from a (suc n) = a ∷ from (suc a) n

pub length_from : (a n : ℕ) → length (from a n) ≡ n
unfolding from
length_from a zero = refl
length_from a (suc n) = ap suc (length_from (suc a) n)

pub in_from : {k : ℕ} (a n : ℕ) → In k (from a n) → (a ≤ k) × (k < a + n)
unfolding from
in_from {k = k} a zero x' = elim x' [ ]
in_from a (suc n) (here e) = omega arith
in_from a (suc n) (there m) = let h = in_from (suc a) n m in omega arith

pub from_in : (k a n : ℕ) → a ≤ k → k < a + n → In k (from a n)
unfolding from
from_in k a zero h l = absurd (omega arith)
from_in k a (suc n) h l = go (ℕ_discrete k a) (λ g. from_in k (suc a) n g (omega arith))
  where
    go : Dec (k ≡ a) → (suc a ≤ k → In k (from (suc a) n)) → In k (a ∷ from (suc a) n)
    go (yes e) f = here e
    go (no d) f = there (f (omega arith))
