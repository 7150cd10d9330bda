-- Neighbours and pairs of a list of numbers, and entries near their index.
use mathlib.Core.List.Memᴰ.{head as here}
use mathlib.Core.List.Memᴰ.{tail as there}
use mathlib.Core.List.{List, [], ◌∷◌, Memᴰ as In}
use Rattle.std.specs.Prelude.{ℕ, suc, ◌+◌, ◌≤◌}
use Rattle.std.proofs.Common.{arith}

-- every pair of neighbours in a ∷ l satisfies P
abbrev pub Next : (ℕ → ℕ → Type 0) → ℕ → List ℕ → Type 0
Next P a [] = Unit {0}
Next P a (b ∷ l) = P a b × Next P b l

abbrev pub Chain : (ℕ → ℕ → Type 0) → List ℕ → Type 0
Chain P [] = Unit {0}
Chain P (a ∷ l) = Next P a l

-- every pair of entries, the earlier one first, satisfies P
abbrev pub Pairs : (ℕ → ℕ → Type 0) → List ℕ → Type 0
Pairs P [] = Unit {0}
Pairs P (x ∷ l) = ((k : ℕ) → In k l → P x k) × Pairs P l

-- ---- entries near their index: entry number m of l, counted from i on, is within R of m

abbrev pub Near : ℕ → ℕ → List ℕ → Type 0
Near R i [] = Unit {0}
Near R i (k ∷ l) = (k ≤ i + R) × (i ≤ k + R) × Near R (suc i) l

pub near_in_lem : {k : ℕ} (R i : ℕ) (l : List ℕ) → Near R i l → In k l → i ≤ k + R
near_in_lem {k = k} R i [] h x'' = elim x'' [ ]
near_in_lem R i (x ∷ l) h (here e) = let g = h.1 in omega arith
near_in_lem R i (x ∷ l) h (there m) = let g = near_in_lem R (suc i) l h.2 m in omega arith
