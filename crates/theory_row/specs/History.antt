-- The mark array as the paper has it, from the positions placed so far, and that it is what the window carries along.
use Rattle.std.specs.Prelude.{cond, length, leb, eqb}
use mathlib.Core.List.{List, [], ◌∷◌}
use Prim.Native.Nat.{ℕ, zero, suc, ◌+◌, ◌-◌, ◌*◌}

-- 1 if k is among the entries of h, else 0
unfoldable pub has : ℕ → List ℕ → ℕ
has k [] = 0
has k (x ∷ h) = cond (eqb k x) 1 (has k h)

-- With i = length h positions placed, digit j of the window stands for position i + j - (R + 1),
-- that is for cell i - R + j numbered from 1.
-- Its mark is 1 if that is before the row or in h.
unfoldable pub mark : ℕ → List ℕ → ℕ → ℕ
mark R h j = cond (leb (length h + j) R) 1 (has (length h + j - suc R) h)

-- the number whose d digits are f 0, f 1, .., the lowest first
unfoldable pub digits : ℕ → (ℕ → ℕ) → ℕ
digits zero f = 0
digits (suc d) f = f 0 + 2 * digits d (λ j. f (suc j))

-- the mark array over cells i - R to i + R
unfoldable pub marks : ℕ → List ℕ → ℕ
marks R h = digits (suc (2 * R)) (mark R h)
