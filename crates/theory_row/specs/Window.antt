-- Which file position may be placed next: the window of marks. Positions and places count from 0.
-- With i positions placed, digit j of the marks m stands for position i + j - (R + 1), for j from 0
-- to 2 R: positions before the row count as placed.
use Rattle.std.specs.Prelude.{◌≡◌, length}
use mathlib.Core.List.{List, [], ◌∷◌, Memᴰ as In}
use Prim.Native.Nat.{ℕ, zero, suc, ◌+◌, ◌-◌, ◌*◌, ◌/◌, ◌%◌, ◌^◌, ◌≤◌, ◌<◌}
use Rattle.std.specs.Int.Count.{ones}
use Rattle.lists.specs.Membership.{Distinct}
use Rattle.lists.specs.Neighbours.{Near}
use Rattle.theory_row.specs.Marks.{bit}

-- the marks before anything is placed: digits 0 to R are the R + 1 positions before the row
unfoldable pub start : ℕ → ℕ
start R = 2 ^ suc R - 1

-- the marks after position k is placed, as number i: the window moves on by one, and k's digit is set
unfoldable pub step : ℕ → ℕ → ℕ → ℕ → ℕ
step R i m k = m / 2 + 2 ^ (k + R - i)

-- position k may be placed as number i: it is in the row, in the window and not marked,
-- and no unmarked position leaves the window
pub record May (R n i m k : ℕ) : Type 0 where
  pub inside : k < n
  pub low : i ≤ k + R
  pub high : k ≤ i + R
  pub free : bit (m / 2) (k + R - i) ≡ 0
  pub kept : step R i m k % 2 ≡ 1

-- the positions of l may be placed in their order, from the marks m on, the first as number i
abbrev pub Run : ℕ → ℕ → ℕ → ℕ → List ℕ → Type 0
Run R n i m [] = Unit {0}
Run R n i m (k ∷ l) = May R n i m k × Run R n (suc i) (step R i m k) l

-- the marks after that
abbrev pub walk : ℕ → ℕ → ℕ → List ℕ → ℕ
walk R i m [] = m
walk R i m (k ∷ l) = walk R (suc i) (step R i m k) l

-- ---- what the marks are worth: exactly R + 1 ones in 2 R + 1 digits, the lowest among them

pub record Good (R m : ℕ) : Type 0 where
  pub odd : m % 2 ≡ 1
  pub count : ones m ≡ suc R
  pub small : m < 2 ^ suc (2 * R)

-- ---- all the positions' marks: i ones and then the digits of m. Position k has the mark number k + R + 1

unfoldable pub seen : ℕ → ℕ → ℕ → ℕ
seen zero m q = bit m q
seen (suc i) m zero = 1
seen (suc i) m (suc q) = seen i m q

-- ---- what the rest of an arrangement is, from the marks m on, and that it is just a run

pub record Rest (R n i m : ℕ) (l : List ℕ) : Type 0 where
  pub near : Near R i l
  pub distinct : Distinct l
  pub below : (k : ℕ) → In k l → k < n
  pub fresh : (k : ℕ) → In k l → seen i m (k + suc R) ≡ 0
  pub due : (k : ℕ) → k + R < i + length l → seen i m (k + suc R) ≡ 0 → In k l
