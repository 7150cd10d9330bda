-- Whole lists by the window's marks: a list from the beginning, what the marks say after it, one more position, and
-- whole arrangements.
use Rattle.std.specs.Prelude.{◌≡◌, ℕ, ◌+◌, ◌-◌, ◌/◌, ◌%◌, ◌≤◌, ◌<◌, length}
use mathlib.Core.List.{List, Memᴰ as In}
use Rattle.std.proofs.Math.Decide.{ℕ_discrete, dec_lt, dec_le}
use Rattle.lists.specs.Membership.{Distinct}
use Rattle.lists.specs.Neighbours.{Near}
use Rattle.theory_row.specs.Marks.{bit}
use Rattle.theory_row.specs.Window.{step, May}

-- distinct positions below n, each within R of its index, and no position is left behind
pub record Partial (R n : ℕ) (h : List ℕ) : Type 0 where
  pub near : Near R 0 h
  pub distinct : Distinct h
  pub below : (k : ℕ) → In k h → k < n
  pub due : (k : ℕ) → k + R < length h → In k h

-- ---- whole arrangements

-- l has each position below n just once, at an index within R of it
pub record Arranged (R n : ℕ) (l : List ℕ) : Type 0 where
  pub size : length l ≡ n
  pub near : Near R 0 l
  pub distinct : Distinct l
  pub below : (k : ℕ) → In k l → k < n
  pub all : (k : ℕ) → k < n → In k l

-- ---- the test that a program makes

unfoldable pub may? : (R n i m k : ℕ) → Dec (May R n i m k)
may? R n i m k = go (dec_lt k n) (dec_le i (k + R)) (dec_le k (i + R)) (ℕ_discrete (bit (m / 2) (k + R - i)) 0)
    (ℕ_discrete (step R i m k % 2) 1)
  where
    go : Dec (k < n) → Dec (i ≤ k + R) → Dec (k ≤ i + R) → Dec (bit (m / 2) (k + R - i) ≡ 0)
        → Dec (step R i m k % 2 ≡ 1) → Dec (May R n i m k)
    go (yes a) (yes b) (yes c) (yes d) (yes e) = yes record { inside = a; low = b; high = c; free = d; kept = e }
    go (no a) b c d e = no (λ q. a q.inside)
    go (yes a) (no b) c d e = no (λ q. b q.low)
    go (yes a) (yes b) (no c) d e = no (λ q. c q.high)
    go (yes a) (yes b) (yes c) (no d) e = no (λ q. d q.free)
    go (yes a) (yes b) (yes c) (yes d) (no e) = no (λ q. e q.kept)
