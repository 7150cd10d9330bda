-- A row with R = 0 stands in file order: what its rules say of neighbouring positions and of its ends, and the way
-- back.
use Prim.Native.Nat.{ℕ, suc, ◌<◌}
use Rattle.std.specs.Prelude.{◌≡◌, Bool, true}
use Rattle.theory_row.specs.Row.{Fits}

-- ---- the rules of a row in file order, position by position

pub record FileLegal (site wide : ℕ → ℕ) (opens closes : ℕ → Bool) (n : ℕ) : Type 0 where
  pub next : (q : ℕ) → suc q < n → Fits site wide q (suc q)
  pub opened : 0 < n → opens 0 ≡ true
  pub closed : (q : ℕ) → suc q ≡ n → closes q ≡ true
