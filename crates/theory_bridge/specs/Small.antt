-- Costs that stop at 2^28.
use Prim.Native.Nat.{ℕ}

-- where costs stop
abbrev pub bound : ℕ
bound = 268435456
