-- The lanes passed have other sums.
use Prim.Native.Nat.{ℕ, ◌<◌}
use mathlib.Core.Path.{◌≡◌}
use Rattle.search_join.specs.Sums.{lane_sum}
use Rattle.search_join.proofs.lane_of.Given as goal

abbrev pub invariant-loop-l : goal.invariant-loop-l
invariant-loop-l l =
    (k : ℕ) → k < l.l → lane_sum l.sums l.at l.store l.p1 k ≡ l.sum → ⊥
