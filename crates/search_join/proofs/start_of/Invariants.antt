-- The start states passed have other sums.
use Prim.Native.Nat.{ℕ, ◌<◌}
use mathlib.Core.Path.{◌≡◌}
use Rattle.search_join.specs.Sums.{start_sum}
use Rattle.search_join.proofs.start_of.Given as goal

abbrev pub invariant-loop-s : goal.invariant-loop-s
invariant-loop-s l =
    (k : ℕ) → k < l.s → start_sum l.join.i l.store l.q0 l.a l.t l.lane k ≡ l.sum → ⊥
