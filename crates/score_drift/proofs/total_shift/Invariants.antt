-- Invariant: with that of the cells from k on, the total is that of all; it is not large.
use Rattle.std.proofs.Common.{◌≡◌, ◌≤◌, ℕ, ◌*◌, ◌-◌, List, length, ℤ, nat_abs, ◌+ℤ◌}
use Rattle.score_order.specs.declared.Stand.{Stand}
use Rattle.score_drift.specs.Total.{total_in}
use Rattle.score_drift.proofs.total_shift.Given as goal

pub record ShiftsSummed (stands : List Stand) (total : ℤ) (k : ℕ) : Type 0 where
  pub sum : total +ℤ total_in stands k (length stands - k) ≡ total_in stands 0 (length stands)
  pub small : nat_abs total ≤ 12000 * k

abbrev pub invariant-loop-stand : goal.invariant-loop-stand
invariant-loop-stand l = ShiftsSummed l.stands l.total l.stand-index
