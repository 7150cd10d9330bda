-- Invariant: with that of the cells from k on, the total is that of all; it is small.
use Rattle.std.proofs.Common.{◌≡◌, ◌≤◌, ℕ, ◌+◌, ◌*◌, ◌-◌, List, length}
use Rattle.score_order.specs.declared.Stand.{Stand}
use Rattle.score_numbers.specs.Sums.{sum_from, shift_in}
use Rattle.score_numbers.proofs.shifted_in.Given as goal

pub record SitesSummed (stands : List Stand) (total k : ℕ) : Type 0 where
  pub sum : total + sum_from (shift_in stands) k (length stands - k) ≡ sum_from (shift_in stands) 0 (length stands)
  pub small : total ≤ 12000 * k

abbrev pub invariant-loop-stand : goal.invariant-loop-stand
invariant-loop-stand l = SitesSummed l.stands l.total l.stand-index
