use borrow.Author.Count.{below_more}
use Rattle.search_join.specs.Sums.{lane_sum}
use native.Mathlib.Omega.{arith}
use Rattle.search_join.proofs.lane_of.Goals as goal

pub returns-then-sums-at : goal.returns-then-sums-at
unfolding lane_sum
returns-then-sums-at c = (omega arith, omega arith)

pub loop-l-preserved : goal.loop-l-preserved
unfolding lane_sum
loop-l-preserved c = below_more _ _ c.loop-l.invariant (λ e. c.if-sums-at.false e)
