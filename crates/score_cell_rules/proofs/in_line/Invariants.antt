-- Invariant: each of the entries up to here has ended at `reach`, and none begins before an earlier one has ended.
use Rattle.std.proofs.Common.{get_or}
use Rattle.score_order.specs.Words.{site_in, end_in}
use Rattle.score_cell_rules.specs.Quick.{Clear}
use Rattle.score_cell_rules.proofs.in_line.Given as goal

abbrev pub invariant-loop-cell : goal.invariant-loop-cell
invariant-loop-cell l =
    Clear (λ p. Unit {0}) (λ p. end_in l.stands (get_or l.order p 0)) (λ p. site_in l.stands (get_or l.order p 0)) l.cell-index l.reach
