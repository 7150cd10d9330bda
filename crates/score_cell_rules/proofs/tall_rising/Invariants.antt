-- Invariant: the sites of the tall cells up to here do not fall, and none is above `reach`.
use Rattle.std.proofs.Common.{◌≡◌}
use Rattle.score_order.specs.Words.{site_in, row_in}
use Rattle.score_cell_rules.specs.Quick.{Clear}
use Rattle.score_cell_rules.proofs.tall_rising.Given as goal

abbrev pub invariant-loop-stand : goal.invariant-loop-stand
invariant-loop-stand l = Clear (λ p. row_in l.stands p ≡ 2) (site_in l.stands) (site_in l.stands) l.stand-index l.reach
