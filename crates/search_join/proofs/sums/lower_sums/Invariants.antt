-- Each turn lowers the sum of one lane more.
use Rattle.search_lanes.specs.Lowered.{LoweredAt}
use Rattle.search_join.specs.Sums.{word_sum}
use Rattle.search_join.proofs.sums.lower_sums.Given as goal

abbrev pub invariant-loop-l : goal.invariant-loop-l
invariant-loop-l l =
    LoweredAt (word_sum l.store l.at l.p0) l.to l.l l.initial.sums l.sums
