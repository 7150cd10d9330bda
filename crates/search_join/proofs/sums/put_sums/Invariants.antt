-- Each turn writes the sum of one lane more.
use Rattle.search_lanes.specs.Store.{Written}
use Rattle.search_join.specs.Sums.{capped_sum}
use Rattle.search_join.proofs.sums.put_sums.Given as goal

abbrev pub invariant-loop-l : goal.invariant-loop-l
invariant-loop-l l =
    Written (capped_sum l.store l.at l.p0) l.to l.l l.initial.sums l.sums
