-- Each turn takes one lane more.
use mathlib.Core.Path.{◌≡◌}
use Rattle.lists.specs.Numbers.{from}
use Rattle.theory_pair.specs.Coded.{lowest}
use Rattle.theory_tables.specs.Steps.{B}
use Rattle.search_join.specs.Sums.{lane_sum}
use Rattle.search_join.proofs.least_lane.Given as goal

abbrev pub invariant-loop-l : goal.invariant-loop-l
invariant-loop-l l =
    l.best ≡ lowest B (lane_sum l.sums l.at l.store l.p1) (from 0 l.l)
