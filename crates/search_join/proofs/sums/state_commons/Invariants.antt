-- Each turn writes one word, which is at most each lane of its row.
use Rattle.search_join.specs.Sums.{Commons}
use Rattle.search_join.proofs.sums.state_commons.Given as goal

abbrev pub invariant-loop-t : goal.invariant-loop-t
invariant-loop-t l =
    Commons l.join l.store l.commons
