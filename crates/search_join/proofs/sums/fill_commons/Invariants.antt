-- Each turn writes the words of one start state more.
use Rattle.search_join.specs.Sums.{Commons}
use Rattle.search_join.proofs.sums.fill_commons.Given as goal

abbrev pub invariant-loop-s : goal.invariant-loop-s
invariant-loop-s l =
    Commons l.join l.store l.commons
