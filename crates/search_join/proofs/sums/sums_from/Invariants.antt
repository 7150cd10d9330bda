-- A start state without costs has no way. Another one adds its ways to the sums of one state t after the other, if their
-- row of cases has a case.
use Rattle.search_join.specs.Sums.{Sums}
use Rattle.search_join.proofs.sums.sums_from.Given as goal

abbrev pub invariant-loop-t : goal.invariant-loop-t
invariant-loop-t l =
    Sums l.join l.store l.q0 l.a l.s l.t l.sums
