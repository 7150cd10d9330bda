-- After s turns the sums are over the start states below s.
use Rattle.search_join.specs.Sums.{Sums}
use Rattle.search_join.proofs.sums.fill_sums.Given as goal

abbrev pub invariant-loop-s : goal.invariant-loop-s
invariant-loop-s l =
    Sums l.join l.store l.q0 l.a l.s 0 l.sums
