-- Each turn takes one state t more.
use Rattle.lists.specs.Numbers.{from}
use Rattle.theory_pair.specs.Coded.{lowest}
use Rattle.theory_tables.specs.Steps.{B}
use Rattle.search_join.specs.Tables.{MetAt}
use Rattle.search_join.specs.Found.{LeastFound}
use Rattle.search_join.specs.Sums.{end_sum}
use Rattle.search_join.proofs.best_end.Given as goal

abbrev pub invariant-loop-t : goal.invariant-loop-t
invariant-loop-t l =
    let ends = end_sum l.join.lanes l.sums l.store l.q1 l.a in
    LeastFound (lowest B ends (from 0 l.t)) (MetAt ends l.join.starts) l.best
