-- Each turn writes one case more, over the same sums.
use Rattle.search_join.specs.Tables.{PoseCases}
use Rattle.search_join.specs.Sums.{Made}
use Rattle.search_join.proofs.case_pose.Given as goal

abbrev pub invariant-loop-q1 : goal.invariant-loop-q1
invariant-loop-q1 l =
    Made l.join (PoseCases l.q0 l.q1 l.a) l.initial.store l.store
