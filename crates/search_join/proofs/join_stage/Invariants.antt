-- Each turn writes the cases of one state of row 0 more.
use Rattle.search_join.specs.Tables.{StageCases}
use Rattle.search_join.specs.Sums.{Made, SumsRoom}
use Rattle.search_join.proofs.join_stage.Given as goal

abbrev pub invariant-loop-q0 : goal.invariant-loop-q0
invariant-loop-q0 l =
    Made l.join (StageCases l.q0 l.ends l.poses) l.initial.store l.store × SumsRoom l.sums
