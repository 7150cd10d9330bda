-- Each turn writes the cases of one pose more.
use Rattle.search_join.specs.Tables.{BlockCases}
use Rattle.search_join.specs.Sums.{Made, SumsRoom}
use Rattle.search_join.proofs.case_block.Given as goal

abbrev pub invariant-loop-a : goal.invariant-loop-a
invariant-loop-a l =
    Made l.join (BlockCases l.q0 l.ends l.a) l.initial.store l.store × SumsRoom l.sums
