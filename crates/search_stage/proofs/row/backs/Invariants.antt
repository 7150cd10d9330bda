-- Each turn writes one word more.
use Rattle.search_lanes.specs.Store.{Written}
use Rattle.search_row.specs.Words.{back_in}
use Rattle.search_stage.proofs.row.backs.Given as goal

abbrev pub invariant-loop-l : goal.invariant-loop-l
invariant-loop-l l = Written (back_in l.row l.p) 0 l.l l.initial.starts l.starts
