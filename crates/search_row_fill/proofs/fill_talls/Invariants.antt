-- Each turn settles one position; at the end nothing is to come.
use Rattle.search_row_fill.specs.TallWords.{TallsUpto}
use Rattle.search_row_fill.proofs.fill_talls.Given as goal

abbrev pub invariant-loop-p : goal.invariant-loop-p
invariant-loop-p l = TallsUpto l.row l.n l.talls l.count l.p
