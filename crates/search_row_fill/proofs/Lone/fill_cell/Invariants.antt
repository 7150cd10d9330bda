-- Each turn writes one word more.
use Rattle.search_row_fill.specs.Values.{one}
use Rattle.search_row_fill.specs.Words.{cell_word}
use Rattle.search_lanes.specs.Store.{Written}
use Rattle.search_row_fill.proofs.Lone.fill_cell.Given as goal

abbrev pub invariant-loop-i : goal.invariant-loop-i
invariant-loop-i l = Written (cell_word (one l.self.header l.self.cell) l.side 0 l.number) l.at l.i l.initial.row l.row
