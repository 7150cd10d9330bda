-- Each turn makes the blocks of one cell less of row 0.
use Rattle.staples_table.specs.Blocks.{TableMade}
use Rattle.staples_table.proofs.fill_table.Given as goal

abbrev pub invariant-loop-p : goal.invariant-loop-p
invariant-loop-p l = TableMade l.row0 l.row1 l.counts l.p l.initial.store l.store
