-- Each turn makes one block more.
use Rattle.staples_table.specs.Blocks.{LineMade}
use Rattle.staples_table.proofs.fill_line.Given as goal

abbrev pub invariant-loop-q : goal.invariant-loop-q
invariant-loop-q l = LineMade l.row0 l.row1 l.counts l.p l.q l.initial.store l.store
