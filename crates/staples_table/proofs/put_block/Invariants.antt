-- Each turn writes the words of one site number more.
use Rattle.staples_table.specs.Blocks.{lesser_way, RowsPut}
use Rattle.staples_table.proofs.put_block.Given as goal

abbrev pub invariant-loop-t : goal.invariant-loop-t
invariant-loop-t l = RowsPut (lesser_way l.ways0 l.ways1 l.looks) l.at l.t l.looks.numbers l.initial.store l.store
