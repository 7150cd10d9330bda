-- The words of one site number more.
use native.Mathlib.Omega.{arith}
use Rattle.staples_table.specs.Laws.{rows_more}
use Rattle.staples_table.proofs.put_block.Goals as goal

pub loop-t-preserved : goal.loop-t-preserved
loop-t-preserved c =
    let few = c.requires.word.few in
    rows_more (omega arith) few c.loop-t.invariant c.put_words.ensures
