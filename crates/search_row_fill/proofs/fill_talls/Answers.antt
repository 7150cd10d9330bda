use Rattle.search_row_fill.specs.TallWords.{talls-none, talls-all}
use Rattle.search_row_fill.proofs.fill_talls.Goals as goal

pub loop-p-init : goal.loop-p-init
loop-p-init c = talls-none c.requires.room c.requires.small

pub returns : goal.returns
returns c = talls-all c.loop-p.invariant c.loop-p-test.false
