-- At the text's end there is no line.
use Rattle.op_fault.proofs.Lines.{no_line}
use Rattle.op_fault.proofs.next_line.Goals as goal

pub returns-else-at-text : goal.returns-else-at-text
returns-else-at-text c = no_line c.args.text.now c.args.at c.requires c.if-at-text.false
