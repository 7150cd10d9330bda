-- One line further; and line n from where it begins.
use native.Mathlib.Omega.{arith}
use Rattle.op_fault.proofs.Lines.{following, line_at}
use Rattle.op_fault.proofs.line_span.Goals as goal

pub loop-i-preserved : goal.loop-i-preserved
loop-i-preserved c = (omega arith, following c.loop-i.invariant.1 c.next_line-at.ensures)

pub returns : goal.returns
returns c = line_at c.loop-i.invariant.1 c.next_line-end.ensures c.args.n (omega arith)
