-- The numbers of the line decide: no numbers, not three of them, or a pose.
use native.Mathlib.Omega.{arith}
use Rattle.placement_read.proofs.Found.{pose-bad, pose-other, pose-good}
use Rattle.placement_read.proofs.read_pose.Goals as goal

pub returns-in_err-n : goal.returns-in_err-n
returns-in_err-n c = rw c.from_residual.ensures (pose-bad c.args.text.now c.args.at c.in_err-n.ensures)

pub returns-then-n-ne3 : goal.returns-then-n-ne3
returns-then-n-ne3 c = pose-other c.args.text.now c.args.at c.in_ok-n.n c.in_ok-n.ensures (omega arith)

pub returns : goal.returns
returns c = pose-good c.args.text.now c.args.at c.in_ok-n.n c.in_ok-n.ensures (omega arith)
