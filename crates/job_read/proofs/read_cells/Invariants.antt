-- Each turn reads one more cell line, and the lines from there on decide.
use Prim.Native.Nat.{◌-◌}
use mathlib.Core.Path.{◌≡◌}
use lib.ListN.{length}
use Rattle.job_read.proofs.Far.{Far}
use Rattle.job_read.proofs.read_cells.Given as goal

abbrev pub invariant-loop-at : goal.invariant-loop-at
invariant-loop-at l = Far l.text l.from l.initial.job.header l.job.cells l.t l.at l.line × (l.job.header ≡ l.initial.job.header)

abbrev pub decreases-loop-at : goal.decreases-loop-at
decreases-loop-at l = length l.text - l.at
