-- No text, a refused header line, or the cell lines after it.
use mathlib.Core.Path.{sym}
use native.Mathlib.Omega.{arith}
use Prim.Native.Nat.{◌<◌}
use lib.ListN.{length}
use borrow.Author.Tests.{eqb-true, eqb-false}
use Rattle.job_read.proofs.Far.{no_text, head-refused, head-sound, head-on}
use Rattle.job_read.proofs.read_job.Goals as goal
use Rattle.job_read.proofs.read_job.Goals.{Else-is_empty}

some : (c : Else-is_empty) → 0 < length c.args.text.now
some c = let h = eqb-false (length c.args.text.now) 0 (sym c.if-is_empty.ensures) in omega arith

pub returns-then-is_empty : goal.returns-then-is_empty
returns-then-is_empty c = no_text c.args.text.now (eqb-true (length c.args.text.now) 0 (sym c.if-is_empty.ensures))

pub read_cells-requires : goal.read_cells-requires
read_cells-requires c =
    let h = c.in-Ok.ensures in
    record { within = h.within; sound = head-sound c.args.text.now (some (goal.at-read_cells-requires c).Else-is_empty) c.in-Ok.head h }

pub returns-in-Ok : goal.returns-in-Ok
returns-in-Ok c =
    rw (head-on c.args.text.now (some (goal.at-returns-in-Ok c).Else-is_empty) c.in-Ok.head c.in-Ok.ensures) at c.read_cells.ensures

pub returns-in-Err : goal.returns-in-Err
returns-in-Err c =
    rw c.at.ensures
    (head-refused c.args.text.now (some (goal.at-returns-in-Err c).Else-is_empty) c.in-Err.fault c.in-Err.ensures)
