-- A cost of NONE: there is no way. A lower one can be traced.
use native.Mathlib.Omega.{arith}
use Rattle.definition.specs.Job.{max_cells}
use Rattle.lists.specs.Zeros.{zeros_at}
use Rattle.search.specs.Rows.{stages_given}
use Rattle.search.specs.Found.{traceable}
use Rattle.search.proofs.find.Goals as goal

pub note-requires : goal.note-requires
note-requires c =
    let g = stages_given c.requires in
    let t = traceable c.args.rows.row0.now c.args.rows.row1.now c.args.rows.sizes c.args.rows.cells1 g c.least_cost-cost.ensures (omega arith) in
    record { rows = c.requires.asked.rows; tables = t; room = omega arith; numbers = λ i. omega (arith, zeros_at max_cells i) }
