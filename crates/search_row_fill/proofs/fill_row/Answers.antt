-- The cells first, which leave zeros beyond them; then the positions of the tall ones and the states, which leave the
-- cells as they are.
use Rattle.std.proofs.Common.{arith}
use Rattle.job.specs.Value.{header_of, job_of}
use Rattle.search_row_fill.specs.Ready.{zeros_small}
use Rattle.search_row_fill.proofs.Ready.{cells-talls, row-ready}
use Rattle.search_row_fill.proofs.fill_row.Goals as goal

pub fill_talls-talls-requires : goal.fill_talls-talls-requires
fill_talls-talls-requires c =
    let f = c.fill_cells-cells.ensures in
    let t = cells-talls c.requires.accepted.sound f in
    record { few = t.0; long = omega arith; room = omega arith; small = zeros_small 32 }

pub fill_states-states-requires : goal.fill_states-states-requires
unfolding job_of header_of
fill_states-states-requires c =
    record {
      reorder = c.requires.accepted.sound.header.reordering;
      long = omega (arith, c.put_talls.ensures.frame.long);
      low = c.put_talls.ensures.low;
    }

pub returns : goal.returns
unfolding job_of header_of
returns c =
    rw c.pose_numbers-poses.ensures
    (row-ready c.requires.accepted.sound c.fill_cells-cells.ensures c.fill_talls-talls.ensures c.put_talls.ensures
    c.fill_states-states.ensures)
