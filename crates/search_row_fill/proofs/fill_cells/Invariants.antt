-- The words are cleared, so that beyond the cells written there is 0. Each turn settles one cell of the job.
use Rattle.job.specs.Value.{job_of}
use Rattle.search_row_fill.specs.Filled.{side_of, RowFilled}
use Rattle.search_row_fill.proofs.fill_cells.Given as goal

abbrev pub invariant-loop-k : goal.invariant-loop-k
invariant-loop-k l = RowFilled (job_of l.job) (side_of l.side) l.row l.n l.k
