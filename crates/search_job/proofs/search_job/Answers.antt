-- Both rows are filled; their words are those of the job's pair of rows, and what is found of the pair is found of the job.
use Prim.Native.Nat.{ℕ, ◌≤◌}
use native.Mathlib.Omega.{arith}
use Rattle.search_row.specs.Words.{row_length}
use Rattle.search_lanes.specs.Laws.{zeros_low}
use lib.ListN.{replicate}
use Rattle.job.specs.declared.Job.{Job}
use Rattle.job.specs.Accepted.{Accepted}
use Rattle.job.specs.Value.{header_of, job_of}
use Rattle.search_row_fill.specs.Lent.{RowToFill}
use Rattle.search_job.specs.Rows.{words-lent, asked, solved_if_any}
use Rattle.search_job.proofs.search_job.Goals as goal

-- an array of zeros, to be filled
lent : {job : Job} {side : ℕ} → Accepted job → side ≤ 1 → RowToFill job side (replicate row_length 0)
lent a h = record { accepted = a; either = h; long = omega arith; low = zeros_low row_length }

pub fill_row-sizes-requires : goal.fill_row-sizes-requires
fill_row-sizes-requires c = lent c.requires.accepted (omega arith)

pub fill_row-other-requires : goal.fill_row-other-requires
fill_row-other-requires c =
    lent c.requires.accepted (omega arith)

pub search-requires : goal.search-requires
unfolding job_of header_of
search-requires c =
    let k = c.requires in
    let f = c.fill_row-sizes in
    record {
      rows = asked k.accepted.sound f.ensures c.fill_row-other.ensures;
      long = omega (arith, words-lent k.accepted.sound f.result.talls f.result.states f.ensures.all, k.long);
    }

pub returns : goal.returns
returns c =
    let k = c.requires in
    solved_if_any k.accepted.sound c.fill_row-sizes.ensures c.fill_row-other.ensures c.search.result c.search.ensures
