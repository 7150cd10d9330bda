-- A refusal before anything is written, or what the search of the accepted job comes to.
use native.Mathlib.Omega.{arith}
use Rattle.score_numbers.specs.Counted.{SixOrSeven, count-known}
use Rattle.op_place.specs.Answers.{placed-refused-by, placed-answered-of}
use Rattle.op_place.proofs.place_texts.Goals as goal
use Rattle.op_place.proofs.place_texts.Goals.{After-number_count-count}

-- as many numbers as the job text has
many : (c : After-number_count-count) → SixOrSeven c.number_count-count.result
many c = rw c.number_count-count.ensures (count-known c.args.job.now)

pub place_job-requires : goal.place_job-requires
place_job-requires c =
    let f = c.in-Ok.ensures in
    record { taken = f.taken; many = many (goal.at-place_job-requires c).After-number_count-count; store = f.store; output = f.output }

pub returns-in-Ok : goal.returns-in-Ok
returns-in-Ok c =
    placed-answered-of c.args.store.now c.args.output.now c.args.results.now c.args.job.now c.number_count-count.result
    c.number_count-count.ensures c.in-Ok.ensures c.place_job.ensures

pub overflow_add-count : goal.overflow_add-count
overflow_add-count c = omega (arith, (many (goal.at-overflow_add-count c).After-number_count-count).seven)

pub refuse_by-requires : goal.refuse_by-requires
refuse_by-requires c =
    record { line = c.in-Err.ensures.line; few = omega (arith, (many (goal.at-refuse_by-requires c).After-number_count-count).seven) }

pub returns-in-Err : goal.returns-in-Err
returns-in-Err c =
    placed-refused-by c.args.store.now c.args.output.now c.args.results.now c.args.job.now c.number_count-count.result
    c.number_count-count.ensures c.in-Err.ensures c.refuse_by.ensures.number c.refuse_by.ensures.array
