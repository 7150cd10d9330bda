-- Nothing is refused, or what the texts are refused by.
use Rattle.texts_read.specs.Reading.{by_job, by_fault, by_both}
use Rattle.op_fault.proofs.Reports.{by-refusal, by-reading}
use Rattle.op_fault.proofs.reported.Goals as goal

pub returns-in-Ok-read_placement : goal.returns-in-Ok-read_placement
returns-in-Ok-read_placement c =
    by-reading (by_both c.args.job.now c.args.placement.now c.in-Ok.job c.in-Ok.ensures c.in-Ok-read_placement.field-0 c.in-Ok-read_placement.ensures)

pub returns-in-Err-read_placement : goal.returns-in-Err-read_placement
returns-in-Err-read_placement c =
    rw (c.number.ensures, c.line.ensures)
    (by-refusal (by_fault c.args.job.now c.args.placement.now c.in-Ok.job c.in-Ok.ensures c.in-Err-read_placement.refusal c.in-Err-read_placement.ensures))

pub returns-in-Err : goal.returns-in-Err
returns-in-Err c =
    rw (c.number-in-Err.ensures, c.line-in-Err.ensures)
    (by-refusal (by_job c.args.job.now c.args.placement.now c.in-Err.refusal c.in-Err.ensures))
