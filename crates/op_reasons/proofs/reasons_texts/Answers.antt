-- Refused before anything is written, or the sentence and its length.
use native.Mathlib.Omega.{arith}
use lib.ListN.{length}
use Rattle.definition.specs.Outcome.{text_field_count}
use Rattle.results.specs.Refusals.{refusal_of}
use Rattle.text_write.specs.Answers.{met-refused, met-text}
use Rattle.reason_laws.specs.Outcomes.{reasons-answered}
use Rattle.op_reasons.specs.Answers.{reason_short}
use Rattle.op_reasons.proofs.reasons_texts.Goals as goal

pub answer_one-requires : goal.answer_one-requires
answer_one-requires c =
    omega (arith, c.put_reason-length.ensures.cursor, reason_short c.in-Ok.ensures.both.ready)

pub returns-in-Ok : goal.returns-in-Ok
returns-in-Ok c =
    let t = c.in-Ok.ensures in
    met-text
    (reasons-answered (length c.args.output.now) c.args.job.now c.args.placement.now t.both.job t.both.placement t.enough)
    c.put_reason-length.ensures
    c.answer_one.ensures

pub returns-in-Err : goal.returns-in-Err
returns-in-Err c =
    met-refused text_field_count (refusal_of c.in-Err.refusal) c.in-Err.ensures.outcome c.refuse_by.ensures.number
    c.refuse_by.ensures.array
