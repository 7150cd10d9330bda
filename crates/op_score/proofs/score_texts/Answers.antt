-- The refusal of the texts, or the fields of the placement read.
use mathlib.Core.Path.{refl}
use Rattle.std.proofs.lemmas.Result.{err_from_is_err_and}
use Rattle.definition_laws.specs.Outcomes.{score-accepted}
use Rattle.score_numbers.specs.Counted.{count-known}
use Rattle.op_score.specs.Scores.{texts-refused}
use Rattle.op_score.proofs.score_texts.Goals as goal

pub returns-in_err-texts : goal.returns-in_err-texts
returns-in_err-texts c =
    let p = err_from_is_err_and c.from_residual.result c.from_residual.ensures.1 in
    rw (p.1, p.2) (texts-refused c.in_err-texts.ensures)

pub fields_of-requires : goal.fields_of-requires
fields_of-requires c =
    record { ready = c.in_ok-texts.ensures.ready; many = rw c.number_count.ensures (count-known c.args.job.now) }

pub returns : goal.returns
returns c =
    let b = c.in_ok-texts.ensures in
    let e = score-accepted c.args.job.now b.job c.args.placement.now b.placement in
    rw e (record { number = refl; line = refl; fields = rw (← c.number_count.ensures) c.fields_of.ensures })
