-- Score's refusal, or 11.
use native.Mathlib.Omega.{arith}
use Rattle.std.proofs.lemmas.Result.{err_from_is_err_and}
use Rattle.reason_laws.specs.Outcomes.{reasons-short}
use Rattle.op_reasons.specs.Answers.{texts-refused}
use Rattle.op_reasons.proofs.read_with_room.Goals as goal

pub returns-in_err-texts : goal.returns-in_err-texts
returns-in_err-texts c =
    let p = err_from_is_err_and c.from_residual.result c.from_residual.ensures.1 in
    rw (p.1, p.2) (texts-refused c.in_err-texts.ensures c.args.room)

pub returns-then-room-lt-ROOM : goal.returns-then-room-lt-ROOM
returns-then-room-lt-ROOM c =
    let b = c.in_ok-texts.ensures in
    record {
      outcome = reasons-short c.args.room c.args.job.now c.args.placement.now b.job b.placement c.if-room-lt-ROOM.true;
      line = omega arith;
    }
