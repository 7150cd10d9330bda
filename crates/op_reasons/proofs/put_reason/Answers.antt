-- The reason found is the definition's, and its sentence fits.
use Rattle.op_reasons.specs.Answers.{sentence-room}
use Rattle.op_reasons.proofs.put_reason.Goals as goal

pub put_sentence-requires : goal.put_sentence-requires
put_sentence-requires c = sentence-room c.requires c.reason_of-r.ensures
