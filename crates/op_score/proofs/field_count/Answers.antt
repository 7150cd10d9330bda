-- There are six numbers or seven.
use native.Mathlib.Omega.{arith}
use Rattle.score_numbers.specs.Counted.{count-known}
use Rattle.op_score.proofs.field_count.Goals as goal

pub overflow_add-result : goal.overflow_add-result
overflow_add-result c = omega (arith, (count-known c.args.job.now).seven)
