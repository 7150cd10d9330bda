use Rattle.std.proofs.Common.{arith}
use Rattle.search_stage.specs.Stage.{width_of}
use Rattle.search_stage.proofs.width_of.Goals as goal

pub returns : goal.returns
unfolding width_of
returns c = omega (arith, c.next_multiple_of.ensures.value)
