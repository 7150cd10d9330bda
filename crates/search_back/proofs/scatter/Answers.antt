use native.Mathlib.Omega.{arith}
use Rattle.search_back.specs.ScatterLaws.{upto_all}
use Rattle.search_back.proofs.scatter.Goals as goal

pub returns : goal.returns
returns c = upto_all c.loop-i.i (omega arith) c.loop-i.invariant.1
