use Rattle.std.proofs.Common.{arith}
use Rattle.search_wide_buckets.specs.TableLaws.{run_none, run_more}
use Rattle.search_wide_buckets.proofs.run_up.Goals as goal

pub loop-t-init : goal.loop-t-init
loop-t-init c = run_none _ c.requires.lent.low

pub loop-t-preserved : goal.loop-t-preserved
loop-t-preserved c = run_more c.loop-t.t (omega arith) (omega arith) c.loop-t.invariant c.lower_by.ensures
