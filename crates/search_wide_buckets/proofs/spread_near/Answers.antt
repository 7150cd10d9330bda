use Rattle.std.proofs.Common.{arith}
use Rattle.search_wide_buckets.specs.TableLaws.{spread-more}
use Rattle.search_wide_buckets.proofs.spread_near.Goals as goal

pub loop-v-preserved : goal.loop-v-preserved
loop-v-preserved c =
    let g = c.requires.spread in
    spread-more c.loop-v.v (omega arith) g.here (omega arith) g.lent.low c.loop-v.invariant c.lower_one.ensures
