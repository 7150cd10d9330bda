use Rattle.std.proofs.Common.{refl, arith}
use Rattle.search_wide_buckets.specs.SpreadLaws.{spread-lane}
use Rattle.search_wide_buckets.proofs.spread_row.Goals as goal

pub loop-l-preserved : goal.loop-l-preserved
loop-l-preserved c =
    let l = c.loop-l in
    spread-lane l.l (omega arith) (omega arith) (λ v. refl) l.invariant c.spread_lane.ensures
