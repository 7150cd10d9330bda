-- A pose that is not offered has no way to it; the flag of another one is 0 only if all its words are NONE.
use Rattle.std.proofs.Common.{refl, arith}
use Rattle.search_lanes.specs.Laws.{row-closed, row_flagged}
use Rattle.search_wide_buckets.proofs.put_pose.Goals as goal

pub returns-then-own-ge-NONE : goal.returns-then-own-ge-NONE
returns-then-own-ge-NONE c =
    row-closed c.args.a c.requires.pose c.requires.room c.requires.rows.low (λ l h. omega arith)

pub returns : goal.returns
returns c =
    let w = c.put_row-x.ensures in
    row_flagged c.args.a c.flag_of.result c.requires.rows.narrow c.requires.pose c.requires.room w.written (omega arith)
    (λ z l h. omega (arith, c.flag_of.ensures.none z, w.least l h))
    (λ l h. refl)
