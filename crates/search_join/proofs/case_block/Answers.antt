use mathlib.Core.Path.{◌≡◌}
use native.Mathlib.Omega.{arith}
use Rattle.search_join.specs.Tables.{BlockCases}
use Rattle.search_join.specs.Parts.{table-part, commons_part, block_more}
use Rattle.search_join.proofs.case_block.Goals as goal

pub case_pose-requires : goal.case_pose-requires
case_pose-requires c =
    let l = c.loop-a.invariant in
    record {
      table = table-part c.args.join.starts c.args.join.lanes c.args.join.i c.requires.table l.0;
      common = commons_part c.args.join (BlockCases c.args.q0 c.args.ends c.loop-a.a) c.requires.table (λ q₀ q₁ b r. (omega arith, omega arith, omega arith)) l.0
          c.requires.common;
      room = l.1;
      pages = omega (arith, c.requires.pages, l.0.long);
      state = omega arith;
      few = omega arith;
      offered = omega arith;
    }

pub loop-a-preserved : goal.loop-a-preserved
loop-a-preserved c =
    let l = c.loop-a in
    let w = c.case_pose.ensures in (
      block_more c.args.join.starts c.args.join.lanes c.args.join.i c.args.q0 c.args.ends l.a c.requires.table (omega arith) (omega arith) (omega arith) l.invariant.0
          w.part,
      w.room,
    )

pub returns : goal.returns
returns c =
    let e : c.loop-a.a ≡ c.args.poses = omega arith in
    record { part = rw e at c.loop-a.invariant.0; room = c.loop-a.invariant.1 }
