use Prim.Native.Nat.{ℕ}
use mathlib.Core.Path.{◌≡◌}
use native.Mathlib.Omega.{arith}
use lib.ListN.{length-replicate}
use Rattle.search_lanes.specs.Laws.{zeros_low}
use Rattle.search_join.specs.Tables.{StageCases}
use Rattle.search_join.specs.Sums.{sum_words}
use Rattle.search_join.specs.SumLaws.{commons_zero}
use Rattle.search_join.specs.Parts.{part_none, table-part, commons_part, stage-more, part-joined}
use Rattle.search_join.proofs.join_stage.Goals as goal

pub fill_commons-requires : goal.fill_commons-requires
fill_commons-requires c =
    record { table = c.requires.table; common = commons_zero _ _ c.requires.table.states }

pub loop-q0-init : goal.loop-q0-init
loop-q0-init c = (
  part_none _ _ _ c.requires.table.low (λ q₀ q₁ a h. omega arith),
  record { long = length-replicate {A = ℕ} sum_words 0; low = zeros_low sum_words },
)

pub case_block-requires : goal.case_block-requires
case_block-requires c =
    let l = c.loop-q0.invariant in
    record {
      table = table-part c.args.starts c.args.lanes c.args.i c.requires.table l.0;
      common = commons_part _ (StageCases c.loop-q0.q0 c.args.ends c.args.poses) c.requires.table (λ q₀ q₁ b r. (omega arith, omega arith, omega arith)) l.0
          c.fill_commons.ensures;
      room = l.1;
      pages = omega (arith, c.requires.pages, l.0.long);
      state = omega arith;
      few = omega arith;
      offered = c.requires.offered;
    }

pub loop-q0-preserved : goal.loop-q0-preserved
loop-q0-preserved c =
    let l = c.loop-q0 in
    let w = c.case_block.ensures in (
      stage-more c.args.starts c.args.lanes c.args.i l.q0 c.args.ends c.args.poses c.requires.table (omega arith) (omega arith) (omega arith) l.invariant.0 w.part,
      w.room,
    )

pub returns : goal.returns
returns c =
    let e : c.loop-q0.q0 ≡ c.args.ends = omega arith in
    part-joined c.args.starts c.args.lanes c.args.i c.requires.table.stage (omega arith) (omega arith) (rw e at c.loop-q0.invariant.0)
