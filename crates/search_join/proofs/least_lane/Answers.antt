use Prim.Native.Nat.{◌+◌}
use mathlib.Core.Path.{sym}
use Rattle.lists.specs.Numbers.{from}
use Rattle.theory_pair.specs.Coded.{lowest-low}
use Rattle.theory_tables.specs.Steps.{B}
use Rattle.search_join.specs.Sums.{lane_sum}
use Rattle.search_join.specs.Laws.{lowest-zero, lowest-more}
use native.Mathlib.Omega.{arith}
use Rattle.search_join.proofs.least_lane.Goals as goal

pub loop-l-init : goal.loop-l-init
loop-l-init c = sym (lowest-zero _)

pub lesser-best-requires : goal.lesser-best-requires
lesser-best-requires c =
    let l = c.loop-l in
    record {
      first = omega (arith, lowest-low B (lane_sum c.args.sums.now c.args.at c.args.store.now c.args.p1) (from 0 l.l));
      second = omega (arith, c.requires.room.low.word (c.args.at + l.l), c.requires.low.word (c.args.p1 + l.l));
    }

pub loop-l-preserved : goal.loop-l-preserved
unfolding lane_sum
loop-l-preserved c =
    let l = c.loop-l.l in
    omega (arith, c.lesser-best.ensures, lowest-more (lane_sum c.args.sums.now c.args.at c.args.store.now c.args.p1) l)
