-- No way is put yet; and the way by one number more.
use Prim.Native.Nat.{suc, ◌-◌}
use mathlib.Core.Path.{◌≡◌}
use native.Mathlib.Omega.{arith}
use Rattle.staples_ways.specs.Ways.{ways_in}
use Rattle.staples_ways.specs.WayLaws.{ways-end, ways-more, put-frame}
use Rattle.staples_ways.proofs.fill_ways.Goals as goal

pub loop-v-init : goal.loop-v-init
loop-v-init c =
    let ways = ways_in c.args.store.now c.args.row.now c.args.next c.args.last c.args.rests in
    ways-end ways c.args.next.numbers c.args.to c.requires.ways_low (omega arith) c.requires.few

pub loop-v-preserved : goal.loop-v-preserved
loop-v-preserved c =
    let l = c.loop-v in
    let few = c.requires.few in
    let e : l.v ≡ suc (l.v - 1) = omega arith in
    let w = c.put_way.ensures in (
      ways-more (omega arith) few (rw e at l.invariant.0) w c.way.ensures,
      put-frame w (omega arith) l.invariant.1,
      w.low,
    )
