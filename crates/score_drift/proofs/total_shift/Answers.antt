use Rattle.std.proofs.Common.{ℕ, ◌+◌, ◌-◌, List, length, arith}
use Rattle.std.proofs.lemmas.Int.{ints}
use Rattle.score_order.specs.declared.Stand.{Stand}
use Rattle.score_drift.specs.Total.{total-more, total-none}
use Rattle.score_drift.proofs.total_shift.Goals as goal

pub loop-stand-preserved : goal.loop-stand-preserved
loop-stand-preserved c =
    let m = c.loop-stand.invariant in
    let s : List Stand = c.args.stands.now in
    let n : ℕ = length s in
    let k : ℕ = c.loop-stand.stand-index in
    let more = total-more s k (k + 1) (n - k) (n - (k + 1)) (omega arith) (omega arith) in
    record {
      sum = omega (arith, ints, more, m.sum, c.displacement-total.ensures);
      small = omega (arith, ints, m.small, c.displacement-total.ensures, c.requires.site k (omega arith), c.requires.given k (omega arith));
    }

pub returns : goal.returns
returns c =
    let m = c.loop-stand.invariant in
    let none = total-none c.args.stands.now c.loop-stand.stand-index (length c.args.stands.now - c.loop-stand.stand-index) (omega arith) in
    record { total = omega (arith, ints, none, m.sum); small = omega (arith, ints, m.small) }
