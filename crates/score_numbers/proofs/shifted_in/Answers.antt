use Rattle.std.proofs.Common.{ℕ, ◌+◌, ◌-◌, List, length, arith}
use Rattle.score_order.specs.declared.Stand.{Stand}
use Rattle.score_numbers.specs.Sums.{shift_in, sum_more, sum-none}
use Rattle.score_numbers.proofs.shifted_in.Goals as goal

pub loop-stand-preserved : goal.loop-stand-preserved
unfolding shift_in
loop-stand-preserved c =
    let m = c.loop-stand.invariant in
    let s : List Stand = c.args.stands.now in
    let n : ℕ = length s in
    let k : ℕ = c.loop-stand.stand-index in
    let more = sum_more k (k + 1) (n - k) (n - (k + 1)) (omega arith) (omega arith) (shift_in s) in
    record {
      sum = omega (arith, more, m.sum);
      small = omega (arith, m.small, c.requires.site k (omega arith), c.requires.given k (omega arith));
    }

pub returns-clause-same : goal.returns-clause-same
returns-clause-same c =
    omega (arith, c.loop-stand.invariant.sum, sum-none (shift_in c.args.stands.now) c.loop-stand.stand-index (length c.args.stands.now - c.loop-stand.stand-index) (omega arith))
