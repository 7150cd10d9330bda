use mathlib.Core.Path.{◌≡◌}
use native.Mathlib.Omega.{arith}
use Rattle.search_join.specs.SumLaws.{sums_cleared, no_sums}
use Rattle.search_join.proofs.sums.fill_sums.Goals as goal

pub loop-s-init : goal.loop-s-init
loop-s-init c =
    sums_cleared c.args.join c.args.store.now c.args.q0 c.args.a c.requires.room c.fill.ensures

pub returns : goal.returns
returns c =
    let j = c.args.join in
    let e : c.loop-s.s ≡ j.starts = omega arith in
    record { all = rw e at c.loop-s.invariant; dead = λ d. no_sums j.starts j.lanes c.loop-s.sums (c.any_sums.ensures d) }
