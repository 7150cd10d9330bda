-- One block more.
use Prim.Native.Nat.{◌+◌, ◌-◌}
use mathlib.Core.Path.{◌≡◌}
use native.Mathlib.Omega.{arith}
use Rattle.staples_table.specs.Laws.{line-more}
use Rattle.staples_table.proofs.fill_line.Goals as goal

pub loop-q-preserved : goal.loop-q-preserved
loop-q-preserved c =
    let l = c.loop-q in
    let r = c.requires.table.rows in
    let e : l.q ≡ l.q - 1 + 1 = omega arith in
    line-more (omega (arith, r.first.near)) r.second.few (omega arith) (rw e at l.invariant) c.fill_block.ensures
