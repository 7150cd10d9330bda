-- The blocks of one cell less of row 0.
use Prim.Native.Nat.{◌+◌, ◌-◌}
use mathlib.Core.Path.{◌≡◌}
use native.Mathlib.Omega.{arith}
use Rattle.staples_table.specs.Laws.{table_more}
use Rattle.staples_table.proofs.fill_table.Goals as goal

pub loop-p-preserved : goal.loop-p-preserved
loop-p-preserved c =
    let l = c.loop-p in
    let r = c.requires.rows in
    let e : l.p ≡ l.p - 1 + 1 = omega arith in
    table_more (omega (arith, r.first.near)) r.second.few (omega arith) (rw e at l.invariant) c.fill_line.ensures
