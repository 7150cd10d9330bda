use Prim.Native.Nat.{◌+◌}
use mathlib.Core.Path.{◌≡◌}
use native.Mathlib.Omega.{arith}
use Rattle.search_lanes.specs.Laws.{written-more}
use Rattle.search_row.specs.Laws.{back_low}
use Rattle.search_stage.proofs.row.backs.Goals as goal

pub loop-l-preserved : goal.loop-l-preserved
loop-l-preserved c =
    let l = c.loop-l in
    let r = c.back in
    let z : 0 + l.l ≡ l.l = omega arith in
    rw z at (written-more l.l r.result l.invariant (omega (arith, c.requires.room)) r.ensures
    (omega (arith, r.ensures, back_low c.args.row.now c.args.p l.l)))
