-- 1, 3 and 7 are the starts for 0, 1 and 2.
use mathlib.Core.Path.{◌≡◌, sym, ap}
use native.Mathlib.Omega.{arith}
use Rattle.theory_row.specs.Window.{start}
use Rattle.search_dense_first.proofs.start_marks.Goals as goal

pub returns-in-0 : goal.returns-in-0
unfolding start
returns-in-0 c = ap start (sym c.in-0.is)

pub returns-in-1 : goal.returns-in-1
unfolding start
returns-in-1 c = ap start (sym c.in-1.is)

pub returns-in_default : goal.returns-in_default
unfolding start
returns-in_default c =
    let e : 2 ≡ c.args.r = omega arith in ap start e
