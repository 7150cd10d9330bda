-- The row's start has one cell in its first layer; the tall cell before has those placed with it, and one more.
use Prim.Native.Nat.{◌-◌}
use native.Mathlib.Omega.{arith}
use Rattle.search_row.specs.Words.{pos_in}
use Rattle.search_back_stage.proofs.Laws.{start-one, start-count}
use Rattle.search_back_stage.proofs.cells_of.Goals as goal

pub returns-then-stage-eq0 : goal.returns-then-stage-eq0
returns-then-stage-eq0 c = start-one c.args.row.sizes.reordering (pos_in c.args.row.words.now) c.args.stage c.args.s c.if-stage-eq0.true

pub returns : goal.returns
unfolding pos_in
returns c =
    omega (
      arith,
      c.placed_with.ensures,
      c.tall_at-p.ensures,
      start-count c.args.row.sizes.reordering (pos_in c.args.row.words.now) c.args.stage (c.args.stage - 1) c.args.s (omega arith),
    )
