-- The state's first word is its digit.
use Prim.Native.Nat.{suc, ◌+◌, ◌<◌}
use native.Mathlib.Omega.{arith}
use Rattle.theory_tables.specs.Steps.{offset}
use Rattle.search_lanes.specs.Laws.{state-closed}
use Rattle.search_wide_segment.specs.Laws.{late-take}
use Rattle.search_wide_segment.proofs.late_state.Goals as goal

pub returns : goal.returns
returns c =
    let e : c.args.tall + suc c.args.row.sizes.reordering < c.args.layer.cells + offset c.args.row.sizes.reordering c.args.q =
    omega (arith, c.if-layer-word.false, c.word.ensures, c.requires.to_tall.coded.digit c.args.q c.requires.state) in
    state-closed c.requires.to_tall.narrow (omega arith) c.requires.to_tall.low c.fill.ensures
    (λ b l x y. late-take c.args.row.sizes.reordering c.args.layer.cells c.args.tall c.args.store.now c.args.costs l c.args.q b e)
