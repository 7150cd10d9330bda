-- The stages leave the least cost as the one case of the last table.
use Prim.Native.Nat.{◌+◌}
use mathlib.Core.Path.{refl}
use native.Mathlib.Omega.{arith}
use Rattle.search_stage.specs.Laws.{given-first}
use Rattle.search.specs.Found.{costed}
use Rattle.search.proofs.least_cost.Goals as goal

pub bounds-store-case_at : goal.bounds-store-case_at
bounds-store-case_at c =
    let t = c.requires.given₀.few in
    omega (arith, c.case_at.ensures, given-first c.requires (c.args.rows.sizes.talls + 1) (omega arith), c.stages.ensures.long)

pub returns : goal.returns
returns c =
    costed c.args.rows.row0.now c.args.rows.row1.now c.args.rows.sizes c.args.rows.cells1 c.case_at.ensures refl c.stages.ensures
