-- A dead start state is left; for another one its costs are filled in.
use mathlib.Core.Path.{◌≡◌}
use native.Mathlib.Omega.{arith}
use Rattle.search_store.specs.Map.{costs_at}
use Rattle.search_row.specs.Words.{deck_in, pos_in}
use Rattle.search_stage.specs.Stage.{cost_of}
use Rattle.search_stage.specs.Starts.{start_live}
use Rattle.search_stage.proofs.cost_start.Goals as goal

pub returns : goal.returns
returns c =
    let e : c.cost_at-costs.result ≡ costs_at c.args.side c.args.s = omega (arith, c.cost_at-costs.ensures) in
    start_live c.args.side c.args.s _ (cost_of (deck_in c.args.row.words.now c.args.row.sizes) c.args.row.sizes.reordering c.args.row.sizes.talls (pos_in c.args.row.words.now) c.args.i) e
    c.row_cost.ensures
