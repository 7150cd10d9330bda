-- Past the test a cell was left to place, and the last of them is found by the least of the last layer.
use native.Mathlib.Omega.{arith}
use mathlib.Core.Path.{refl}
use Rattle.search_row.specs.Words.{deck_in}
use Rattle.search_back_segment.specs.Steps.{end_none, end-closed, end-traced}
use Rattle.search_back_segment.proofs.trace_end.Goals as goal

pub returns-then-row-i : goal.returns-then-row-i
returns-then-row-i c =
    end_none (deck_in c.args.row.words.now c.args.row.sizes) c.args.row.sizes.reordering c.args.store.now c.args.i c.args.path.now (omega arith)

pub returns-in_default : goal.returns-in_default
returns-in_default c = end-closed c.args.path.now (omega arith) c.in_default.ensures

pub returns : goal.returns
returns c = end-traced (omega arith) refl c.in-Some.ensures.0 c.trace.ensures
