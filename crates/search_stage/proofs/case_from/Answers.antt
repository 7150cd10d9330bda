-- Row 0's state is the first of a case, row 1's the second.
use mathlib.Core.Path.{◌∙◌}
use Rattle.search_stage.specs.Starts.{from_0, from_1}
use Rattle.search_stage.proofs.case_from.Goals as goal

pub returns-then-side-eq0 : goal.returns-then-side-eq0
returns-then-side-eq0 c =
    c.case_at.ensures ∙ from_0 c.args.side c.args.i c.args.s c.args.t c.if-side-eq0.true

pub returns : goal.returns
returns c =
    c.case_at-2.ensures ∙ from_1 c.args.side c.args.i c.args.s c.args.t c.if-side-eq0.false
