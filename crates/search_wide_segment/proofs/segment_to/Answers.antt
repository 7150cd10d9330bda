-- Nothing is left, or the layer with tall + r + 1 cells.
use native.Mathlib.Omega.{arith}
use Rattle.search_wide_segment.specs.Laws.{costed-last}
use Rattle.search_wide_segment.proofs.segment_to.Goals as goal

pub returns : goal.returns
returns c =
    costed-last c.requires.segment.given.grounded.all c.run_to-at.ensures (omega (arith, c.if-first-tall.false))
    c.last_layer.ensures
