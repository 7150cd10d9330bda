-- The loop's invariant: the first i entries are laid over the others.
use mathlib.Core.Path.{◌≡◌}
use lib.ListN.{take}
use Rattle.definition.specs.Outcome.{over}
use Rattle.op_fault.proofs.lay.Given as goal

abbrev pub invariant-loop-i : goal.invariant-loop-i
invariant-loop-i g l = l.to ≡ over (take l.i l.from) l.initial.to
