-- `results::put_results` meets its contract: number and line are laid first, then one field a turn, as far as the array reaches.
use mathlib.Core.Path.{◌≡◌}
use mathlib.Core.List.{◌∷◌}
use lib.ListN.{length, take}
use lib.IntN.{pos}
use Rattle.definition.specs.Outcome.{over}
use Rattle.results.specs.Fields.{max_fields}
use Rattle.results.proofs.put_results.Given as goal

abbrev pub invariant-loop-i : goal.invariant-loop-i
invariant-loop-i l =
    (length l.values ≡ max_fields) × (l.results ≡ over (pos l.number ∷ pos l.line ∷ take l.i l.values) l.initial.results)
