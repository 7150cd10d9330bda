-- Invariant: the places of the cells from i on, counted on from i.
use Rattle.std.proofs.Common.{drop}
use Rattle.score_order.specs.Words.{PlacesFrom}
use Rattle.score_row_rules.proofs.places_of.Given as goal

abbrev pub invariant-loop-i : goal.invariant-loop-i
invariant-loop-i l = PlacesFrom l.i (drop l.i l.list) l.place
