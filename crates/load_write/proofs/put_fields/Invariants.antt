-- The loop's invariant: the fields of the first i ranges are written, and the generator has made i draws.
use lib.ListN.{replicate}
use Rattle.definition.specs.Draws.{◌to◌}
use Rattle.load_write.specs.Fields.{WroteFields}
use Rattle.load_write.proofs.put_fields.Given as goal

abbrev pub invariant-loop-i : goal.invariant-loop-i
invariant-loop-i l = WroteFields (replicate l.i (l.low to l.high)) l.initial.c l.initial.output l.output l.c
