-- The loop's invariant: the first i layouts are written.
use Rattle.definition.specs.Load.{repeated}
use Rattle.load_write.specs.Fields.{WroteFields}
use Rattle.load_write.specs.Cells.{layout_of}
use Rattle.load_write.proofs.put_layouts.Given as goal

abbrev pub invariant-loop-i : goal.invariant-loop-i
invariant-loop-i l = WroteFields (repeated l.i (layout_of l.heights)) l.initial.c l.initial.output l.output l.c
