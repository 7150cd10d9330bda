-- The loop's invariant: the text of the first i cells stands over what was in the output, and the progress stands for
-- that load.
use Rattle.definition.specs.Load.{load_of}
use Rattle.text_write.specs.Put.{Wrote}
use Rattle.load_write.specs.Openings.{ProgressOf}
use Rattle.load_write.proofs.put_load.Given as goal

abbrev pub invariant-loop-i : goal.invariant-loop-i
invariant-loop-i l = Wrote (load_of l.seed l.i).text l.fn.output 0 l.output l.p.cursor.at × ProgressOf (load_of l.seed l.i) l.p
