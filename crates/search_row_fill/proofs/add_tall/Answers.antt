-- The position is the next of those to come just if its word says tall.
use Rattle.std.proofs.Common.{eq-eqb, ne_eqb}
use Rattle.search_row_fill.specs.TallWords.{talls-room, talls-more, talls-skip}
use Rattle.search_row_fill.proofs.add_tall.Goals as goal

pub returns-then-row-p-ne1 : goal.returns-then-row-p-ne1
returns-then-row-p-ne1 c = talls-skip c.requires.upto c.requires.before (ne_eqb _ 1 c.if-row-p-ne1.true)

pub bounds-talls-count : goal.bounds-talls-count
bounds-talls-count c = talls-room c.requires.upto c.requires.before (eq-eqb _ 1 c.if-row-p-ne1.false)

pub returns : goal.returns
returns c = talls-more c.requires.upto c.requires.before (eq-eqb _ 1 c.if-row-p-ne1.false) c.requires.few
