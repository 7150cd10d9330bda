-- Each step places one cell, and what is walked from there on is what is said of it.
use native.Mathlib.Omega.{arith}
use Rattle.staples_walk.specs.Walked.{walked_end, walked₀, walked₁}
use Rattle.staples_walk.proofs.+walk.Goals as goal

pub returns-then-here-counts : goal.returns-then-here-counts
returns-then-here-counts t c =
    walked_end c.args.row0.now c.args.row1.now c.args.counts c.args.here c.requires.here c.if-here-counts.true

pub returns-in-Row0 : goal.returns-in-Row0
returns-in-Row0 t c =
    let a = c.args in
    walked₀ a.row0.now a.row1.now a.counts a.here c.in-Row0.number (omega arith) (omega arith) c.in-Row0.ensures.1
    (rw c.note.ensures at c.walk.ensures)

pub returns-in-Row1 : goal.returns-in-Row1
returns-in-Row1 t c =
    let a = c.args in
    walked₁ a.row0.now a.row1.now a.counts a.here c.in-Row1.number (omega arith) (omega arith) c.in-Row1.ensures.1
    (rw c.note-in-Row1.ensures at c.walk-in-Row1.ensures)
