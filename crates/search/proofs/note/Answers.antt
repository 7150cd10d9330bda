-- The trace notes both rows' paths; what it noted is what each scatter is given, and both scatters together are the answer.
use native.Mathlib.Omega.{arith}
use Rattle.search_back.specs.Laws.{trace-given}
use Rattle.search.specs.Answer.{was_traced, first-given, second-given, answered}
use Rattle.search.proofs.note.Goals as goal

pub trace-requires : goal.trace-requires
trace-requires c =
    trace-given c.requires.tables.given (omega arith) (omega arith)

pub scatter-requires : goal.scatter-requires
scatter-requires c =
    let w = c.trace in
    let t = was_traced c.requires.rows c.requires.tables w.ensures in
    first-given c.requires.rows w.new.path0 w.new.path1 t (omega (arith, w.ensures.long₀)) c.requires.room

pub scatter-requires-2 : goal.scatter-requires-2
scatter-requires-2 c =
    let w = c.trace in
    let t = was_traced c.requires.rows c.requires.tables w.ensures in
    second-given c.requires.rows w.new.path0 w.new.path1 t (omega (arith, w.ensures.long₁))
    (omega (arith, c.requires.room, c.scatter.ensures.long))

pub returns : goal.returns
returns c =
    let w = c.trace in
    let t = was_traced c.requires.rows c.requires.tables w.ensures in
    answered c.requires.rows w.new.path0 w.new.path1 t c.requires.numbers c.scatter.ensures
    c.scatter-2.ensures
