-- A case of stage 0 is traced to the start of both rows. Of a later one the pointer gives the case before, unless it stands for none, and the rest is a trace
-- from there, of one stage less (the measure).
use Prim.Native.Nat.{◌-◌}
use mathlib.Core.Path.{refl}
use native.Mathlib.Omega.{arith}
use Rattle.search_back.specs.Laws.{pointer_room, open_done, stray_done, back-rest, back_done}
use Rattle.search_back.proofs.+trace_from.Goals as goal

pub returns-then-i-eq0 : goal.returns-then-i-eq0
returns-then-i-eq0 t c = open_done c.if-i-eq0.true c.both_trace.ensures

pub case_before-requires : goal.case_before-requires
case_before-requires t c = pointer_room c.requires

pub returns-in_default : goal.returns-in_default
returns-in_default t c =
    stray_done c.requires (c.args.at.stage - 1) _ (omega arith) refl c.in_default.ensures

pub trace_from-requires : goal.trace_from-requires
trace_from-requires t c =
    let from = c.in-Some.ensures in (
      omega arith,
      rw from.0
          (back-rest c.requires (c.args.at.stage - 1) _ (omega arith) refl from.1 from.2 from.3 (rw from.0 at c.both_trace-2.ensures)),
    )

pub returns : goal.returns
returns t c =
    let from = c.in-Some.ensures in
    back_done c.requires (c.args.at.stage - 1) _ (omega arith) refl from.1 from.2 from.3 (rw from.0 at c.both_trace-2.ensures)
    (rw from.0 at c.trace_from.ensures)
