-- The entry is noted; if it is not of the first layer its source is found, and the rest is a traceback from there. The measure is how many layers are left.
use Prim.Native.Nat.{◌-◌}
use native.Mathlib.Omega.{arith}
use Rattle.search_row.specs.Words.{deck_in}
use Rattle.search_back_segment.specs.Steps.{trace-entry, trace-more}
use Rattle.search_back_segment.proofs.+trace.Goals as goal

pub entry_source-from-requires : goal.entry_source-from-requires
entry_source-from-requires t c = trace-entry (omega arith) c.requires

pub returns : goal.returns
returns t c =
    let a = c.args in
    let g = c.requires in
    let n = c.entry_source-from in
    trace-more (deck_in a.row.words.now a.row.sizes) a.row.sizes.reordering a.store.now a.i a.d (a.d - 1) a.q a.a
    n.result.state n.result.pose (omega arith)
    c.note.ensures (omega (arith, g.last, g.room)) g.state g.pose n.ensures c.trace.ensures
