-- The first layer is made, the layers up to the stage's end are kept, and the traceback goes back through them.
use Prim.Native.Nat.{ℕ, ◌+◌, ◌*◌}
use mathlib.Core.Path.{◌≡◌, ap}
use native.Mathlib.Omega.{arith}
use lib.ListN.{get_or}
use Rattle.theory_tables.specs.Steps.{pose_slots}
use Rattle.search_row.specs.Words.{pos_in}
use Rattle.theory_tables.specs.Stages.{placed_with}
use Rattle.search_back_stage.proofs.Laws.{start-late, tall-late, tall-segment, tall-none}
use Rattle.search_back_stage.proofs.Laws.{tall-trace, tall-done, last-segment, last-trace, last_done}
use Rattle.search_back_stage.proofs.stage_trace.Goals as goal
use Rattle.search_back_stage.proofs.stage_trace.Goals.{After-placed_with-end, After-kept_at}

-- the tall cell's place, as counted
placed : (c : After-placed_with-end) → (c.placed_with-end.result ≡ placed_with c.args.row.sizes.reordering (pos_in c.args.row.words.now c.args.leg.stage) c.args.leg.state)
unfolding pos_in
placed c = omega (arith, c.placed_with-end.ensures, c.tall_at.ensures)

pub returns-then-i-gt-MAX_KEPT : goal.returns-then-i-gt-MAX_KEPT
returns-then-i-gt-MAX_KEPT c =
    start-late c.requires (omega (arith, c.cells_of-i.ensures, c.if-i-gt-MAX_KEPT.true))

pub returns-then-end-i : goal.returns-then-end-i
returns-then-end-i c =
    tall-late c.requires c.put_first.ensures
    (omega (arith, c.put_first.ensures.count, c.cells_of-i.ensures, c.if-i-gt-MAX_KEPT.false))
    c.if-stage-row.true (placed (goal.at-returns-then-end-i c).After-placed_with-end) c.if-end-i.true

pub segment_kept-requires : goal.segment_kept-requires
segment_kept-requires c =
    tall-segment c.requires c.put_first.ensures
    (omega (arith, c.put_first.ensures.count, c.cells_of-i.ensures, c.if-i-gt-MAX_KEPT.false))
    c.if-stage-row.true (placed (goal.at-segment_kept-requires c).After-placed_with-end)

pub returns-then-store-kept_at-ge-NONE : goal.returns-then-store-kept_at-ge-NONE
returns-then-store-kept_at-ge-NONE c =
    tall-none c.requires c.put_first.ensures
    (omega (arith, c.put_first.ensures.count, c.cells_of-i.ensures, c.if-i-gt-MAX_KEPT.false))
    c.if-stage-row.true (placed (goal.at-returns-then-store-kept_at-ge-NONE c).After-placed_with-end) c.if-end-i.false c.segment_kept.ensures (omega (
      arith,
      ap (λ (k : ℕ). get_or c.segment_kept.new.store (k + c.args.leg.state * pose_slots
          + c.args.leg.pose) 0) c.kept_at.ensures,
      c.if-store-kept_at-ge-NONE.true,
    ))

pub trace-requires : goal.trace-requires
trace-requires c =
    tall-trace c.requires c.put_first.ensures
    (omega (arith, c.put_first.ensures.count, c.cells_of-i.ensures, c.if-i-gt-MAX_KEPT.false))
    c.if-stage-row.true (placed (goal.at-trace-requires c).After-placed_with-end) c.if-end-i.false c.segment_kept.ensures (omega (
      arith,
      ap (λ (k : ℕ). get_or c.segment_kept.new.store (k + c.args.leg.state * pose_slots
          + c.args.leg.pose) 0) c.kept_at.ensures,
      c.if-store-kept_at-ge-NONE.false,
    ))

pub returns-then-stage-row : goal.returns-then-stage-row
returns-then-stage-row c =
    tall-done c.requires c.put_first.ensures
    (omega (arith, c.put_first.ensures.count, c.cells_of-i.ensures, c.if-i-gt-MAX_KEPT.false))
    c.if-stage-row.true (placed (goal.at-returns-then-stage-row c).After-placed_with-end) c.if-end-i.false c.segment_kept.ensures
    c.trace.ensures

pub segment_kept-requires-2 : goal.segment_kept-requires-2
segment_kept-requires-2 c =
    last-segment c.requires c.put_first.ensures
    (omega (arith, c.put_first.ensures.count, c.cells_of-i.ensures, c.if-i-gt-MAX_KEPT.false))
    c.if-stage-row.false

pub trace_end-requires : goal.trace_end-requires
trace_end-requires c =
    last-trace c.requires c.put_first.ensures
    (omega (arith, c.put_first.ensures.count, c.cells_of-i.ensures, c.if-i-gt-MAX_KEPT.false))
    c.if-stage-row.false c.segment_kept-2.ensures

pub returns : goal.returns
returns c =
    last_done c.requires c.put_first.ensures
    (omega (arith, c.put_first.ensures.count, c.cells_of-i.ensures, c.if-i-gt-MAX_KEPT.false))
    c.if-stage-row.false c.segment_kept-2.ensures c.trace_end.ensures
