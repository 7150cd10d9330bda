-- One row after the other; the first leaves the tables.
use Rattle.search_back.specs.Laws.{leg_row₀, leg_row₁}
use Rattle.search_back.proofs.both_trace.Goals as goal

pub stage_trace-requires : goal.stage_trace-requires
stage_trace-requires c =
    leg_row₀ c.requires

pub stage_trace-requires-2 : goal.stage_trace-requires-2
stage_trace-requires-2 c =
    let w = c.stage_trace.ensures in
    rw c.with_cells.ensures (leg_row₁ c.requires w.low w.frame.long)
