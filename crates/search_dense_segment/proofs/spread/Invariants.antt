-- Each turn writes one row's word more, from below the rows.
use Rattle.search_lanes.specs.Store.{RowsSaid}
use Rattle.search_dense_segment.specs.Opened.{spread_from}
use Rattle.search_dense_segment.proofs.spread.Given as goal

abbrev pub invariant-loop-a : goal.invariant-loop-a
invariant-loop-a l =
    RowsSaid (spread_from l.initial.store l.from) l.at l.a 1 l.initial.store l.store
