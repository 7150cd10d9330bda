-- Each turn writes one row more.
use Rattle.search_lanes.specs.Store.{RowsSaid}
use Rattle.search_wide_buckets.specs.Table.{found_row_of}
use Rattle.search_wide_buckets.proofs.put_rows.Given as goal

abbrev pub invariant-loop-a : goal.invariant-loop-a
invariant-loop-a l = RowsSaid (found_row_of l.buckets l.row l.table l.k) l.at l.a l.lanes l.initial.store l.store
