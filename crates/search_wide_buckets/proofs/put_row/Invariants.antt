-- Each turn writes one lane more; common bits are at most each number that has them.
use Rattle.search_wide_buckets.specs.Table.{found_row, RowFound}
use Rattle.search_wide_buckets.proofs.put_row.Given as goal

abbrev pub invariant-loop-l : goal.invariant-loop-l
invariant-loop-l l = RowFound l.x (found_row l.buckets l.table l.own l.a) l.at l.l l.initial.store l.store
