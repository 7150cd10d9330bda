-- Each turn clears one bucket more.
use Rattle.search_wide_buckets.specs.Table.{Cleared}
use Rattle.search_wide_buckets.proofs.reset.Given as goal

abbrev pub invariant-loop-v : goal.invariant-loop-v
invariant-loop-v l = Cleared l.rows l.lanes l.v l.table
