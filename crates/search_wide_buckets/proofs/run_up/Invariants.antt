-- Each turn lowers one row more to the row before, which ran up already.
use Rattle.std.proofs.Common.{◌+◌}
use Rattle.search_wide_buckets.specs.Table.{RunUp}
use Rattle.search_wide_buckets.proofs.run_up.Given as goal

abbrev pub invariant-loop-t : goal.invariant-loop-t
invariant-loop-t l = RunUp (l.t + 1) l.lanes l.initial.table l.table
