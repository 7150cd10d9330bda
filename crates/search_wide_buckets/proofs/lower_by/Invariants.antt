-- Each turn lowers one lane more; the lanes that it is lowered to lie below.
use Rattle.search_lanes.specs.Lanes.{words_from}
use Rattle.search_lanes.specs.Lowered.{LoweredAt}
use Rattle.search_wide_buckets.proofs.lower_by.Given as goal

abbrev pub invariant-loop-l : goal.invariant-loop-l
invariant-loop-l l = LoweredAt (words_from l.initial.table l.from) l.to l.l l.initial.table l.table
