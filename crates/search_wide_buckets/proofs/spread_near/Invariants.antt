-- Each turn lowers row t of one bucket more.
use Rattle.search_wide_buckets.specs.Table.{charged_one, Spread}
use Rattle.search_wide_buckets.proofs.spread_near.Given as goal

abbrev pub invariant-loop-v : goal.invariant-loop-v
invariant-loop-v l = Spread (charged_one l.x l.pays l.u) l.t l.first l.v l.lane 1 l.initial.table l.table
