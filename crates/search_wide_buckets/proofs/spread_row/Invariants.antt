-- Each turn lowers the buckets of one lane more.
use Rattle.search_wide_buckets.specs.Table.{charged_words, Spread}
use Rattle.search_wide_buckets.proofs.spread_row.Given as goal

abbrev pub invariant-loop-l : goal.invariant-loop-l
invariant-loop-l l = Spread (charged_words l.words l.pays l.u) l.t 0 l.buckets 0 l.l l.initial.table l.table
