-- Each turn writes one bucket more.
use Rattle.std.proofs.Common.{◌+◌, ◌*◌}
use Rattle.search_buckets.specs.Rows.{Pays}
use Rattle.search_buckets.proofs.pay_row.Given as goal

abbrev pub invariant-loop-v : goal.invariant-loop-v
invariant-loop-v l = Pays l.row l.k l.m l.buckets (l.u * 9 + l.v) l.pays
