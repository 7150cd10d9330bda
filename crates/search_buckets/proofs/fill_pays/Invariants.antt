-- Each turn writes the buckets of one variant more.
use Rattle.std.proofs.Common.{◌*◌}
use Rattle.search_buckets.specs.Rows.{Pays}
use Rattle.search_buckets.proofs.fill_pays.Given as goal

abbrev pub invariant-loop-u : goal.invariant-loop-u
invariant-loop-u l = Pays l.row l.k l.m l.buckets (l.u * 9) l.pays
