-- A number is never below 0.
use mathlib.Core.Path.{◌≡◌}
use borrow.Author.Rules.{rules}
use Rattle.std.proofs.Math.Dec.{leb-zero}
use Rattle.definition.specs.Texts.{within}
use Rattle.definition.specs.Job.{max_sites, header_in_range}
use Rattle.job_ranges.proofs.header_fits.Goals as goal

pub returns : goal.returns
unfolding header_in_range
returns c =
    let rows : c.contains.result ≡ within 1 2 c.args.h.rows = search rules in
    let sites : c.contains-2.result ≡ within 1 max_sites c.args.h.sites = search rules in
    rw (rows, sites, c.all_within.ensures) (simp leb-zero)
