-- The four words are those of the gaps that pay and of the row that ran up.
use Rattle.std.proofs.Common.{◌+◌, ◌*◌, ◌-◌, ◌/◌, ◌%◌, refl, arith}
use Rattle.search_store.specs.Map.{bucket_words, max_lanes}
use Rattle.search_wide_buckets.specs.TableLaws.{found-words}
use Rattle.search_wide_buckets.proofs.found_lane.Goals as goal

pub returns : goal.returns
returns c =
    let far = c.args.a / 4 * max_lanes + c.args.l in
    let near = (1 + c.args.a % 4) * bucket_words + far in
    let other = (c.args.buckets - 4 + c.args.a % 4) * bucket_words + far in
    let low = c.requires.looks.lent.low in
    omega (arith, found-words c.args.buckets c.args.a c.args.l near other far low refl refl refl)
