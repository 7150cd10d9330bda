-- The first mark is that of the lowest cell.
use Rattle.std.proofs.Common.{◌≡◌, true, false, rules, tests, ◌+◌}
use Rattle.std.specs.Option.{option_map}
use Rattle.std.proofs.lemmas.Iterator.{IsFirst-from_position, YieldsList-from_slice}
use Rattle.score_cell_rules.specs.Lowest.{first_lowest}
use Rattle.score_cell_rules.proofs.lowest_marked.Goals as goal

pub returns : goal.returns
returns c =
    let first =
    first_lowest c.args.marks.now _
    (IsFirst-from_position _ _ _ (λ x. x ≡ true) (λ x. x ≡ false) c.position-first.ensures.ran (YieldsList-from_slice c.args.marks.now c.iter.ensures.rest)
    (λ x q k. search (rules, tests)) (λ x q k. search (rules, tests))) in
    let e : c.map.result ≡ option_map (λ k. k + 1) c.position-first.result = search rules in
    rw e first
