use Rattle.std.proofs.Common.{refl, length, rules, tests, ◌∙◌}
use Rattle.std.proofs.Math.Nat.{sub-zero}
use Rattle.std.proofs.lemmas.Iterator.{YieldsList-from_range}
use Rattle.std.proofs.lemmas.Iterator.Search.{any_from_yields_List}
use Rattle.score_cell_rules.specs.Tests.{clash_in, clashes_in}
use Rattle.score_cell_rules.specs.Lowest.{any-range}
use Rattle.score_cell_rules.proofs.clashes.Goals as goal

pub returns : goal.returns
unfolding clashes_in
returns c =
    any_from_yields_List (clash_in c.args.stands.now c.args.k) _ _ _ c.any.ensures.ran (YieldsList-from_range 0 (length c.args.stands.now) (length c.args.stands.now) refl (sub-zero (length c.args.stands.now)))
    (λ x b q k. search (rules, tests))
    ∙ any-range (clash_in c.args.stands.now c.args.k) 0 (length c.args.stands.now)
