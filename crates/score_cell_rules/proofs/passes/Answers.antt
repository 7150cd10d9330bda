use Rattle.std.proofs.Common.{refl, length, rules, tests, ◌∙◌, eq-eqb}
use Rattle.std.proofs.Math.Nat.{sub-zero}
use Rattle.std.proofs.lemmas.Iterator.{YieldsList-from_range}
use Rattle.std.proofs.lemmas.Iterator.Search.{any_from_yields_List}
use Rattle.score_cell_rules.specs.Tests.{wrong_in, passes_in}
use Rattle.score_cell_rules.specs.Lowest.{any-range}
use Rattle.score_cell_rules.proofs.passes.Goals as goal

pub returns-then-stands-k-eq2 : goal.returns-then-stands-k-eq2
unfolding passes_in
returns-then-stands-k-eq2 c =
    let found =
    any_from_yields_List (wrong_in c.args.stands.now c.args.k) _ _ c.any.result c.any.ensures.ran (YieldsList-from_range 0 (length c.args.stands.now) (length c.args.stands.now) refl (sub-zero (length c.args.stands.now)))
    (λ x b q k. search (rules, tests)) in
    rw (eq-eqb _ 2 c.if-stands-k-eq2.true) (found ∙ any-range (wrong_in c.args.stands.now c.args.k) 0 (length c.args.stands.now))
