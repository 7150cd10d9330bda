-- A state without sums or without costs has no way; another one says the words of both.
use mathlib.Core.Path.{◌∙◌}
use mathlib.Core.Logic.{inl, inr}
use Rattle.search_join.specs.SumLaws.{cost-none}
use Rattle.search_join.specs.CaseLaws.{end_none, end-least}
use Rattle.search_join.proofs.end_sum.Goals as goal

pub returns-then-sums-t-eq0 : goal.returns-then-sums-t-eq0
returns-then-sums-t-eq0 c =
    end_none c.args.join.lanes c.args.sums.now c.args.store.now c.args.q1 c.args.a c.args.t (inl c.if-sums-t-eq0.true)

pub returns-then-store-costs-eq0 : goal.returns-then-store-costs-eq0
returns-then-store-costs-eq0 c =
    end_none c.args.join.lanes c.args.sums.now c.args.store.now c.args.q1 c.args.a c.args.t
    (inr (λ l. cost-none c.args.store.now 1 c.args.t l c.args.q1 c.args.a _ c.cost_at-costs.ensures c.if-store-costs-eq0.true))

pub returns : goal.returns
returns c =
    c.least_lane.ensures
    ∙ end-least c.args.join.lanes c.args.sums.now c.args.store.now c.args.q1 c.args.a c.args.t _ c.if-sums-t-eq0.false c.cost_at-costs.ensures c.if-store-costs-eq0.false
