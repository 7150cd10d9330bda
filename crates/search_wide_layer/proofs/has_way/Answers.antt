use Rattle.std.proofs.Common.{rules, arith, refl, zero-add}
use Rattle.std.specs.Bool.{⊤}
use Rattle.std.proofs.lemmas.Bool.{MatchBool-at_false}
use Rattle.std.proofs.lemmas.Iterator.{cases_from_any, YieldsList-from_range}
use Rattle.std.proofs.lemmas.List.FromFn.{length-range_with_len, get_or-range_with_len}
use Rattle.search_wide_layer.specs.Loops.{NoWay}
use Rattle.search_wide_layer.proofs.has_way.Goals as goal

pub returns : goal.returns
returns c = λ e p h.
    let none = MatchBool-at_false _ _ e (cases_from_any _ _ c.any.result (λ k. ⊤)
    (λ k. NoWay c.args.row.words.now c.args.store.now c.args.row.sizes c.args.layer c.args.q k) c.any.ensures.ran
    (YieldsList-from_range 0 c.args.row.sizes.states c.args.row.sizes.states refl (omega arith)) (λ x q k. tt) (λ x q k. search rules)) in
    rw (get_or-range_with_len 0 c.args.row.sizes.states p 0 h, zero-add p) at (none p 0 (omega arith) (rw length-range_with_len h))
