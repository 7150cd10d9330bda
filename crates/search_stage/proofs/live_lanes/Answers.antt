use Rattle.std.proofs.Common.{rules, arith, refl, zero-add}
use Rattle.std.specs.Bool.{⊤}
use Rattle.std.proofs.lemmas.Bool.{MatchBool-at_false}
use Rattle.std.proofs.lemmas.Iterator.{cases_from_any, YieldsList-from_range}
use Rattle.std.proofs.lemmas.List.FromFn.{length-range_with_len, get_or-range_with_len}
use Rattle.search_stage.specs.Stage.{Dead}
use Rattle.search_stage.specs.Starts.{dead-all}
use Rattle.search_stage.proofs.live_lanes.Goals as goal

pub returns : goal.returns
returns c = λ e.
    let none = MatchBool-at_false _ _ e (cases_from_any _ _ c.any.result (λ k. ⊤)
    (λ s. Dead c.args.store.now 0 c.args.i c.args.starts s c.args.low c.args.high) c.any.ensures.ran
    (YieldsList-from_range 0 c.args.starts c.args.starts refl (omega arith)) (λ x q k. tt) (λ x q k. search rules)) in
    dead-all (λ s h. rw (get_or-range_with_len 0 c.args.starts s 0 h, zero-add s) at (none s 0 (omega arith) (rw length-range_with_len h)))
