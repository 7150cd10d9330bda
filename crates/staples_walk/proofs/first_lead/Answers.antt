-- What `find` gives over the numbers.
use Prim.Native.Nat.{ℕ, ◌<◌, ◌≤◌}
use mathlib.Core.Path.{◌≡◌}
use mathlib.Core.Bool.{Bool, true, false}
use native.Mathlib.Omega.{arith}
use borrow.Author.Rules.{rules}
use borrow.Author.Tests.{tests}
use Rattle.std.specs.Prelude.{Option, Some, None, MatchOption}
use Rattle.std.proofs.lemmas.Iterator.{first_from_Range}
use Rattle.staples_walk.specs.Steps.{leads_in, FirstLead}
use Rattle.staples_walk.proofs.first_lead.Goals as goal

found : (lead : ℕ → Bool) (n : ℕ) (r : Option ℕ)
    → MatchOption r ((k : ℕ) → 0 ≤ k → k < n → lead k ≡ false)
    (λ v. (0 ≤ v) × (v < n) × (lead v ≡ true) × ((k : ℕ) → 0 ≤ k → k < v → lead k ≡ false))
    → FirstLead lead n r
found lead n None m = λ k h. m k (omega arith) h
found lead n (Some v) m = record { below = m.1; leads = m.2; first = λ k h. m.3 k (omega arith) h }

pub returns : goal.returns
returns c =
    let a = c.args in
    let lead : ℕ → Bool = leads_in a.store.now a.row.now a.next a.own a.other a.rests a.fewest in
    found lead a.next.numbers c.find.result
    (first_from_Range _ _ _ c.find.result (λ k. lead k ≡ true) (λ k. lead k ≡ false) c.find.ensures.ran
    (λ x q k. search (rules, tests)) (λ x q k. search (rules, tests)))
