use Rattle.std.proofs.Common.{rules, tests, ◌≡◌, ◌<◌, ◌+◌, ◌-◌, ℕ, length, drop}
use Rattle.std.specs.List.{slice_range}
use Rattle.std.proofs.lemmas.Iterator.{cases_from_any, YieldsList-from_slice}
use Rattle.std.proofs.Common.{arith, length-drop, length-take, get_or-take, get_or-drop}
use Rattle.search_join.specs.Sums.{sum_flags}
use Rattle.search_join.proofs.sums.any_sums.Goals as goal

pub returns : goal.returns
returns c =
    let xs = slice_range c.args.sums.now sum_flags (sum_flags + c.args.starts) in
    let m = cases_from_any _ _ _ (λ (x : ℕ). 0 < x) (λ x. x ≡ 0) c.any.ensures.ran (YieldsList-from_slice xs cc) (λ x q k. search (rules, tests)) (λ x q k. search (rules, tests)) in
    λ e t h.
    let none = rw e at m in
    let room : sum_flags + t < length c.args.sums.now = omega (arith, c.requires.room.long, c.requires.states) in
    let at = none t 0 (omega arith) (omega (arith, length-take {A = ℕ}, length-drop {A = ℕ})) in
    omega (
      arith,
      at,
      get_or-take (sum_flags + c.args.starts - sum_flags) (drop sum_flags c.args.sums.now) t 0 (omega arith),
      get_or-drop sum_flags c.args.sums.now t 0,
    )
