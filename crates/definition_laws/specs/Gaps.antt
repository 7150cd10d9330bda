-- What a gap charges: at most 1, nothing from 4 on, and 1 below that but at the forbidden gap. And a filler closes just
-- the gaps that are not forbidden.
use Rattle.std.specs.Prelude.{ℕ, zero, suc, ◌≤◌, ◌<◌, ◌≡◌, refl, ◌≢◌, Bool, true, false, not, cond, ltb}
use Rattle.std.proofs.Common.{arith, lt-ltb, le-ltb, le-leb, ne_eqb}
use Rattle.definition.specs.Rules.{forbidden_gap, is_forbidden}
use Rattle.definition.specs.Gaps.{is_closable}
use Rattle.definition.specs.Cost.{charge}

pub charge-most : (n : ℕ) → charge n ≤ 1
charge-most n = go (is_forbidden n) (ltb n 4)
  where
    go : (forbidden near : Bool) → cond forbidden 0 (cond near 1 0) ≤ 1
    go true near = omega arith
    go false true = omega arith
    go false false = omega arith

pub charge-far : (n : ℕ) → 4 ≤ n → charge n ≡ 0
charge-far n h = rw (ne_eqb n forbidden_gap (λ e. omega arith), le-ltb n 4 h)

pub charge-near : (n : ℕ) → n ≢ forbidden_gap → n < 4 → charge n ≡ 1
charge-near n d h = rw (ne_eqb n forbidden_gap d, lt-ltb n 4 h)

pub closable-same : (n : ℕ) → is_closable n ≡ not (is_forbidden n)
closable-same zero = refl
closable-same (suc zero) = refl
closable-same (suc (suc n)) =
    rw (
      ne_eqb (suc (suc n)) 0 (λ e. omega arith),
      le-leb 2 (suc (suc n)) (omega arith),
      ne_eqb (suc (suc n)) forbidden_gap (λ e. omega arith),
    )
