-- Which gaps pay, as the one law of the charge that the tables are built on: at some gaps neighbours pay for their
-- steps, from gap 4 on they pay nothing, at the others they may not stand.
use Rattle.std.specs.Prelude.{ℕ, zero, suc, ◌+◌, ◌*◌, ◌-◌, ◌≤◌, ◌<◌, ◌≡◌, refl, ◌≢◌, Bool, true, false, cond, ltb}
use Rattle.std.proofs.Common.{ap, subst, arith}
use mathlib.Core.List.Memᴰ.{head as here}
use mathlib.Core.List.Memᴰ.{tail as there}
use mathlib.Core.List.{List, [], ◌∷◌, Memᴰ as In}
use Rattle.lists.specs.Compare.{Le?, low, high, le?, Eq?, same, differs, eq?}
use Rattle.definition.specs.Rules.{forbidden_gap, is_forbidden}
use Rattle.definition.specs.Cost.{charge}
use Rattle.definition_laws.specs.Gaps.{charge-far}
use Rattle.theory_tables.specs.Steps.{B}
use Rattle.search_row.specs.Words.{toll_at}

-- the gaps at which neighbours pay for their steps
abbrev pub paying : List ℕ
paying = 0 ∷ 2 ∷ 3 ∷ []

-- what neighbours pay, the right one's left site x, the left one's end y; `pay` tells it by their gap
pub data Toll (x y : ℕ) (pay : ℕ → ℕ) : ℕ → Type 0 where
  pays : (gap : ℕ) → In gap paying → x ≡ y + gap → Toll x y pay (pay gap)
  free : y + 4 ≤ x → Toll x y pay 0
  barred : x < y + 4 → ((gap : ℕ) → In gap paying → x ≢ y + gap) → Toll x y pay B

-- a gap at which neighbours pay is below 4
pub paying-low : (gap : ℕ) → In gap paying → gap < 4
paying-low gap (there (there (there x12))) = elim x12 [ ]
paying-low gap (here e) = omega arith
paying-low gap (there (here e)) = omega arith
paying-low gap (there (there (here e))) = omega arith

pub toll? : (x y : ℕ) (pay : ℕ → ℕ) → Toll x y pay (toll_at x y pay)
toll? x y pay = left (ltb x y) (le? (suc x) y)
  where
    -- at a gap
    at : (gap : ℕ) → gap ≢ forbidden_gap → x ≡ y + gap → Toll x y pay (charge gap * pay gap)
    at zero n e = subst (Toll x y pay) (omega arith) (pays 0 (here refl) e)
    at (suc zero) n e = absurd (n refl)
    at (suc (suc zero)) n e = subst (Toll x y pay) (omega arith) (pays 2 (there (here refl)) e)
    at (suc (suc (suc zero))) n e = subst (Toll x y pay) (omega arith) (pays 3 (there (there (here refl))) e)
    at (suc (suc (suc (suc g)))) n e =
        let n = suc (suc (suc (suc g))) in
        let far : charge n * pay n ≡ 0 * pay n = ap (λ (c : ℕ). c * pay n) (charge-far n (omega arith)) in
        subst (Toll x y pay) (omega arith) (free (omega arith))

    one : (t : Bool) → Eq? (x - y) forbidden_gap t → y ≤ x → Toll x y pay (cond t B (charge (x - y) * pay (x - y)))
    one true (same e) h = barred (omega arith) λ gap i f. no1 gap i (omega arith)
      where
        no1 : (gap : ℕ) → In gap paying → gap ≢ forbidden_gap
        no1 gap (there (there (there x16))) = elim x16 [ ]
        no1 gap (here e) = λ f. omega arith
        no1 gap (there (here e)) = λ f. omega arith
        no1 gap (there (there (here e))) = λ f. omega arith
    one false (differs n) h = at (x - y) n (omega arith)

    left : (t : Bool) → Le? (suc x) y t
        → Toll x y pay (cond t B (cond (is_forbidden (x - y)) B (charge (x - y) * pay (x - y))))
    left true (low h) = barred (omega arith) λ gap i e. omega arith
    left false (high h) = one (is_forbidden (x - y)) (eq? (x - y) forbidden_gap) (omega arith)
