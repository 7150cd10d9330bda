-- The cells that break the first broken rule: the verdict's cell is the first of them, and they rise.
use Rattle.std.specs.Prelude.{ℕ, zero, suc, ◌+◌, ◌≤◌, ◌<◌, ◌≡◌, refl, Bool, true, false, cond, length}
use Rattle.std.proofs.Math.Path.{sym}
use Rattle.std.proofs.Common.{ap, ◌∙◌}
use mathlib.Core.List.{List, [], ◌∷◌, map}
use native.Mathlib.Omega.{arith}
use Rattle.std.proofs.Math.Decide.{ℕ_discrete}
use Rattle.std.proofs.Math.ListN.{get_or}
use Rattle.definition.specs.Lists.{from, keep}
use Rattle.definition.specs.Job.{Job, max_cells}
use Rattle.definition.specs.Placement.{Placement}
use Rattle.definition.specs.Rules.{never, rules, rule_of, verdict}
use Rattle.definition.specs.Reasons.{breakers_of, reason_of, FirstNamed, CellsRise, IsReason}
use Rattle.definition_laws.specs.FirstBroken.{Broken, first-broken, none-broken}

-- ---- numbers that pass a test, each with one more

-- where none passes there are none
kept-none : (l : List ℕ) → map suc (keep never l) ≡ []
kept-none [] = refl
kept-none (k ∷ l) = kept-none l

-- the first is the lowest that passes
kept-first : (f : ℕ → Bool) (a n c : ℕ) → a ≤ c → c < a + n → f c ≡ true → ((k : ℕ) → a ≤ k → k < c → f k ≡ false)
    → get_or (map suc (keep f (from a n))) 0 0 ≡ suc c
kept-first f a zero c h g t e = absurd (omega arith)
kept-first f a (suc n) c h g t e = go (ℕ_discrete c a) (kept-first f (suc a) n c)
  where
    go : Dec (c ≡ a)
        → (suc a ≤ c → c < suc a + n → f c ≡ true → ((k : ℕ) → suc a ≤ k → k < c → f k ≡ false)
        → get_or (map suc (keep f (from (suc a) n))) 0 0 ≡ suc c)
        → get_or (map suc (keep f (from a (suc n)))) 0 0 ≡ suc c
    go (yes q) r = let p : f a ≡ true = ap f (sym q) ∙ t in rw p (ap suc (sym q))
    go (no d) r =
        rw (e a (omega arith) (omega arith)) (r (omega arith) (omega arith) t (λ k i j. e k (omega arith) j))

kept_rise : (f : ℕ → Bool) (b a n : ℕ) → b ≤ suc a → a + n ≤ max_cells → CellsRise b (map suc (keep f (from a n)))
kept_rise f b a zero h g = tt
kept_rise f b a (suc n) h g =
    go (f a) (kept_rise f (suc (suc a)) (suc a) n (omega arith) (omega arith))
    (kept_rise f b (suc a) n (omega arith) (omega arith))
  where
    go : (t : Bool) → CellsRise (suc (suc a)) (map suc (keep f (from (suc a) n)))
        → CellsRise b (map suc (keep f (from (suc a) n)))
        → CellsRise b (map suc (cond t (a ∷ keep f (from (suc a) n)) (keep f (from (suc a) n))))
    go true r s = (h, omega arith, r)
    go false r s = s

-- ---- the cells of a verdict

module _ (j : Job) (P : Placement) where
  no_breakers : (verdict j P).rule ≡ 0 → breakers_of j P (verdict j P).rule ≡ []
  no_breakers z = ap (breakers_of j P) z ∙ kept-none (from 0 (length j.cells))

  no_cell : (verdict j P).rule ≡ 0 → (verdict j P).cell ≡ 0
  unfolding verdict
  no_cell z = none-broken (rules j P) 0 (length j.cells) z

  named : ¬ ((verdict j P).rule ≡ 0) → Broken (rules j P) 0 (length j.cells) (verdict j P)
  unfolding verdict
  named d = first-broken (rules j P) 0 (length j.cells) d

  breakers_first : (b : Broken (rules j P) 0 (length j.cells) (verdict j P))
      → get_or (breakers_of j P (verdict j P).rule) 0 0 ≡ suc b.cell
  breakers_first b =
      let rule : (verdict j P).rule ≡ suc b.index = omega (arith, b.rule-is) in
      ap (λ (r : ℕ). get_or (breakers_of j P r) 0 0) rule
      ∙ kept-first (rule_of j P (suc b.index)) 0 (length j.cells) b.cell (omega arith) (omega (arith, b.there))
      b.breaks (λ k h g. b.lower k g)

  pub first-named : FirstNamed j P
  unfolding reason_of
  first-named = go (ℕ_discrete (verdict j P).rule 0)
    where
      go : Dec ((verdict j P).rule ≡ 0) → (verdict j P).cell ≡ get_or (breakers_of j P (verdict j P).rule) 0 0
      go (yes z) = no_cell z ∙ sym (ap (λ (l : List ℕ). get_or l 0 0) (no_breakers z))
      go (no d) = let b = named d in b.cell-is ∙ sym (breakers_first b)

  -- every verdict on a job of few cells gives a reason
  pub is_reason : length j.cells ≤ max_cells → IsReason (reason_of j P)
  unfolding reason_of
  is_reason few = record {
    known = known (ℕ_discrete (verdict j P).rule 0);
    none = no_breakers;
    some = λ d. some (breakers_of j P (verdict j P).rule) (breakers_first (named d));
    rising = kept_rise (rule_of j P (verdict j P).rule) 1 0 (length j.cells) (omega arith) (omega arith);
  }
    where
      known : Dec ((verdict j P).rule ≡ 0) → (verdict j P).rule ≤ 8
      known (yes z) = omega arith
      known (no d) = let b = named d in omega (arith, b.rule-is, b.within)

      some : (l : List ℕ) {c : ℕ} → get_or l 0 0 ≡ suc c → 0 < length l
      some [] e = absurd (omega arith)
      some (x ∷ l) e = omega arith
