-- What the verdict names: the first broken of some rules, and the lowest cell that breaks it.
use Rattle.std.specs.Prelude.{ℕ, zero, suc, ◌+◌, ◌≤◌, ◌<◌, ◌≡◌, refl, Bool, true, false, cond, List, [], ◌∷◌, length, get_or}
use Rattle.std.proofs.Common.{sym, ap, ◌∙◌, arith}
use Rattle.std.proofs.Math.Decide.{ℕ_discrete}
use Rattle.definition.specs.Lists.{from}
use Rattle.definition.specs.Rules.{never, lowest, first_broken, Verdict}
use Rattle.definition_laws.specs.Agree.{lowest-none}

-- a cell that breaks a rule, and none below it does; cells count from 0 here
pub record Lowest (f : ℕ → Bool) (a n c : ℕ) : Type 0 where
  pub from-a : a ≤ c
  pub below : c < a + n
  pub breaks : f c ≡ true
  pub none : (k : ℕ) → a ≤ k → k < c → f k ≡ false

lowest-some : (f : ℕ → Bool) (a n c : ℕ) → lowest f (from a n) ≡ suc c → Lowest f a n c
unfolding lowest
lowest-some f a zero c e = absurd (omega arith)
lowest-some f a (suc n) c e = go (f a) refl e (lowest-some f (suc a) n c)
  where
    later : f a ≡ false → Lowest f (suc a) n c → Lowest f a (suc n) c
    later q l = let u = l.from-a in let v = l.below in record {
      from-a = omega arith;
      below = omega arith;
      breaks = l.breaks;
      none = λ k h g. at k h g (ℕ_discrete k a);
    }
      where
        at : (k : ℕ) → a ≤ k → k < c → Dec (k ≡ a) → f k ≡ false
        at k h g (yes p) = ap f p ∙ q
        at k h g (no d) = l.none k (omega arith) g

    go : (t : Bool) → f a ≡ t → cond t (suc a) (lowest f (from (suc a) n)) ≡ suc c
        → (lowest f (from (suc a) n) ≡ suc c → Lowest f (suc a) n c) → Lowest f a (suc n) c
    go true q e g = let p : a ≡ c = omega arith in record {
      from-a = omega arith;
      below = omega arith;
      breaks = ap f (sym p) ∙ q;
      none = λ k h g. absurd (omega arith);
    }
    go false q e g = later q (g e)

-- a rule that is not there is broken by no cell
abbrev pub rule_in : List (ℕ → Bool) → ℕ → ℕ → Bool
rule_in fs i k = get_or fs i never k

-- the verdict on rules of which the first is numbered suc r, where it names one
pub record Broken (fs : List (ℕ → Bool)) (r n : ℕ) (v : Verdict) : Type 0 where
  pub index : ℕ
  pub cell : ℕ
  pub rule-is : v.rule ≡ suc (r + index)
  pub cell-is : v.cell ≡ suc cell
  pub within : index < length fs
  pub there : cell < n
  pub breaks : rule_in fs index cell ≡ true
  pub earlier : (i k : ℕ) → i < index → k < n → rule_in fs i k ≡ false
  pub lower : (k : ℕ) → k < cell → rule_in fs index k ≡ false

pub first-broken : (fs : List (ℕ → Bool)) (r n : ℕ) → ¬ ((first_broken (suc r) fs (from 0 n)).rule ≡ 0)
    → Broken fs r n (first_broken (suc r) fs (from 0 n))
unfolding first_broken
first-broken [] r n z = absurd (z refl)
first-broken (f ∷ fs) r n z =
    go (lowest f (from 0 n)) (lowest-none f 0 n).0 (lowest-some f 0 n) (first-broken fs (suc r) n) z
  where
    next : Verdict
    next = first_broken (suc (suc r)) fs (from 0 n)

    after : ((k : ℕ) → 0 ≤ k → k < 0 + n → f k ≡ false) → Broken fs (suc r) n next → Broken (f ∷ fs) r n next
    after h b = let e = b.rule-is in let w = b.within in record {
      index = suc b.index;
      cell = b.cell;
      rule-is = omega arith;
      cell-is = b.cell-is;
      within = omega arith;
      there = b.there;
      breaks = b.breaks;
      earlier = sooner;
      lower = b.lower;
    }
      where
        sooner : (i k : ℕ) → i < suc b.index → k < n → rule_in (f ∷ fs) i k ≡ false
        sooner zero k g l = h k (omega arith) (omega arith)
        sooner (suc i) k g l = b.earlier i k (omega arith) l

    go : (m : ℕ) → (m ≡ 0 → (k : ℕ) → 0 ≤ k → k < 0 + n → f k ≡ false) → ((c : ℕ) → m ≡ suc c → Lowest f 0 n c)
        → (¬ (next.rule ≡ 0) → Broken fs (suc r) n next)
        → (let v : Verdict = elim m [ zero ↦ next | suc k ↦ record { rule = suc r; cell = suc k } ] in
        ¬ (v.rule ≡ 0) → Broken (f ∷ fs) r n v)
    go zero h g b z = after (h refl) (b z)
    go (suc c) h g b z = let l = g c refl in let u = l.below in record {
      index = 0;
      cell = c;
      rule-is = omega arith;
      cell-is = refl;
      within = omega arith;
      there = omega arith;
      breaks = l.breaks;
      earlier = λ i k q. absurd (omega arith);
      lower = λ k q. l.none k (omega arith) q;
    }

-- "rule and cell, both 0 when legal"
pub none-broken : (fs : List (ℕ → Bool)) (r n : ℕ) → (first_broken (suc r) fs (from 0 n)).rule ≡ 0
    → (first_broken (suc r) fs (from 0 n)).cell ≡ 0
unfolding first_broken
none-broken [] r n e = refl
none-broken (f ∷ fs) r n e = go (lowest f (from 0 n)) (none-broken fs (suc r) n) e
  where
    next : Verdict
    next = first_broken (suc (suc r)) fs (from 0 n)

    go : (m : ℕ) → (next.rule ≡ 0 → next.cell ≡ 0)
        → (let v : Verdict = elim m [ zero ↦ next | suc k ↦ record { rule = suc r; cell = suc k } ] in
        v.rule ≡ 0 → v.cell ≡ 0)
    go zero h e = h e
    go (suc k) h e = absurd (omega arith)
