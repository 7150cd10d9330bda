-- Lanes closed state by state.
use Rattle.std.specs.Prelude.{ℕ, ◌+◌, ◌-◌, ◌≤◌, ◌<◌, ◌≡◌, refl, ◌⊎◌, List}
use Rattle.std.proofs.Math.Path.{ap}
use Rattle.std.proofs.Common.{◌∙◌, inl, inr, ⊎_elim, arith}
use Rattle.std.proofs.Math.Decide.{dec_lt}
use Rattle.std.proofs.Math.ListN.{get_or}
use Rattle.search_store.specs.Map.{case_at, max_lanes}
use Rattle.theory_tables.specs.Steps.{B}
use Rattle.search_lanes.specs.Lanes.{always}
use Rattle.search_lanes.specs.Store.{Low, Written}
use Rattle.search_store.specs.Places.{case-one, case_pointer}
use Rattle.search_join.specs.Tables.{cases_in, pointers_in, OneState, StateWith, AllStates, Closed}
use Rattle.search_join.specs.Parts.{last}

-- a word that is none of those written is as it was
written-away : {f : ℕ → ℕ} {at n : ℕ} {old new : List ℕ} (k : ℕ) → Written f at n old new
    → ((j : ℕ) → j < n → k ≡ at + j → ⊥)
    → get_or new k 0 ≡ get_or old k 0
written-away {at = at} {n} {old} {new} k w away = go (dec_lt k at) (dec_lt k (at + n))
  where
    go : Dec (k < at) → Dec (k < at + n) → get_or new k 0 ≡ get_or old k 0
    go (yes h) d = w.frame.low k h
    go (no h) (yes g) = absurd (away (k - at) (omega arith) (omega arith))
    go (no h) (no g) = w.frame.high k (omega arith)

module _ (I low high : ℕ) where
  -- no state
  pub closed_none : {P : ℕ → ℕ → Type 0} {st : List ℕ} → Low st → ((q₀ q₁ : ℕ) → P q₀ q₁ → ⊥)
      → Closed I low high P st st
  closed_none w away =
      record {
        long = refl;
        fits = w;
        kept = λ J q₀ q₁ a h away. record { case = refl; source = refl };
        none = λ q₀ q₁ l p h g. absurd (away q₀ q₁ p);
      }

  -- one state
  pub closed-one : (p₀ p₁ at : ℕ) {old new : List ℕ} → I ≤ 25 → p₀ < 12 → p₁ < 12 → low ≤ high → high ≤ max_lanes
      → at ≡ case_at I p₀ p₁
      → Written (always B) (at + low) (high - low) old new → Closed I low high (OneState p₀ p₁) old new
  unfolding cases_in pointers_in
  closed-one p₀ p₁ at {new = new} b h g m n e w =
      record {
        long = w.frame.long;
        fits = w.low;
        kept = λ J q₀ q₁ a s away.
            record {
              case = written-away _ w
                  (λ j k d.
                  let i = case-one J q₀ q₁ a I p₀ p₁ (low + j) s (b, h, g, omega arith) (omega arith) in
                  away i.0 (i.1, i.2) (omega (arith, i.3)));
              source = written-away _ w
                  (λ j k d. case_pointer I p₀ p₁ (low + j) J q₀ q₁ a (b, h, g, omega arith) s (omega arith));
            };
        none = λ q₀ q₁ l p i j.
            ap (λ (k : ℕ). get_or new k 0) (omega arith) ∙ w.words (l - low) (omega arith);
      }

  -- the states P, then the states Q: together the states R
  module _ (P Q R : ℕ → ℕ → Type 0) {x y z : List ℕ} (b : I ≤ 25) (m : high ≤ max_lanes)
      (room : (q₀ q₁ : ℕ) → R q₀ q₁ → (q₀ < 12) × (q₁ < 12))
      (either : (q₀ q₁ : ℕ) → R q₀ q₁ → (P q₀ q₁ × (Q q₀ q₁ → ⊥)) ⊎ Q q₀ q₁)
      (first : (q₀ q₁ : ℕ) → P q₀ q₁ → R q₀ q₁)
      (second : (q₀ q₁ : ℕ) → Q q₀ q₁ → R q₀ q₁)
    where
      closed-then : Closed I low high P x y → Closed I low high Q y z → Closed I low high R x z
      closed-then p q =
          record {
            long = q.long ∙ p.long;
            fits = q.fits;
            kept = λ J q₀ q₁ a s away.
                let u = q.kept J q₀ q₁ a s (λ e r. away e (second q₀ q₁ r)) in
                let v = p.kept J q₀ q₁ a s (λ e r. away e (first q₀ q₁ r)) in
                record { case = u.case ∙ v.case; source = u.source ∙ v.source };
            none = λ q₀ q₁ l r h g.
                let i = room q₀ q₁ r in
                ⊎_elim
                (λ d. (q.kept I q₀ q₁ l (b, i.0, i.1, omega arith) (λ e k. absurd (d.1 k))).case
                ∙ p.none q₀ q₁ l d.0 h g)
                (λ d. q.none q₀ q₁ l d h g)
                (either q₀ q₁ r);
          }

  -- one state of row 1 more
  pub closed-more : (p₀ m : ℕ) {x y z : List ℕ} → I ≤ 25 → high ≤ max_lanes → p₀ < 12 → m < 12
      → Closed I low high (StateWith p₀ m) x y → Closed I low high (OneState p₀ m) y z
      → Closed I low high (StateWith p₀ (m + 1)) x z
  closed-more p₀ m b n h g =
      closed-then (StateWith p₀ m) (OneState p₀ m) (StateWith p₀ (m + 1)) b n
      (λ q₀ q₁ r. (omega arith, omega arith))
      (λ q₀ q₁ r. ⊎_elim (λ l. inl ((r.0, l), λ d. omega arith)) (λ e. inr (r.0, e)) (last q₁ m r.1))
      (λ q₀ q₁ d. (d.0, omega arith))
      (λ q₀ q₁ d. (d.0, omega arith))

  -- one state of row 0 more
  pub closed-next : (k m : ℕ) {x y z : List ℕ} → I ≤ 25 → high ≤ max_lanes → k < 12 → m ≤ 12
      → Closed I low high (AllStates k m) x y → Closed I low high (StateWith k m) y z
      → Closed I low high (AllStates (k + 1) m) x z
  closed-next k m b n h g =
      closed-then (AllStates k m) (StateWith k m) (AllStates (k + 1) m) b n
      (λ q₀ q₁ r. (omega arith, omega arith))
      (λ q₀ q₁ r. ⊎_elim (λ l. inl ((l, r.1), λ d. omega arith)) (λ e. inr (e, r.1)) (last q₀ k r.0))
      (λ q₀ q₁ d. (omega arith, d.1))
      (λ q₀ q₁ d. (omega arith, d.1))
