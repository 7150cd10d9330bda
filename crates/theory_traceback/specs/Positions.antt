-- The case tables ask for the positions of the tall cells alone: positions that agree on those make the same tables.
use Rattle.std.specs.Prelude.{◌≡◌, Bool, ltb}
use Rattle.std.proofs.Math.Path.{refl, ap, ap₂, fun_ext}
use Rattle.std.proofs.Common.{◌∙◌, arith, ltb-true}
use Rattle.std.proofs.Math.Bool.{true, false, cond}
use Prim.Native.Nat.{ℕ, zero, suc, ◌+◌, min, ◌≤◌, ◌<◌}
use Rattle.theory_tables.specs.Steps.{B, Deck, Layer, Cases, SegmentCosts, marks}
use Rattle.theory_tables.specs.Steps.{state_count, next_cases, cost_to, first_after, first_open}
use Rattle.theory_tables.specs.Stages.{placed_with, stage_end, open_cost, stage_cost, case_table}

module _ (talls : ℕ) where
  -- the same positions of the tall cells
  abbrev pub Agree : (ℕ → ℕ) → (ℕ → ℕ) → Type 0
  Agree f g = (I : ℕ) → I < talls → f I ≡ g I

  module _ (D : Deck) (R : ℕ) (f g : ℕ → ℕ) (h : Agree f g) where
    end_same : (I : ℕ) (x : Layer) (i e q a : ℕ) → stage_end D R talls f I x i e q a ≡ stage_end D R talls g I x i e q a
    unfolding stage_end
    end_same I x i e q a = go (ltb I talls) (ltb-true I talls) _
      where
        go : (t : Bool) → (t ≡ true → I < talls) → (y : ℕ)
            → cond t (cost_to D R x i (f I) q a) y ≡ cond t (cost_to D R x i (g I) q a) y
        go true l y = ap (λ p. cost_to D R x i p q a) (h I (l refl))
        go false l y = refl

    open_same : (q a : ℕ) → open_cost D R talls f q a ≡ open_cost D R talls g q a
    unfolding open_cost
    open_same q a = end_same 0 (first_open D R) 1 0 q a

    stage-same : (I : ℕ) → I < talls → stage_cost D R talls f I ≡ stage_cost D R talls g I
    unfolding stage_cost
    stage-same I l = fun_ext (λ s. fun_ext (λ t. fun_ext (λ q. fun_ext (λ a. at s t q a))))
      where
        from : ℕ → ℕ → ℕ → ℕ → ℕ → ℕ
        from p s t q a = stage_end D R talls g (suc I) (first_after D R (placed_with R p s) (marks R s) p t)
            (suc (placed_with R p s)) (D.back p t) q a

        at : (s t q a : ℕ) → stage_cost D R talls f I s t q a ≡ stage_cost D R talls g I s t q a
        at s t q a = end_same (suc I) _ _ _ q a ∙ ap (λ p. from p s t q a) (h I l)

  module _ (D₀ D₁ : Deck) (R : ℕ) (f₀ g₀ f₁ g₁ : ℕ → ℕ) (h₀ : Agree f₀ g₀) (h₁ : Agree f₁ g₁) where
    pub table_same : (I : ℕ) → I ≤ talls → case_table D₀ D₁ R talls f₀ f₁ I ≡ case_table D₀ D₁ R talls g₀ g₁ I
    unfolding case_table
    table_same zero l = fun_ext (λ q₀. fun_ext (λ q₁. fun_ext (λ a.
        ap₂ (λ x y. min (x + y) B) (open_same D₀ R f₀ g₀ h₀ q₀ a) (open_same D₁ R f₁ g₁ h₁ q₁ a))))
    table_same (suc I) l = fun_ext (λ q₀. fun_ext (λ q₁. fun_ext (λ a. at q₀ q₁ a (table_same I (omega arith)))))
      where
        by : Cases → SegmentCosts → SegmentCosts → ℕ → ℕ → ℕ → ℕ
        by f x₀ x₁ q₀ q₁ a = next_cases (state_count R) D₀.poses f x₀ x₁ q₀ q₁ a

        at : (q₀ q₁ a : ℕ) → case_table D₀ D₁ R talls f₀ f₁ I ≡ case_table D₀ D₁ R talls g₀ g₁ I
            → case_table D₀ D₁ R talls f₀ f₁ (suc I) q₀ q₁ a ≡ case_table D₀ D₁ R talls g₀ g₁ (suc I) q₀ q₁ a
        at q₀ q₁ a e =
            ap (λ f. by f (stage_cost D₀ R talls f₀ I) (stage_cost D₁ R talls f₁ I) q₀ q₁ a) e
            ∙ ap₂ (λ x₀ x₁. by (case_table D₀ D₁ R talls g₀ g₁ I) x₀ x₁ q₀ q₁ a)
            (stage-same D₀ R f₀ g₀ h₀ I (omega arith)) (stage-same D₁ R f₁ g₁ h₁ I (omega arith))
