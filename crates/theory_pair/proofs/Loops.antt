-- Theorems on the definitions of specs/Loops.
-- The tables' entries as the loops that compute them, on coded costs: B for none, sums stop at B.
use Rattle.std.specs.Prelude.{◌≡◌, List, [], ◌∷◌, Bool, true, false}
use Rattle.std.proofs.Math.Path.{refl, ap}
use Rattle.std.proofs.Common.{ap₂, ◌∙◌, arith}
use Rattle.std.proofs.Math.Option.{Option, none, some}
use Rattle.std.proofs.Math.Bool.{cond}
use Prim.Native.Nat.{ℕ, zero, suc, ◌+◌, ◌-◌, ◌*◌, min, ◌≤◌}
use Rattle.lists.specs.Numbers.{from}
use Rattle.theory_pair.specs.Forward.{add, layer, layer-source}
use Rattle.theory_pair.specs.Pick.{good_marks}
use Rattle.theory_pair.specs.Coded.{coded, lowest, coded-layer, coded-add, lowest-each}
use Rattle.theory_pair.specs.Segment.{Line, State, singles, if_single, Move, move, least}
use Rattle.theory_pair.proofs.Segment.{move-met}
use Rattle.theory_pair.specs.Pair.{Case, cases, spots, table, stage_least, opening}
use Rattle.theory_pair.specs.Loops as defs

lowest-one : {S : Type 0} (B : ℕ) (h : S → ℕ) (u : S) → h u ≤ B → lowest B h (u ∷ []) ≡ h u
unfolding lowest
lowest-one B h u l = omega arith

lowest-same : {S : Type 0} (B : ℕ) (h g : S → ℕ) (l : List S) → ((u : S) → h u ≡ g u) → lowest B h l ≡ lowest B g l
unfolding lowest
lowest-same B h g [] e = refl
lowest-same B h g (u ∷ l) e = ap₂ min (e u) (lowest-same B h g l e)

lowest-single : {S : Type 0} (B : ℕ) (h : S → ℕ) (t : Bool) (l : List S)
    → lowest B h (if_single t l) ≡ cond t B (lowest B h l)
unfolding lowest if_single
lowest-single B h true l = refl
lowest-single B h false l = refl

none-coded : {B : ℕ} (o : Option ℕ) → ((x : ℕ) → ¬ (o ≡ some x)) → coded B o ≡ B
unfolding coded
none-coded none h = refl
none-coded (some x) h = absurd (h x refl)

-- ---- a segment: an entry of the layers that start at s

module _ {A : Type 0} (B R : ℕ) (site_of : A → ℕ) (L : Line A) (s : State A) where
  abbrev entry : ℕ → State A → ℕ
  entry = defs.entry B R site_of L s

  pub least-entry : (t : State A) → coded B (least R site_of L s t) ≡ entry (t.0 - suc s.0) t
  unfolding least defs.entry
  least-entry t = refl

  pub entry_first : (t : State A) → entry 0 t ≡ coded B (move R site_of L s t)
  unfolding defs.entry layer
  entry_first t = refl

  -- over the last cells, their poses and the marks of the layer before
  pub entry_next : (j : ℕ) (t : State A) → entry (suc j) t
      ≡ lowest B (λ k. cond (L.tall k) B (lowest B (λ a. lowest B (λ m.
      min (entry j (s.0 + suc j, m, some (k, a)) + coded B (move R site_of L (s.0 + suc j, m, some (k, a)) t)) B)
      (good_marks R)) (L.options k))) (from (s.0 + suc j - suc R) (suc (2 * R)))
  unfolding defs.entry singles
  entry_next j t =
      coded-layer B (λ i. singles R site_of L (s.0 + suc i)) (λ i u v. move R site_of L u v) s j t
      ∙ lowest-each B h (from (s.0 + suc j - suc R) (suc (2 * R))) _
      ∙ lowest-same B _ _ (from (s.0 + suc j - suc R) (suc (2 * R))) (λ k.
      lowest-single B h (L.tall k) _
      ∙ ap (λ x. cond (L.tall k) B x)
      (lowest-each B h (L.options k) _
      ∙ lowest-same B _ _ (L.options k) (λ a.
      lowest-each B h (good_marks R) _ ∙ lowest-same B _ _ (good_marks R) (λ m. at (s.0 + suc j, m, some (k, a))))))
    where
      h : State A → ℕ
      h u = coded B (add (layer (λ i. singles R site_of L (s.0 + suc i)) (λ i u v. move R site_of L u v) s j u)
          (move R site_of L u t))

      at : (u : State A) → lowest B h (u ∷ [])
          ≡ min (coded B (layer (λ i. singles R site_of L (s.0 + suc i)) (λ i u v. move R site_of L u v) s j u)
          + coded B (move R site_of L u t)) B
      at u = let e = coded-add B (layer (λ i. singles R site_of L (s.0 + suc i)) (λ i u v. move R site_of L u v) s j u)
          (move R site_of L u t) in
          lowest-one B h u (omega arith) ∙ e

  -- a state that no move leads to has no cost: a loop may pass over it
  pub entry-none : (j : ℕ) (t : State A) → ((u : State A) (x : ℕ) → ¬ Move R site_of L u t x) → entry j t ≡ B
  unfolding defs.entry layer
  entry-none zero t n = none-coded (move R site_of L s t) (λ x e. n s x (move-met R site_of L s t x e))
  entry-none (suc j) t n =
      none-coded (layer (λ i. singles R site_of L (s.0 + suc i)) (λ i u v. move R site_of L u v) s (suc j) t)
      (λ x e. let r = layer-source (λ i. singles R site_of L (s.0 + suc i)) (λ i u v y. Move R site_of L u v y)
      (λ i u v. move R site_of L u v) s j t x e in
      n r.0 r.3 (move-met R site_of L r.0 t r.3 r.5))

  pub entry-outside : (j i m k : ℕ) (a : A) → L.size ≤ k → entry j (i, m, some (k, a)) ≡ B
  entry-outside j i m k a h = entry-none j (i, m, some (k, a)) (λ u x v. let z = v.0.0.0.inside in omega arith)

-- ---- a stage: an entry of the case table of tall cell I + 1, or of the end

module _ {A : Type 0} (B R : ℕ) (site_of : A → ℕ) (L₀ L₁ : Line A) (pos₀ pos₁ : ℕ → ℕ) where
  abbrev case_entry : ℕ → Case A → ℕ
  case_entry = defs.case_entry B R site_of L₀ L₁ pos₀ pos₁

  abbrev costs : Case A → Case A → ℕ
  costs = defs.costs B R site_of L₀ L₁ pos₀ pos₁

  pub case-first : (c : Case A) → case_entry 0 c ≡ costs (opening R site_of L₀ L₁ pos₀ pos₁) c
  unfolding defs.case_entry table layer stage_least
  case-first c = coded-add B (least R site_of L₀ (opening R site_of L₀ L₁ pos₀ pos₁).0 c.0)
      (least R site_of L₁ (opening R site_of L₀ L₁ pos₀ pos₁).1 c.1)

  -- over the poses of tall cell I, and its place and marks in each row
  pub case-next : (I : ℕ) (c : Case A) → case_entry (suc I) c
      ≡ lowest B (λ a. lowest B (λ s. lowest B (λ t.
      min (case_entry I ((s.0, s.1, some (pos₀ I, a)), (t.0, t.1, some (pos₁ I, a)))
      + costs ((s.0, s.1, some (pos₀ I, a)), (t.0, t.1, some (pos₁ I, a))) c) B)
      (spots R (pos₁ I))) (spots R (pos₀ I))) (L₀.options (pos₀ I))
  unfolding defs.case_entry table cases stage_least
  case-next I c =
      coded-layer B (cases R site_of L₀ L₁ pos₀ pos₁) (stage_least R site_of L₀ L₁ pos₀ pos₁)
      (opening R site_of L₀ L₁ pos₀ pos₁) I c
      ∙ lowest-each B h (L₀.options (pos₀ I)) _
      ∙ lowest-same B _ _ (L₀.options (pos₀ I)) (λ a.
      lowest-each B h (spots R (pos₀ I)) _
      ∙ lowest-same B _ _ (spots R (pos₀ I)) (λ s.
      lowest-each B h (spots R (pos₁ I)) _
      ∙ lowest-same B _ _ (spots R (pos₁ I))
      (λ t. at ((s.0, s.1, some (pos₀ I, a)), (t.0, t.1, some (pos₁ I, a))))))
    where
      before : Case A → Option ℕ
      before u = layer (cases R site_of L₀ L₁ pos₀ pos₁) (stage_least R site_of L₀ L₁ pos₀ pos₁)
          (opening R site_of L₀ L₁ pos₀ pos₁) I u

      cost_if : Case A → Option ℕ
      cost_if u = add (least R site_of L₀ u.0 c.0) (least R site_of L₁ u.1 c.1)

      h : Case A → ℕ
      h u = coded B (add (before u) (cost_if u))

      at : (u : Case A) → lowest B h (u ∷ []) ≡ min (coded B (before u) + costs u c) B
      at u =
          let e = coded-add B (before u) (cost_if u) in
          let f = coded-add B (least R site_of L₀ u.0 c.0) (least R site_of L₁ u.1 c.1) in
          lowest-one B h u (omega arith) ∙ e ∙ ap (λ x. min (coded B (before u) + x) B) f
