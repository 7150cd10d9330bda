-- Theorems on the definitions of specs/Pair.
-- Two rows that share their tall cells. A case of a tall cell is the state of each row just after it. Stages
-- go from case to case, over the single cells of either row; a legal pair of rows is cut into stages, and
-- stages join to a legal pair, at the same cost.
use Rattle.std.specs.Prelude.{◌≡◌, refl}
use Rattle.std.proofs.Math.Path.{sym, ap, subst}
use Rattle.std.proofs.Common.{ap₂, ◌∙◌}
use mathlib.Core.List.Memᴰ.{head as here}
use mathlib.Core.List.{List, [], ◌∷◌, ◌++◌, Memᴰ as In}
use mathlib.Core.List.Memᴰ
use Rattle.std.proofs.Math.Option.{Option, some}
use Prim.Native.Nat.{ℕ, zero, suc, ◌+◌, ◌-◌, ◌*◌, ◌≤◌, ◌<◌}
use native.Mathlib.Omega.{arith}
use Rattle.std.proofs.Math.ListN.{length, length-append}
use Rattle.lists.specs.Numbers.{from, from_in}
use Rattle.theory_row.specs.Cheapest.{◌⊑◌}
use Rattle.theory_row.specs.Window.{Good}
use Rattle.theory_pair.specs.Forward.{in_each, each_in, add-below}
use Rattle.theory_pair.specs.Forward.{add-met, layer_below, layer-met}
use Rattle.theory_pair.specs.Pick.{good_marks}
use Rattle.theory_pair.proofs.Pick.{in_good_marks}
use Rattle.theory_pair.specs.Segment.{Line, Choice, State, Goes, Done, next, first, cost}
use Rattle.theory_pair.specs.Segment.{charge, after, Way, least}
use Rattle.theory_pair.proofs.Segment.{least-below, least-met}
use Rattle.theory_pair.proofs.Segment.{list-way, next-move, goes_append}
use Rattle.theory_pair.proofs.Segment.{after_append, cost_append}
use Rattle.theory_pair.specs.Whole.{tall_of, picks}
use Rattle.theory_pair.specs.Cut.{Upto}
use Rattle.theory_pair.proofs.Cut.{none-plain, picks_snoc, row_cut, row-end, upto-first, upto-more}
use Rattle.theory_pair.specs.Pair.{spots, Talls, Case}
use Rattle.theory_pair.specs.Pair as defs

module _ {A : Type 0} (R : ℕ) (site_of : A → ℕ) (L₀ L₁ : Line A) (pos₀ pos₁ : ℕ → ℕ) where
  abbrev cases : ℕ → List (Case A)
  cases = defs.cases R site_of L₀ L₁ pos₀ pos₁

  abbrev opening : Case A
  opening = defs.opening R site_of L₀ L₁ pos₀ pos₁

  abbrev ending : Case A
  ending = defs.ending R site_of L₀ L₁ pos₀ pos₁

  abbrev Stage : ℕ → Case A → Case A → ℕ → Type 0
  Stage = defs.Stage R site_of L₀ L₁ pos₀ pos₁

  abbrev Stages : ℕ → Case A → ℕ → Type 0
  Stages = defs.Stages R site_of L₀ L₁ pos₀ pos₁

  abbrev stage_least : ℕ → Case A → Case A → Option ℕ
  stage_least = defs.stage_least R site_of L₀ L₁ pos₀ pos₁

  abbrev table : ℕ → Case A → Option ℕ
  table = defs.table R site_of L₀ L₁ pos₀ pos₁

  abbrev CaseJoined : (c : Case A) (I x : ℕ) → Type 0
  CaseJoined = defs.CaseJoined R site_of L₀ L₁ pos₀ pos₁

  pub table_below : (I : ℕ) (c : Case A) (x : ℕ) → Stages I c x → table I c ⊑ x
  unfolding defs.table defs.stage_least
  table_below I c x h = layer_below cases Stage stage_least below opening I c x h
    where
      below : (j : ℕ) (u t : Case A) (y : ℕ) → Stage j u t y → stage_least j u t ⊑ y
      below j u t y s =
          subst (λ v. stage_least j u t ⊑ v) s.4
          (add-below (least R site_of L₀ u.0 t.0) (least R site_of L₁ u.1 t.1) s.0 s.1
          (least-below R site_of L₀ u.0 t.0 s.0 s.2) (least-below R site_of L₁ u.1 t.1 s.1 s.3))

  pub table-met : (I : ℕ) (c : Case A) (x : ℕ) → table I c ≡ some x → Stages I c x
  unfolding defs.table defs.stage_least
  table-met I c x e = layer-met cases Stage stage_least met opening I c x e
    where
      met : (j : ℕ) (u t : Case A) (y : ℕ) → stage_least j u t ≡ some y → Stage j u t y
      met j u t y z =
          let r = add-met (least R site_of L₀ u.0 t.0) (least R site_of L₁ u.1 t.1) y z in (
            r.0,
            r.1,
            least-met R site_of L₀ u.0 t.0 r.0 r.2,
            least-met R site_of L₁ u.1 t.1 r.1 r.3,
            r.4,
          )

  -- ---- stages join to two paths

  module _ (N : ℕ) (T₀ : Talls L₀ N pos₀) (T₁ : Talls L₁ N pos₁)
      (same : (I : ℕ) → I < N → L₀.options (pos₀ I) ≡ L₁.options (pos₁ I)) where
    abbrev StartOf : (L : Line A) (c : Choice A) (ts : List (Choice A)) (t : State A) (x : ℕ) → Type 0
    StartOf = defs.StartOf R site_of L₀ L₁ pos₀ pos₁ N T₀ T₁ same

    joined-more : (c t : Case A) (I x y : ℕ) → I < N → In c (cases I) → CaseJoined c I x → Stage (suc I) c t y
        → CaseJoined t (suc I) (x + y)
    unfolding defs.cases spots picks
    joined-more c t I x y h m j s =
        let r₁ = each_in (L₀.options (pos₀ I)) _ m in
        let a = r₁.0 in
        let r₂ = each_in (spots R (pos₀ I)) _ r₁.2 in
        let r₃ = each_in (spots R (pos₁ I)) _ r₂.2 in
        let d₀ : State A = (r₂.0.0, r₂.0.1, some (pos₀ I, a)) in
        let d₁ : State A = (r₃.0.0, r₃.0.1, some (pos₁ I, a)) in
        let e : c ≡ (d₀, d₁) = Memᴰ.eq_of_singleton r₃.2 in
        let z : I ≡ 0 + length j.ps = omega (arith, j.size) in
        let u₀ : Upto R site_of L₀ d₀ (picks pos₀ 0 j.ps) j.x₀ =
        subst (λ w. Upto R site_of L₀ w.0 (picks pos₀ 0 j.ps) j.x₀) e j.row₀ in
        let u₁ : Upto R site_of L₁ d₁ (picks pos₁ 0 j.ps) j.x₁ =
        subst (λ w. Upto R site_of L₁ w.1 (picks pos₁ 0 j.ps) j.x₁) e j.row₁ in
        let w₀ : Way R site_of L₀ d₀ t.0 s.0 = subst (λ w. Way R site_of L₀ w.0 t.0 s.0) e s.2 in
        let w₁ : Way R site_of L₁ d₁ t.1 s.1 = subst (λ w. Way R site_of L₁ w.1 t.1 s.1) e s.3 in
        let v₀ = upto-more R site_of L₀ r₂.0.0 r₂.0.1 (pos₀ I) a (picks pos₀ 0 j.ps) j.x₀ s.0 t.0 u₀
        r₁.1 (T₀.tall I h) w₀ in
        let v₁ = upto-more R site_of L₁ r₃.0.0 r₃.0.1 (pos₁ I) a (picks pos₁ 0 j.ps) j.x₁ s.1 t.1 u₁
        (subst (λ l. In a l) (same I h) r₁.1) (T₁.tall I h) w₁ in
        let e₀ = j.size in
        let e₁ = j.sum in
        let e₂ = s.4 in
        let e₃ = length-append j.ps (a ∷ []) in
        record {
          ps = j.ps ++ (a ∷ []);
          size = omega arith;
          x₀ = j.x₀ + s.0;
          x₁ = j.x₁ + s.1;
          row₀ = subst (λ l. Upto R site_of L₀ t.0 l (j.x₀ + s.0)) (sym (picks_snoc pos₀ 0 I j.ps a z)) v₀;
          row₁ = subst (λ l. Upto R site_of L₁ t.1 l (j.x₁ + s.1)) (sym (picks_snoc pos₁ 0 I j.ps a z)) v₁;
          sum = omega arith;
        }

    pub stages_joined : (I : ℕ) (c : Case A) (x : ℕ) → I ≤ N → Stages I c x → CaseJoined c I x
    unfolding picks
    stages_joined zero c x h s = record {
      ps = [];
      size = refl;
      x₀ = s.0;
      x₁ = s.1;
      row₀ = upto-first R site_of L₀ c.0 s.0 s.2;
      row₁ = upto-first R site_of L₁ c.1 s.1 s.3;
      sum = s.4;
    }
    stages_joined (suc I) c x h s =
        subst (λ y. CaseJoined c (suc I) y) s.6 (joined-more s.0 c I s.2 s.3 (omega arith) s.1
        (stages_joined I s.0 s.2 (omega arith) s.4) s.5)

    -- ---- two paths are cut into stages

    in_spots : (k i m : ℕ) → suc k - R ≤ i → i < suc k - R + suc (2 * R) → Good R m → In (i, m) (spots R k)
    unfolding spots
    in_spots k i m l h g =
        in_each (from (suc k - R) (suc (2 * R))) _ (from_in i (suc k - R) (suc (2 * R)) l h)
        (in_each (good_marks R) _ ((in_good_marks R m).1 g) (here refl))

    pub stages_go : (ps : List A) (I : ℕ) (c : Case A) (x z : ℕ) → I + length ps ≡ N
        → ((t : Case A) (y : ℕ) → Stage I c t y → Stages I t (x + y))
        → Good R c.0.1 → Good R c.1.1 → (p₀ p₁ : List (Choice A)) → Goes R site_of L₀ c.0 p₀
        → Goes R site_of L₁ c.1 p₁
        → tall_of L₀ p₀ ≡ picks pos₀ I ps → tall_of L₁ p₁ ≡ picks pos₁ I ps
        → Done R site_of L₀ (after R site_of L₀ c.0 p₀) → Done R site_of L₁ (after R site_of L₁ c.1 p₁)
        → x + (cost R site_of L₀ c.0 p₀ + cost R site_of L₁ c.1 p₁) ≡ z → Stages N ending z
    unfolding picks defs.cases
    stages_go [] I c x z e k h₀ h₁ p₀ p₁ g₀ g₁ t₀ t₁ n₀ n₁ w =
        let eI : I ≡ N = omega arith in
        let y₀ = cost R site_of L₀ c.0 p₀ in
        let y₁ = cost R site_of L₁ c.1 p₁ in
        subst (λ d. Stages d ending z) eI
        (subst (λ v. Stages I ending v) w (k ending
        (y₀ + y₁) (y₀, y₁, row-end R site_of L₀ c.0 p₀ h₀ g₀ t₀ n₀, row-end R site_of L₁ c.1 p₁ h₁ g₁ t₁ n₁, refl)))
    stages_go (a ∷ ps) I c x z e k h₀ h₁ p₀ p₁ g₀ g₁ t₀ t₁ n₀ n₁ w =
        let r₀ = row_cut R site_of L₀ c.0 p₀ (pos₀ I) a (picks pos₀ (suc I) ps) h₀ g₀ t₀ in
        let r₁ = row_cut R site_of L₁ c.1 p₁ (pos₁ I) a (picks pos₁ (suc I) ps) h₁ g₁ t₁ in
        let d₀ : State A = (r₀.place, r₀.marks, some (pos₀ I, a)) in
        let d₁ : State A = (r₁.place, r₁.marks, some (pos₁ I, a)) in
        let m : In (d₀, d₁) (cases I) =
        in_each (L₀.options (pos₀ I)) _ r₀.offered
        (in_each (spots R (pos₀ I)) _ (in_spots (pos₀ I) r₀.place r₀.marks r₀.low r₀.high r₀.good)
        (in_each (spots R (pos₁ I)) _
        (in_spots (pos₁ I) r₁.place r₁.marks r₁.low r₁.high r₁.good) (here refl)))
        in
        let y = r₀.cost_if + r₁.cost_if in
        let e₀ = r₀.sum in
        let e₁ = r₁.sum in
        stages_go ps (suc I) (d₀, d₁) (x + y) z (omega arith)
        (λ t y' s. ((d₀, d₁), m, x + y, y', k (d₀, d₁) y (r₀.cost_if, r₁.cost_if, r₀.way, r₁.way, refl), s, refl))
        r₀.good r₁.good r₀.rest r₁.rest r₀.goes r₁.goes r₀.talls r₁.talls
        (subst (Done R site_of L₀) (sym r₀.ends) n₀) (subst (Done R site_of L₁) (sym r₁.ends) n₁) (omega arith)

    -- ---- two starts of rows, up to a tall cell, are cut into stages; and stages to a tall cell are such starts

    -- a start of a row, on to the tall cell c, whose other tall cells are ts
    start-way : (L : Line A) (s : State A) (q : List (Choice A)) (c : Choice A) → Good R s.1 → tall_of L q ≡ []
        → Goes R site_of L s (q ++ (c ∷ []))
        → Way R site_of L s (after R site_of L s (q ++ (c ∷ []))) (cost R site_of L s (q ++ (c ∷ [])))
    start-way L s q c h e g =
        let b = (goes_append R site_of L s q (c ∷ [])).0 g in
        let u = after R site_of L s q in
        let z = cost_append R site_of L s q (c ∷ []) in
        subst (λ t. Way R site_of L s t (cost R site_of L s (q ++ (c ∷ [])))) (sym (after_append R site_of L s q (c ∷ [])))
        (list-way R site_of L s h q (none-plain L q e) b.0 (next R site_of L u c) (charge R site_of L u c)
        (cost R site_of L s (q ++ (c ∷ []))) (next-move R site_of L u c b.1.0) refl (omega arith))

    pub starts_stages : (ps : List A) (a : A) (I J : ℕ) (c : Case A) (x z : ℕ) → I + length ps ≡ J
        → ((t : Case A) (y : ℕ) → Stage I c t y → Stages I t (x + y))
        → Good R c.0.1 → Good R c.1.1 → (q₀ q₁ : List (Choice A))
        → Goes R site_of L₀ c.0 (q₀ ++ ((pos₀ J, a) ∷ [])) → Goes R site_of L₁ c.1 (q₁ ++ ((pos₁ J, a) ∷ []))
        → tall_of L₀ q₀ ≡ picks pos₀ I ps → tall_of L₁ q₁ ≡ picks pos₁ I ps
        → x + (cost R site_of L₀ c.0 (q₀ ++ ((pos₀ J, a) ∷ [])) + cost R site_of L₁ c.1 (q₁ ++ ((pos₁ J, a) ∷ [])))
        ≡ z
        → Stages J
        (after R site_of L₀ c.0 (q₀ ++ ((pos₀ J, a) ∷ [])), after R site_of L₁ c.1 (q₁ ++ ((pos₁ J, a) ∷ []))) z
    unfolding picks defs.cases
    starts_stages [] a I J c x z e k h₀ h₁ q₀ q₁ g₀ g₁ t₀ t₁ w =
        let p₀ = q₀ ++ ((pos₀ J, a) ∷ []) in
        let p₁ = q₁ ++ ((pos₁ J, a) ∷ []) in
        let y₀ = cost R site_of L₀ c.0 p₀ in
        let y₁ = cost R site_of L₁ c.1 p₁ in
        let t : Case A = (after R site_of L₀ c.0 p₀, after R site_of L₁ c.1 p₁) in
        let i : I ≡ J = omega arith in
        subst (λ d. Stages d t z) i (subst (λ v. Stages I t v) w (k t (y₀ + y₁)
        (y₀, y₁, start-way L₀ c.0 q₀ (pos₀ J, a) h₀ t₀ g₀, start-way L₁ c.1 q₁ (pos₁ J, a) h₁ t₁ g₁, refl)))
    starts_stages (b ∷ ps) a I J c x z e k h₀ h₁ q₀ q₁ g₀ g₁ t₀ t₁ w =
        let e₀ : List (Choice A) = (pos₀ J, a) ∷ [] in
        let e₁ : List (Choice A) = (pos₁ J, a) ∷ [] in
        let s₀ = (goes_append R site_of L₀ c.0 q₀ e₀).0 g₀ in
        let s₁ = (goes_append R site_of L₁ c.1 q₁ e₁).0 g₁ in
        let r₀ = row_cut R site_of L₀ c.0 q₀ (pos₀ I) b (picks pos₀ (suc I) ps) h₀ s₀.0 t₀ in
        let r₁ = row_cut R site_of L₁ c.1 q₁ (pos₁ I) b (picks pos₁ (suc I) ps) h₁ s₁.0 t₁ in
        let d₀ : State A = (r₀.place, r₀.marks, some (pos₀ I, b)) in
        let d₁ : State A = (r₁.place, r₁.marks, some (pos₁ I, b)) in
        let m : In (d₀, d₁) (cases I) =
        in_each (L₀.options (pos₀ I)) _ r₀.offered
        (in_each (spots R (pos₀ I)) _ (in_spots (pos₀ I) r₀.place r₀.marks r₀.low r₀.high r₀.good)
        (in_each (spots R (pos₁ I)) _
        (in_spots (pos₁ I) r₁.place r₁.marks r₁.low r₁.high r₁.good) (here refl)))
        in
        let y = r₀.cost_if + r₁.cost_if in
        let n₀ = (goes_append R site_of L₀ d₀ r₀.rest e₀).1
        (r₀.goes, subst (λ s. Goes R site_of L₀ s e₀) (sym r₀.ends) s₀.1) in
        let n₁ = (goes_append R site_of L₁ d₁ r₁.rest e₁).1
        (r₁.goes, subst (λ s. Goes R site_of L₁ s e₁) (sym r₁.ends) s₁.1) in
        let f₀ : after R site_of L₀ d₀ (r₀.rest ++ e₀) ≡ after R site_of L₀ c.0 (q₀ ++ e₀) =
        after_append R site_of L₀ d₀ r₀.rest e₀ ∙ ap (λ s. after R site_of L₀ s e₀) r₀.ends
        ∙ sym (after_append R site_of L₀ c.0 q₀ e₀) in
        let f₁ : after R site_of L₁ d₁ (r₁.rest ++ e₁) ≡ after R site_of L₁ c.1 (q₁ ++ e₁) =
        after_append R site_of L₁ d₁ r₁.rest e₁ ∙ ap (λ s. after R site_of L₁ s e₁) r₁.ends
        ∙ sym (after_append R site_of L₁ c.1 q₁ e₁) in
        let v₀ = cost_append R site_of L₀ c.0 q₀ e₀ in
        let v₁ = cost_append R site_of L₁ c.1 q₁ e₁ in
        let w₀ = cost_append R site_of L₀ d₀ r₀.rest e₀ in
        let w₁ = cost_append R site_of L₁ d₁ r₁.rest e₁ in
        let u₀ = ap (λ s. cost R site_of L₀ s e₀) r₀.ends in
        let u₁ = ap (λ s. cost R site_of L₁ s e₁) r₁.ends in
        let g₀' = r₀.sum in
        let g₁' = r₁.sum in
        subst (λ (t : Case A). Stages J t z) (ap₂ (λ (s t : State A). (s, t)) f₀ f₁)
        (starts_stages ps a (suc I) J (d₀, d₁) (x + y) z (omega arith)
        (λ t y' s. ((d₀, d₁), m, x + y, y', k (d₀, d₁) y (r₀.cost_if, r₁.cost_if, r₀.way, r₁.way, refl), s, refl))
        r₀.good r₁.good r₀.rest r₁.rest n₀ n₁ r₀.talls r₁.talls (omega arith))

    upto-start : (L : Line A) (c : Choice A) (ts : List (Choice A)) (i m x : ℕ) → In c.1 (L.options c.0)
        → Upto R site_of L (i, m, some c) ts x → StartOf L c ts (i, m, some c) x
    upto-start L c ts i m x o u =
        let f = first R site_of L in
        let v = after R site_of L f u.path in
        let e₀ = cost_append R site_of L f u.path (c ∷ []) in
        let e₁ = u.sum in
        let e₂ = u.move.1 in
        record {
          path = u.path;
          goes = (goes_append R site_of L f u.path (c ∷ [])).1 (u.goes, (u.move.0.0, o, tt));
          talls = u.talls;
          ends = after_append R site_of L f u.path (c ∷ [])
              ∙ ap₂ (λ (k n : ℕ). (k, n, some c)) (sym u.move.0.1.0) (sym u.move.0.1.1);
          sum = omega arith;
        }

    -- stages to tall cell I in pose a are starts of both rows whose tall cells before it have the same poses
    pub stages_starts : (I : ℕ) (a : A) (i₀ m₀ i₁ m₁ x : ℕ) → I < N → In a (L₀.options (pos₀ I))
        → Stages I ((i₀, m₀, some (pos₀ I, a)), (i₁, m₁, some (pos₁ I, a))) x
        → (ps : List A) × (x₀ : ℕ) × (x₁ : ℕ) × (length ps ≡ I)
        × StartOf L₀ (pos₀ I, a) (picks pos₀ 0 ps) (i₀, m₀, some (pos₀ I, a)) x₀
        × StartOf L₁ (pos₁ I, a) (picks pos₁ 0 ps) (i₁, m₁, some (pos₁ I, a)) x₁ × (x₀ + x₁ ≡ x)
    stages_starts I a i₀ m₀ i₁ m₁ x h o s =
        let j = stages_joined I ((i₀, m₀, some (pos₀ I, a)), (i₁, m₁, some (pos₁ I, a))) x (omega arith) s in (
          j.ps,
          j.x₀,
          j.x₁,
          j.size,
          upto-start L₀ (pos₀ I, a) (picks pos₀ 0 j.ps) i₀ m₀ j.x₀ o j.row₀,
          upto-start L₁ (pos₁ I, a) (picks pos₁ 0 j.ps) i₁ m₁ j.x₁ (subst (λ l. In a l) (same I h) o) j.row₁,
          j.sum,
        )
