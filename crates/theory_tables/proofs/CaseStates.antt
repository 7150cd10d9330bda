-- The cases of a tall cell that two states and a pose number stand for: every case with a cost is one of them, so that
-- an entry of the case table is the lowest by way of those.
use Rattle.std.specs.Prelude.{◌≡◌, refl, true}
use Rattle.std.proofs.Common.{sym, ◌∙◌, subst}
use Rattle.std.proofs.Math.Path.{ap, ap₂}
use mathlib.Core.List.Memᴰ
use mathlib.Core.List.Memᴰ.{head as here}
use mathlib.Core.List.{Memᴰ as In}
use Rattle.std.proofs.Math.Option.{some}
use Prim.Native.Nat.{ℕ, zero, suc, ◌+◌, ◌-◌, ◌*◌, min, ◌≤◌, ◌<◌}
use native.Mathlib.Omega.{arith}
use Rattle.std.proofs.Math.Decide.{dec_lt}
use Rattle.lists.specs.Numbers.{from, from_in}
use Rattle.theory_row.specs.Window.{Good}
use Rattle.theory_row.proofs.Window.{good_start}
use Rattle.theory_pair.specs.Forward.{in_each, each_in}
use Rattle.theory_pair.specs.Pick.{good_marks}
use Rattle.theory_pair.proofs.Pick.{in_good_marks}
use Rattle.theory_pair.specs.Segment.{Line, State, Into, least, first}
use Rattle.theory_pair.specs.Pair.{Case, spots}
use Rattle.theory_pair.specs.Coded.{coded, lowest}
use Rattle.theory_pair.specs.Loops.{case_entry, costs}
use Rattle.theory_pair.proofs.Loops.{least-entry, case-first, case-next}
use Rattle.theory_tables.specs.Steps.{B, state_count, marks}
use Rattle.theory_tables.specs.Stages.{placed_with}
use Rattle.theory_tables.proofs.States.{state-at}
use Rattle.theory_tables.specs.Lowest.{lowest-member, lowest-above, lowest-met}
use Rattle.theory_tables.proofs.Spots.{same-state, entry-move, into_state, offer-pose, pose-offer}
use Rattle.theory_tables.specs.StagesRight.{Row}
use Rattle.theory_tables.proofs.StagesRight.{tall_as}
use Rattle.theory_tables.specs.CaseStates.{Alike}

-- ---- places and marks just after a cell

spots-good : (R k : ℕ) (v : ℕ × ℕ) → In v (spots R k) → Good R v.1
unfolding spots
spots-good R k v m =
    let a = each_in (from (suc k - R) (suc (2 * R))) _ m in
    let b = each_in (good_marks R) _ a.2 in
    subst (λ (w : ℕ × ℕ). Good R w.1) (sym (Memᴰ.eq_of_singleton b.2)) ((in_good_marks R b.0).0 b.1)

states-spots : (R k q : ℕ) → q < state_count R → In (placed_with R k q, marks R q) (spots R k)
unfolding spots
states-spots R k q h =
    let p = state-at R q h in
    let f = p.far in
    in_each (from (suc k - R) (suc (2 * R))) _
    (from_in (placed_with R k q) (suc k - R) (suc (2 * R)) (omega arith) (omega arith))
    (in_each (good_marks R) _ ((in_good_marks R (marks R q)).1 p.good) (here refl))

-- ---- one row

module _ {A : Type 0} (R : ℕ) (site_of : A → ℕ) (L : Line A) where
  -- t is where a move from good marks leads
  abbrev Reached : State A → Type 0
  Reached t = (u : State A) × Good R u.1 × Into R site_of L u t.0 t.1 t.2

  least-move : (s t : State A) → Good R s.1 → coded B (least R site_of L s t) < B → Reached t
  least-move s t g h =
      let e = least-entry B R site_of L s t in
      entry-move R site_of L s g (t.0 - suc s.0) t (omega arith)

module _ {A : Type 0} (R : ℕ) (site_of : A → ℕ) (talls : ℕ) (X : Row site_of talls) where
  -- the state that a tall cell stands as
  reached-state : (I i m b : ℕ) (x : A) → X.pose (X.pos I) b ≡ x
      → Reached R site_of X.line (i, m, some (X.pos I, x))
      → (q : ℕ) × (q < state_count R) × (◌≡◌ {A = State A} (i, m, some (X.pos I, x)) (tall_as R site_of talls X I q b))
  reached-state I i m b x e v =
      let r = into_state R site_of X.line X.deck X.pose X.offered X.matched v.0 i m (X.pos I) x
      v.1 v.2 in
      let z = r.2 in (
        r.0,
        r.1,
        same-state i (placed_with R (X.pos I) r.0) m (marks R r.0) (X.pos I) (X.pos I) x (X.pose (X.pos I) b)
            (omega arith) (sym r.3) refl (sym e),
      )

-- ---- two rows

module _ {A : Type 0} (R : ℕ) (site_of : A → ℕ) (talls : ℕ) (X₀ X₁ : Row site_of talls) (same : Alike X₀ X₁) where
  -- tall cell I, as state s in row 0 and state t in row 1, in pose l
  abbrev pub case_as : ℕ → ℕ → ℕ → ℕ → Case A
  case_as I s t l = (tall_as R site_of talls X₀ I s l, tall_as R site_of talls X₁ I t l)

  abbrev pub entry_of : ℕ → Case A → ℕ
  entry_of I c = case_entry B R site_of X₀.line X₁.line X₀.pos X₁.pos I c

  abbrev pub stage : Case A → Case A → ℕ
  stage u c = costs B R site_of X₀.line X₁.line X₀.pos X₁.pos u c

  abbrev case_from : ℕ → A → ℕ × ℕ → ℕ × ℕ → Case A
  case_from I a s t = ((s.0, s.1, some (X₀.pos I, a)), (t.0, t.1, some (X₁.pos I, a)))

  by_way : ℕ → Case A → A → ℕ × ℕ → ℕ × ℕ → ℕ
  by_way I c a s t = min (entry_of I (case_from I a s t) + stage (case_from I a s t) c) B

  by_spot : ℕ → Case A → A → ℕ × ℕ → ℕ
  by_spot I c a s = lowest B (by_way I c a s) (spots R (X₁.pos I))

  by-pose : ℕ → Case A → A → ℕ
  by-pose I c a = lowest B (by_spot I c a) (spots R (X₀.pos I))

  loops : (I : ℕ) (c : Case A) → entry_of (suc I) c ≡ lowest B (by-pose I c) (X₀.line.options (X₀.pos I))
  unfolding by_way by_spot by-pose
  loops I c = case-next B R site_of X₀.line X₁.line X₀.pos X₁.pos I c

  -- a case with a cost is reached in both rows
  stage-moves : (u c : Case A) → Good R u.0.1 → Good R u.1.1 → stage u c < B
      → Reached R site_of X₀.line c.0 × Reached R site_of X₁.line c.1
  stage-moves u c g₀ g₁ h = (
    least-move R site_of X₀.line u.0 c.0 g₀ (omega arith),
    least-move R site_of X₁.line u.1 c.1 g₁ (omega arith),
  )

  case-moves : (I : ℕ) (c : Case A) → entry_of I c < B
      → Reached R site_of X₀.line c.0 × Reached R site_of X₁.line c.1
  unfolding by_way by_spot by-pose
  case-moves zero c h =
      let e = case-first B R site_of X₀.line X₁.line X₀.pos X₁.pos c in
      stage-moves (first R site_of X₀.line, first R site_of X₁.line) c (good_start R) (good_start R) (omega arith)
  case-moves (suc I) c h =
      let e = loops I c in
      let a = lowest-met B (by-pose I c) (X₀.line.options (X₀.pos I)) (omega arith) in
      let s = lowest-met B (by_spot I c a.0) (spots R (X₀.pos I)) a.2 in
      let t = lowest-met B (by_way I c a.0 s.0) (spots R (X₁.pos I)) s.2 in
      let k = t.2 in
      stage-moves (case_from I a.0 s.0 t.0) c (spots-good R (X₀.pos I) s.0 s.1)
      (spots-good R (X₁.pos I) t.0 t.1) (omega arith)

  -- ---- an entry by the entries of the tall cell before

  module _ (I : ℕ) (h : I < talls) (c : Case A) where
    pub case-below : (s t l : ℕ) → s < state_count R → t < state_count R → l < X₀.deck.poses
        → X₀.offered (X₀.pos I) l ≡ true
        → entry_of (suc I) c ≤ entry_of I (case_as I s t l) + stage (case_as I s t l) c
    unfolding by_way by_spot by-pose
    case-below s t l hs ht hl o =
        let p = X₀.pose (X₀.pos I) l in
        let s' : ℕ × ℕ = (placed_with R (X₀.pos I) s, marks R s) in
        let t' : ℕ × ℕ = (placed_with R (X₁.pos I) t, marks R t) in
        let size = X₀.matched.size in
        let i₀ = X₀.inside I h in
        let x = lowest-member B (by-pose I c) (X₀.line.options (X₀.pos I)) (pose-offer R site_of X₀.line X₀.deck
        X₀.pose X₀.offered X₀.matched (X₀.pos I) l (omega arith) hl o) in
        let y = lowest-member B (by_spot I c p) (spots R (X₀.pos I)) (states-spots R (X₀.pos I) s hs) in
        let z = lowest-member B (by_way I c p s') (spots R (X₁.pos I)) (states-spots R (X₁.pos I) t ht) in
        let e : entry_of I (case_from I p s' t') + stage (case_from I p s' t') c
        ≡ entry_of I (case_as I s t l) + stage (case_as I s t l) c =
        ap (λ (v : A). entry_of I (tall_as R site_of talls X₀ I s l, (t'.0, t'.1, some (X₁.pos I, v)))
        + stage (tall_as R site_of talls X₀ I s l, (t'.0, t'.1, some (X₁.pos I, v))) c) (same.pose I l h hl)
        in
        omega (arith, loops I c)

    pub case-above : (x : ℕ) → x ≤ B
        → ((s t l : ℕ) → s < state_count R → t < state_count R → l < X₀.deck.poses → X₀.offered (X₀.pos I) l ≡ true
        → x ≤ entry_of I (case_as I s t l) + stage (case_as I s t l) c)
        → x ≤ entry_of (suc I) c
    unfolding by_way by_spot by-pose
    case-above x b f =
        let r =
        lowest-above B (by-pose I c) x (X₀.line.options (X₀.pos I)) b (λ p m. lowest-above B (by_spot I c p) x
        (spots R (X₀.pos I)) b (λ s k. lowest-above B (by_way I c p s) x (spots R (X₁.pos I)) b (λ t n.
        go p m s t (dec_lt (entry_of I (case_from I p s t)) B)))) in
        omega (arith, loops I c)
      where
        go : (p : A) → In p (X₀.line.options (X₀.pos I)) → (s t : ℕ × ℕ) → Dec (entry_of I (case_from I p s t) < B)
            → x ≤ by_way I c p s t
        go p m s t (yes k) =
            let size = X₀.matched.size in
            let i₀ = X₀.inside I h in
            let o = offer-pose R site_of X₀.line X₀.deck X₀.pose X₀.offered X₀.matched (X₀.pos I) p
            (omega arith) m in
            let v = case-moves I (case_from I p s t) k in
            let r₀ = reached-state R site_of talls X₀ I s.0 s.1 o.0 p o.3 v.0 in
            let r₁ = reached-state R site_of talls X₁ I t.0 t.1 o.0 p
            (sym (same.pose I o.0 h o.1) ∙ o.3) v.1 in
            let y = f r₀.0 r₁.0 o.0 r₀.1 r₁.1 o.1 o.2 in
            let e = ap₂ (λ (w₀ w₁ : State A). entry_of I (w₀, w₁) + stage (w₀, w₁) c) r₀.2 r₁.2 in
            omega arith
        go p m s t (no k) = omega arith
