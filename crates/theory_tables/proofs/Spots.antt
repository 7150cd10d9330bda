-- The states of the pair theory that states and pose numbers stand for: every state that a move from good marks leads
-- to is one of them, and what such a move costs is what the deck says.
use Rattle.std.specs.Prelude.{◌≡◌, Bool, true, false, ◌&&◌, cond, leb, ltb, eqb}
use Rattle.std.proofs.Math.Path.{refl}
use Rattle.std.proofs.Common.{sym, ap, ap₂, ◌∙◌, subst, true≢false, arith, leb-true, ltb-true, le-leb, lt-ltb}
use mathlib.Core.List.Memᴰ
use mathlib.Core.List.{List, Memᴰ as In}
use Rattle.std.proofs.Math.Option.{some}
use Prim.Native.Nat.{ℕ, suc, ◌+◌, ◌-◌, min, ◌≤◌, ◌<◌}
use Rattle.lists.specs.Compare.{Eq?, same, differs, eq?}
use Rattle.lists.specs.Numbers.{from, in_from, from_in}
use Rattle.theory_row.specs.Window.{start, step, May, Good}
use Rattle.theory_row.proofs.Window.{good_start}
use Rattle.theory_pair.specs.Forward.{layer, layer-met}
use Rattle.theory_pair.specs.Pick.{pick, pick_in, in_pick}
use Rattle.theory_pair.specs.Segment.{Line, State, singles, FitsTo, fitsTo?, Into, into?, toll_to, Move}
use Rattle.theory_pair.specs.Segment.{move, first, last, after}
use Rattle.theory_pair.proofs.Segment.{move-met, goes-good, segment-list}
use Rattle.theory_pair.specs.Coded.{coded, coded-some}
use Rattle.theory_pair.specs.Loops.{entry}
use Rattle.theory_tables.specs.Steps.{B, Deck, state_count, offset, marks, marks_before, before, last_at, is_there}
use Rattle.theory_tables.specs.Matched.{Matched}
use Rattle.theory_tables.proofs.States.{state-at, at-state, may_state, may_before, before_may}
use Rattle.theory_tables.specs.Lowest.{cost_yes, cost-no}

-- with i cells placed, the last of them that of state q in pose a
abbrev pub state_of : {A : Type 0} → ℕ → (ℕ → ℕ → A) → ℕ → ℕ → ℕ → State A
state_of R pose i q a = (i, marks R q, some (last_at R i q, pose (last_at R i q) a))

-- the row has that cell, and offers it that pose
pub record Spot (D : Deck) (R : ℕ) (offered : ℕ → ℕ → Bool) (i q a : ℕ) : Type 0 where
  pub state : q < state_count R
  pub pose : a < D.poses
  pub low : suc R ≤ i + offset R q
  pub inside : last_at R i q < D.size
  pub offer : offered (last_at R i q) a ≡ true

-- ---- tests

pub and_both : (t u : Bool) → (t && u) ≡ true → (t ≡ true) × (u ≡ true)
and_both true u e = (refl, e)
and_both false u e = absurd (let z : ◌≡◌ {A = ℕ} 0 1 = cc in omega arith)

pub both-and : {t u : Bool} → t ≡ true → u ≡ true → (t && u) ≡ true
both-and e z = ap₂ ◌&&◌ e z

pub cond_yes : {t : Bool} (x y : ℕ) → t ≡ true → cond t x y ≡ x
cond_yes x y e = ap (λ t. cond t x y) e

pub cond_no : {t : Bool} (x y : ℕ) → t ≡ false → cond t x y ≡ y
cond_no x y e = ap (λ t. cond t x y) e

pub cond-and : (t u : Bool) (x : ℕ) → cond (t && u) x B ≡ cond t (cond u x B) B
cond-and true u x = refl
cond-and false u x = refl

pub cond-none : (t : Bool) (x : ℕ) → x ≡ B → cond t x B ≡ B
cond-none true x e = e
cond-none false x e = refl

module _ (D : Deck) (R i q : ℕ) where
  pub is-there : suc R ≤ i + offset R q → last_at R i q < D.size → is_there D R i q ≡ true
  is-there l h = both-and (le-leb (suc R) (i + offset R q) l) (lt-ltb (last_at R i q) D.size h)

  pub there-is : is_there D R i q ≡ true → (suc R ≤ i + offset R q) × (last_at R i q < D.size)
  there-is e =
      let r = and_both (leb (suc R) (i + offset R q)) (ltb (last_at R i q) D.size) e in
      (leb-true (suc R) (i + offset R q) r.0, ltb-true (last_at R i q) D.size r.1)

  module _ (offered : ℕ → ℕ → Bool) (a : ℕ) where
    pub spot_is : Spot D R offered i q a → (is_there D R i q && offered (last_at R i q) a) ≡ true
    spot_is p = both-and (is-there p.low p.inside) p.offer

    pub is_spot : q < state_count R → a < D.poses → (is_there D R i q && offered (last_at R i q) a) ≡ true
        → Spot D R offered i q a
    is_spot h l e =
        let r = and_both (is_there D R i q) (offered (last_at R i q) a) e in
        let t = there-is r.0 in
        record { state = h; pose = l; low = t.0; inside = t.1; offer = r.1 }

pub same-state : {A : Type 0} (i i' m m' k k' : ℕ) (a a' : A) → i ≡ i' → m ≡ m' → k ≡ k' → a ≡ a'
    → ◌≡◌ {A = State A} (i, m, some (k, a)) (i', m', some (k', a'))
same-state i i' m m' k k' a a' e₀ e₁ e₂ e₃ = cc

module _ {A : Type 0} (R : ℕ) (site_of : A → ℕ) (L : Line A) where
  -- the code of a move
  pub move_yes : (u t : State A) → Into R site_of L u t.0 t.1 t.2
      → coded B (move R site_of L u t) ≡ min (toll_to R site_of L u t.2) B
  unfolding move
  move_yes u t h = cost_yes B (toll_to R site_of L u t.2) (into? R site_of L u t.0 t.1 t.2) h

  pub move-no : (u t : State A) → ¬ Into R site_of L u t.0 t.1 t.2 → coded B (move R site_of L u t) ≡ B
  unfolding move
  move-no u t h = cost-no B (toll_to R site_of L u t.2) (into? R site_of L u t.0 t.1 t.2) h

  -- e is the cost of ending the row at s, once all its cells are placed there
  abbrev pub EndCost : State A → ℕ → Type 0
  EndCost s e = s.0 ≡ L.size → coded B (move R site_of L s (last R site_of L)) ≡ e

  pub open_end : EndCost (first R site_of L) 0
  open_end z = let x = move_yes (first R site_of L) (last R site_of L) ((z, tt), (ap suc (sym z), refl)) in omega arith

  -- a state with a cost is where a move from good marks leads
  pub entry-move : (s : State A) → Good R s.1 → (j : ℕ) (t : State A) → entry B R site_of L s j t < B
      → (u : State A) × Good R u.1 × Into R site_of L u t.0 t.1 t.2
  unfolding entry
  entry-move s g j t h =
      let states : ℕ → List (State A) = λ i. singles R site_of L (s.0 + suc i) in
      let e = coded-some B (entry B R site_of L s j t) (layer states (λ i u v. move R site_of L u v) s j t) refl h in
      let w = layer-met states (λ i u v y. Move R site_of L u v y) (λ i u v. move R site_of L u v)
      (λ i u v y. move-met R site_of L u v y) s j t (entry B R site_of L s j t) e in
      let l = segment-list R site_of L s j t (entry B R site_of L s j t) w in
      (after R site_of L s l.path, goes-good R site_of L s l.path g l.goes, l.move.0)

module _ {A : Type 0} (R : ℕ) (site_of : A → ℕ) (L : Line A) (D : Deck) (pose : ℕ → ℕ → A) (offered : ℕ → ℕ → Bool)
    (M : Matched site_of L D pose offered) where
  -- ---- the states that a move leads to are those of the states

  -- which poses are offered
  pub offer-pose : (k : ℕ) (a : A) → k < L.size → In a (L.options k)
      → (b : ℕ) × (b < D.poses) × (offered k b ≡ true) × (pose k b ≡ a)
  offer-pose k a h m =
      let r = Memᴰ.of_map (pose k) (pick (offered k) (from 0 D.poses)) (subst (λ l. In a l) (M.options k h) m) in
      let p = pick_in (offered k) (from 0 D.poses) r.1 in
      let l = in_from 0 D.poses p.0 in
      (r.0, omega arith, p.1, r.2)

  pub pose-offer : (k b : ℕ) → k < L.size → b < D.poses → offered k b ≡ true → In (pose k b) (L.options k)
  pose-offer k b h l e =
      subst (λ l. In (pose k b) l) (sym (M.options k h))
      (Memᴰ.map (pose k)
      (in_pick (offered k) (from 0 D.poses) (from_in b 0 D.poses (omega arith) (omega arith)) e))

  -- the state that a state reached from good marks stands for
  pub into_state : (u : State A) (i m k : ℕ) (a : A) → Good R u.1 → Into R site_of L u i m (some (k, a))
      → (q : ℕ) × (q < state_count R) × (i + offset R q ≡ k + suc R) × (marks R q ≡ m) × (k < L.size)
  into_state u i m k a g v =
      let may = v.0.0 in
      let l = may.low in
      let e = v.1.0 in
      let r = at-state R (k + R - u.0) (step R u.0 u.1 k) (may_state R L.size u.0 u.1 k g may) in
      let z = r.2 in
      (r.0, r.1, omega arith, r.3 ∙ sym v.1.1, may.inside)

  -- with its pose
  pub into_spot : (u : State A) (i m k : ℕ) (a : A) → Good R u.1 → Into R site_of L u i m (some (k, a))
      → In a (L.options k)
      → (q : ℕ) × (b : ℕ) × Spot D R offered i q b × (k ≡ last_at R i q)
      × (◌≡◌ {A = State A} (i, m, some (k, a)) (state_of R pose i q b))
  into_spot u i m k a g v o =
      let p = into_state u i m k a g v in
      let q = p.0 in
      let e = p.2 in
      let h = p.4 in
      let size = M.size in
      let b = offer-pose k a h o in
      let z : k ≡ last_at R i q = omega arith in
      let y : a ≡ pose (last_at R i q) b.0 = sym b.3 ∙ ap (λ x. pose x b.0) z in (
        q,
        b.0,
        record {
          state = p.1;
          pose = b.1;
          low = omega arith;
          inside = omega arith;
          offer = ap (λ x. offered x b.0) (sym z) ∙ b.2;
        },
        z,
        same-state i i m (marks R q) k (last_at R i q) a (pose (last_at R i q) b.0) refl (sym p.3) z y,
      )

  -- ---- the code of a move to the state of a state

  module _ (u : State A) (q a : ℕ) (p : Spot D R offered (suc u.0) q a) where
    into_yes : u.1 ≡ before R q → FitsTo R site_of L u.2 (last_at R (suc u.0) q, pose (last_at R (suc u.0) q) a)
        → Into R site_of L u (suc u.0) (marks R q) (some (last_at R (suc u.0) q, pose (last_at R (suc u.0) q) a))
    into_yes e f =
        let l = p.low in
        let h = p.inside in
        let size = M.size in
        let k = last_at R (suc u.0) q in
        let r = before_may R L.size u.0 k (offset R q) (marks R q) (state-at R q p.state) (omega arith)
        (omega arith) in (
          (subst (λ m. May R L.size u.0 m k) (sym e) r.0, f),
          (refl, sym r.1 ∙ ap (λ m. step R u.0 m k) (sym e)),
        )

    into_marks : Good R u.1 → (x : A)
        → Into R site_of L u (suc u.0) (marks R q) (some (last_at R (suc u.0) q, x)) → u.1 ≡ before R q
    into_marks g x v =
        let l = p.low in
        let k = last_at R (suc u.0) q in
        let z : k + R - u.0 ≡ offset R q = omega arith in
        may_before R L.size u.0 u.1 k g.odd v.0.0 ∙ ap₂ marks_before z (sym v.1.1)

    own_at : D.own (last_at R (suc u.0) q) a ≡ L.own (last_at R (suc u.0) q) (pose (last_at R (suc u.0) q) a)
    own_at =
        let h = p.inside in
        let size = M.size in
        let k = last_at R (suc u.0) q in
        M.own k a (omega arith) p.pose ∙ cond_yes _ _ p.offer

  module _ (i m k b q a : ℕ) (g : Good R m) (h : k < D.size) (l : b < D.poses) (o : offered k b ≡ true)
      (p : Spot D R offered (suc i) q a) where
    pub move-code : coded B (move R site_of L (i, m, some (k, pose k b)) (state_of R pose (suc i) q a))
        ≡ cond (eqb m (before R q)) (min (D.own (last_at R (suc i) q) a + D.toll k b (last_at R (suc i) q) a) B) B
    move-code = go (eqb m (before R q)) (eq? m (before R q)) (fitsTo? R site_of L (some (k, pose k b)) (to, pose to a))
      where
        u : State A
        u = (i, m, some (k, pose k b))

        to : ℕ
        to = last_at R (suc i) q

        go : (t : Bool) → Eq? m (before R q) t → Dec (FitsTo R site_of L (some (k, pose k b)) (to, pose to a))
            → coded B (move R site_of L u (state_of R pose (suc i) q a))
            ≡ cond t (min (D.own to a + D.toll k b to a) B) B
        go true (same e) (yes f) =
            let h₁ = p.inside in
            let size = M.size in
            let w = own_at u q a p in
            let t = M.pays k b to a (omega arith) l (omega arith) p.pose o p.offer f in
            let x = move_yes R site_of L u (state_of R pose (suc i) q a) (into_yes u q a p e f) in
            omega arith
        go true (same e) (no f) =
            let h₁ = p.inside in
            let size = M.size in
            let t = M.barred k b to a (omega arith) l (omega arith) p.pose o p.offer f in
            let x = move-no R site_of L u (state_of R pose (suc i) q a) (λ v. f v.0.1) in
            omega arith
        go false (differs n) d =
            move-no R site_of L u (state_of R pose (suc i) q a) (λ v. n (into_marks u q a p g (pose to a) v))

  -- to a row's first cell
  pub open_code : (q a : ℕ) → Spot D R offered 1 q a
      → coded B (move R site_of L (first R site_of L) (state_of R pose 1 q a))
      ≡ cond (eqb (start R) (before R q)) (min (D.own (last_at R 1 q) a + D.front (last_at R 1 q) a) B) B
  open_code q a p = go (eqb (start R) (before R q)) (eq? (start R) (before R q)) (L.opens k (pose k a)) refl
    where
      u : State A
      u = first R site_of L

      k : ℕ
      k = last_at R 1 q

      front : (o : Bool) → L.opens k (pose k a) ≡ o → D.front k a ≡ cond o 0 B
      front o e =
          let h = p.inside in
          let size = M.size in
          M.front k a (omega arith) p.pose p.offer ∙ ap (λ o. cond o 0 B) e

      go : (t : Bool) → Eq? (start R) (before R q) t → (o : Bool) → L.opens k (pose k a) ≡ o
          → coded B (move R site_of L u (state_of R pose 1 q a)) ≡ cond t (min (D.own k a + D.front k a) B) B
      go true (same e) true f =
          let w = own_at u q a p in
          let z = front true f in
          let x = move_yes R site_of L u (state_of R pose 1 q a) (into_yes u q a p e f) in
          omega arith
      go true (same e) false f =
          let z = front false f in
          let x = move-no R site_of L u (state_of R pose 1 q a) (λ v. true≢false (sym v.0.1 ∙ f)) in
          omega arith
      go false (differs n) o f = move-no R site_of L u (state_of R pose 1 q a)
          (λ v. n (into_marks u q a p (good_start R) (pose (last_at R 1 q) a) v))

  -- to the row's end
  pub end-code : (i m k b : ℕ) → k < L.size → b < D.poses → offered k b ≡ true
      → EndCost R site_of L (i, m, some (k, pose k b)) (D.back k b)
  end-code i m k b h l o z = go (L.closes k (pose k b)) refl
    where
      u : State A
      u = (i, m, some (k, pose k b))

      go : (c : Bool) → L.closes k (pose k b) ≡ c → coded B (move R site_of L u (last R site_of L)) ≡ D.back k b
      go true f =
          let y = M.back k b h l o ∙ ap (λ c. cond c 0 B) f in
          let x = move_yes R site_of L u (last R site_of L) ((z, f), (ap suc (sym z), refl)) in
          omega arith
      go false f =
          let y = M.back k b h l o ∙ ap (λ c. cond c 0 B) f in
          move-no R site_of L u (last R site_of L) (λ v. true≢false (sym v.0.1 ∙ f)) ∙ sym y
