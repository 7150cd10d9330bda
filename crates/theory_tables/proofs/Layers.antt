-- The layers of a segment have the costs of the pair theory: for each state and pose number, the least cost
-- of the way to the state that they stand for. Sources that no state stands for have no cost, so a loop
-- over states and pose numbers misses nothing.
use Rattle.std.specs.Prelude.{◌≡◌, refl, Bool, ◌&&◌}
use Rattle.std.proofs.Math.Path.{sym, ap, subst}
use Rattle.std.proofs.Common.{◌∙◌}
use mathlib.Core.List.{Memᴰ as In}
use Rattle.std.proofs.Math.Option.{some}
use Rattle.std.proofs.Math.Bool.{true, false, not, cond}
use Prim.Native.Nat.{ℕ, zero, suc, ◌+◌, ◌-◌, ◌*◌, min, ◌≤◌, ◌<◌}
use native.Mathlib.Omega.{arith}
use Rattle.std.proofs.Math.Decide.{dec_lt}
use Rattle.std.proofs.Math.Dec.{eqb}
use Rattle.std.proofs.lemmas.Bool.{not-true}
use Rattle.lists.specs.Numbers.{from, from_in}
use Rattle.theory_row.specs.Window.{start, Good}
use Rattle.theory_pair.specs.Pick.{good_marks}
use Rattle.theory_pair.proofs.Pick.{in_good_marks}
use Rattle.theory_pair.specs.Segment.{Line, State, move, first}
use Rattle.theory_pair.specs.Coded.{coded, coded-low, lowest}
use Rattle.theory_pair.specs.Loops.{entry}
use Rattle.theory_pair.proofs.Loops.{entry_first, entry_next}
use Rattle.theory_tables.specs.Steps.{B, Deck, state_count, marks, before, last_at, is_there, is_source}
use Rattle.theory_tables.specs.Steps.{Layer, via, reached, next_layer, first_after, first_open, layers}
use Rattle.theory_tables.specs.Matched.{Matched}
use Rattle.theory_tables.proofs.States.{state-at}
use Rattle.theory_tables.specs.Lowest.{lowest-member, lowest-above, loop_member, loop_above}
use Rattle.theory_tables.proofs.Spots.{state_of, Spot, and_both, both-and, cond_yes, cond_no}
use Rattle.theory_tables.proofs.Spots.{cond-and, cond-none, is-there, there-is, spot_is, is_spot}
use Rattle.theory_tables.proofs.Spots.{entry-move, pose-offer, into_spot, move-code, open_code}

-- the layer f, with i cells, is j moves on from the first move from s
pub record Right {A : Type 0} (R : ℕ) (site_of : A → ℕ) (L : Line A) (D : Deck) (pose : ℕ → ℕ → A)
    (offered : ℕ → ℕ → Bool) (s : State A) (j i : ℕ) (f : Layer) : Type 0 where
  pub placed : i ≡ s.0 + suc j
  pub segment_cost : (q a : ℕ) → q < state_count R → a < D.poses
      → f q a ≡ cond (is_there D R i q && offered (last_at R i q) a) (entry B R site_of L s j (state_of R pose i q a)) B

pub entry-low : {A : Type 0} (R : ℕ) (site_of : A → ℕ) (L : Line A) (s : State A) (j : ℕ) (t : State A)
    → entry B R site_of L s j t ≤ B
unfolding entry
entry-low R site_of L s j t = coded-low B _

module _ {A : Type 0} (R : ℕ) (site_of : A → ℕ) (L : Line A) (D : Deck) (pose : ℕ → ℕ → A) (offered : ℕ → ℕ → Bool)
    (M : Matched site_of L D pose offered) where
  -- ---- an entry by the entries of the layer before

  module _ (s : State A) (j i : ℕ) (t : State A) where
    -- by way of state q in pose b
    abbrev pub by : ℕ → ℕ → ℕ
    by q b = entry B R site_of L s j (state_of R pose i q b) + coded B (move R site_of L (state_of R pose i q b) t)

    inner : ℕ → A → ℕ → ℕ
    inner k a m = min (entry B R site_of L s j (i, m, some (k, a)) + coded B (move R site_of L (i, m, some (k, a)) t)) B

    module _ (e : i ≡ s.0 + suc j) where
      loops : entry B R site_of L s (suc j) t
          ≡ lowest B (λ k. cond (L.tall k) B (lowest B (λ a. lowest B (inner k a) (good_marks R)) (L.options k)))
          (from (i - suc R) (suc (2 * R)))
      unfolding inner
      loops = rw e (entry_next B R site_of L s j t)

      pub next-below : (q b : ℕ) → Spot D R offered i q b → L.tall (last_at R i q) ≡ false
          → entry B R site_of L s (suc j) t ≤ by q b
      unfolding inner
      next-below q b p n =
          let k = last_at R i q in
          let size = M.size in
          let l = p.low in
          let h = p.inside in
          let state = state-at R q p.state in
          let far = state.far in
          let a = pose k b in
          let x = lowest-member B (inner k a) (good_marks R) ((in_good_marks R (marks R q)).1 state.good) in
          let y = lowest-member B (λ a. lowest B (inner k a) (good_marks R)) (L.options k)
          (pose-offer R site_of L D pose offered M k b (omega arith) p.pose p.offer) in
          let z =
          lowest-member B (λ k. cond (L.tall k) B (lowest B (λ a. lowest B (inner k a) (good_marks R)) (L.options k)))
          (from (i - suc R) (suc (2 * R))) (from_in k (i - suc R) (suc (2 * R)) (omega arith) (omega arith)) in
          let w = cond_no B (lowest B (λ a. lowest B (inner k a) (good_marks R)) (L.options k)) n in
          omega (arith, loops)

      pub next-above : Good R s.1 → (x : ℕ) → x ≤ B
          → ((q b : ℕ) → Spot D R offered i q b → L.tall (last_at R i q) ≡ false → x ≤ by q b)
          → x ≤ entry B R site_of L s (suc j) t
      unfolding inner
      next-above g x c f = rw loops (
          lowest-above B _ x (from (i - suc R) (suc (2 * R))) c (λ k m₀. single k (L.tall k) refl))
        where
          from-state : (k m : ℕ) (a : A) → In a (L.options k) → L.tall k ≡ false
              → Dec (entry B R site_of L s j (i, m, some (k, a)) < B) → x ≤ inner k a m
          from-state k m a o n (yes h) =
              let v = entry-move R site_of L s g j (i, m, some (k, a)) h in
              let r = into_spot R site_of L D pose offered M v.0 i m k a v.1 v.2 o in
              let y = f r.0 r.1 r.2 (ap L.tall (sym r.3) ∙ n) in
              let z = ap (λ u. entry B R site_of L s j u + coded B (move R site_of L u t)) r.4 in
              omega arith
          from-state k m a o n (no h) = omega arith

          single : (k : ℕ) (b : Bool) → L.tall k ≡ b
              → x ≤ cond b B (lowest B (λ a. lowest B (inner k a) (good_marks R)) (L.options k))
          single k true n = c
          single k false n =
              lowest-above B _ x (L.options k) c (λ a o. lowest-above B _ x (good_marks R) c
              (λ m m₁. from-state k m a o n (dec_lt (entry B R site_of L s j (i, m, some (k, a))) B)))

  -- ---- layers

  abbrev Is : State A → ℕ → ℕ → Layer → Type 0
  Is s j i f = Right R site_of L D pose offered s j i f

  -- a layer that has no cost where the row has no such cell or the deck does
  -- not offer the pose, and the entry elsewhere
  right_by : (s : State A) (j i : ℕ) (f w : Layer) → i ≡ s.0 + suc j
      → ((q a : ℕ) → f q a ≡ cond (is_there D R i q) (w q a) B)
      → ((q a : ℕ) → Spot D R offered i q a → w q a ≡ entry B R site_of L s j (state_of R pose i q a))
      → ((q a : ℕ) → D.own (last_at R i q) a ≡ B → w q a ≡ B) → Is s j i f
  right_by s j i f w e f-is w-is w-none = record {
    placed = e;
    segment_cost = λ q a h l. f-is q a ∙ go q a h l (is_there D R i q) (offered (last_at R i q) a) refl refl;
  }
    where
      go : (q a : ℕ) → q < state_count R → a < D.poses → (t o : Bool) → is_there D R i q ≡ t
          → offered (last_at R i q) a ≡ o
          → cond t (w q a) B ≡ cond (t && o) (entry B R site_of L s j (state_of R pose i q a)) B
      go q a h l true true z y = w-is q a (is_spot D R i q offered a h l (both-and z y))
      go q a h l true false z y =
          let k = last_at R i q in
          let size = M.size in
          let x = (there-is D R i q z).1 in
          w-none q a (M.own k a (omega arith) l ∙ cond_no _ _ y)
      go q a h l false o z y = refl

  -- the first layer after a cell placed
  pub after-right : (i m k b : ℕ) → Good R m → k < D.size → b < D.poses → offered k b ≡ true
      → Is (i, m, some (k, pose k b)) 0 (suc i) (first_after D R i m k b)
  unfolding first_after
  after-right i m k b g h l o =
      right_by s 0 (suc i) (first_after D R i m k b) w (omega arith)
      (λ q a. cond-and (is_there D R (suc i) q) (eqb m (before R q)) (sum q a))
      (λ q a p. sym (entry_first B R site_of L s (state_of R pose (suc i) q a)
      ∙ move-code R site_of L D pose offered M i m k b q a g h l o p))
      (λ q a z. cond-none (eqb m (before R q)) (sum q a) (omega arith))
    where
      s : State A
      s = (i, m, some (k, pose k b))

      sum : Layer
      sum q a = min (D.own (last_at R (suc i) q) a + D.toll k b (last_at R (suc i) q) a) B

      w : Layer
      w q a = cond (eqb m (before R q)) (sum q a) B

  -- the first layer of a row
  pub open_right : Is (first R site_of L) 0 1 (first_open D R)
  unfolding first_open
  open_right =
      right_by s 0 1 (first_open D R) w (omega arith)
      (λ q a. cond-and (is_there D R 1 q) (eqb (start R) (before R q)) (sum q a))
      (λ q a p. sym (entry_first B R site_of L s (state_of R pose 1 q a) ∙ open_code R site_of L D pose offered M q a p))
      (λ q a z. cond-none (eqb (start R) (before R q)) (sum q a) (omega arith))
    where
      s : State A
      s = first R site_of L

      sum : Layer
      sum q a = min (D.own (last_at R 1 q) a + D.front (last_at R 1 q) a) B

      w : Layer
      w q a = cond (eqb (start R) (before R q)) (sum q a) B

  -- ---- one layer more

  module _ (s : State A) (j i : ℕ) (f : Layer) (r : Is s j i f) where
    pub right-at : (q a : ℕ) → Spot D R offered i q a → f q a ≡ entry B R site_of L s j (state_of R pose i q a)
    right-at q a p = r.segment_cost q a p.state p.pose ∙ cond_yes _ _ (spot_is D R i q offered a p)

    pub right-none : (q a : ℕ) → q < state_count R → a < D.poses
        → (is_there D R i q && offered (last_at R i q) a) ≡ false → f q a ≡ B
    right-none q a h l e = r.segment_cost q a h l ∙ cond_no _ _ e

    module _ (g : Good R s.1) (q a : ℕ) (p : Spot D R offered (suc i) q a) where
      abbrev to : ℕ
      to = last_at R (suc i) q

      abbrev goal : State A
      goal = state_of R pose (suc i) q a

      -- the code of the move from a spot of the layer
      on : (q' b : ℕ) → Spot D R offered i q' b
          → coded B (move R site_of L (state_of R pose i q' b) goal)
          ≡ cond (eqb (marks R q') (before R q)) (min (D.own to a + D.toll (last_at R i q') b to a) B) B
      on q' b p' = move-code R site_of L D pose offered M i (marks R q') (last_at R i q') b q a
          (state-at R q' p'.state).good p'.inside p'.pose p'.offer p

      least-low : min (D.own to a + reached D R f i q a) B ≤ entry B R site_of L s (suc j) goal
      unfolding reached via
      least-low = next-above s j i goal r.placed g _ (omega arith)
          (λ q' b p' n. go q' b p' n (eqb (marks R q') (before R q)) refl)
        where
          go : (q' b : ℕ) → Spot D R offered i q' b → L.tall (last_at R i q') ≡ false → (t : Bool)
              → eqb (marks R q') (before R q) ≡ t → min (D.own to a + reached D R f i q a) B ≤ by s j i goal q' b
          go q' b p' n true e =
              let size = M.size in
              let h = p'.inside in
              let k = last_at R i q' in
              let single : D.tall k ≡ false = M.tall k (omega arith) ∙ n in
              let x : ℕ → ℕ = λ q'. cond (is_source D R i q q') (via D R f i q' to a) B in
              let y : is_source D R i q q' ≡ true =
              both-and (is-there D R i q' p'.low h) (both-and (ap not single) e) in
              let z₀ = loop_member B x (state_count R) q' p'.state in
              let z₁ : x q' ≡ via D R f i q' to a = cond_yes _ _ y in
              let z₂ = loop_member B (λ b. f q' b + D.toll k b to a) D.poses b p'.pose in
              let c = on q' b p' ∙ cond_yes _ _ e in
              let z₃ = right-at q' b p' in
              omega arith
          go q' b p' n false e =
              let c = on q' b p' ∙ cond_no _ _ e in
              omega arith

      least-high : entry B R site_of L s (suc j) goal ≤ min (D.own to a + reached D R f i q a) B
      unfolding reached via
      least-high =
          let c = entry-low R site_of L s (suc j) goal in
          let z = loop_above B (λ q'. cond (is_source D R i q q') (via D R f i q' to a) B) (state_count R) x (omega arith)
          (λ q' h. go q' h (is_source D R i q q') refl) in
          omega arith
        where
          x : ℕ
          x = entry B R site_of L s (suc j) goal - D.own to a

          at : (q' : ℕ) → q' < state_count R → is_source D R i q q' ≡ true → (b : ℕ) → b < D.poses → (t : Bool)
              → (is_there D R i q' && offered (last_at R i q') b) ≡ t
              → x ≤ f q' b + D.toll (last_at R i q') b to a
          at q' h e b l true z =
              let k = last_at R i q' in
              let p' = is_spot D R i q' offered b h l z in
              let e₀ = and_both (is_there D R i q') (not (D.tall k) && eqb (marks R q') (before R q)) e in
              let e₁ = and_both (not (D.tall k)) (eqb (marks R q') (before R q)) e₀.1 in
              let size = M.size in
              let i₀ = p'.inside in
              let single : L.tall k ≡ false = sym (M.tall k (omega arith)) ∙ not-true (D.tall k) e₁.0 in
              let y = next-below s j i goal r.placed q' b p' single in
              let c₀ = on q' b p' ∙ cond_yes _ _ e₁.1 in
              let c₁ = right-at q' b p' in
              omega arith
          at q' h e b l false z =
              let y = right-none q' b h l z in
              let c = entry-low R site_of L s (suc j) goal in
              omega arith

          go : (q' : ℕ) → q' < state_count R → (t : Bool) → is_source D R i q q' ≡ t → x ≤ cond t (via D R f i q' to a) B
          go q' h true e =
              let c = entry-low R site_of L s (suc j) goal in
              loop_above B (λ b. f q' b + D.toll (last_at R i q') b to a) D.poses x (omega arith)
              (λ b l. at q' h e b l (is_there D R i q' && offered (last_at R i q') b) refl)
          go q' h false e = let c = entry-low R site_of L s (suc j) goal in omega arith

  pub right-next : (s : State A) (j i : ℕ) (f : Layer) → Is s j i f → Good R s.1
      → Is s (suc j) (suc i) (next_layer D R f i)
  unfolding next_layer
  right-next s j i f r g =
      let e = r.placed in
      right_by s (suc j) (suc i) (next_layer D R f i) w (omega arith) (λ q a. refl)
      (λ q a p. let lo = least-low s j i f r g q a p in let hi = least-high s j i f r g q a p in omega arith)
      (λ q a z. omega arith)
    where
      w : Layer
      w q a = min (D.own (last_at R (suc i) q) a + reached D R f i q a) B

  -- all layers on from the first one
  pub layers-right : (s : State A) (f : Layer) → Good R s.1 → Is s 0 (suc s.0) f → (j n : ℕ) → n ≡ suc s.0 + j
      → Is s j n (layers D R f (suc s.0) j)
  unfolding layers
  layers-right s f g r zero n e = let z : suc s.0 ≡ n = omega arith in subst (λ x. Is s 0 x f) z r
  layers-right s f g r (suc j) n e =
      let z : suc (suc s.0 + j) ≡ n = omega arith in
      subst (λ x. Is s (suc j) x (next_layer D R (layers D R f (suc s.0) j) (suc s.0 + j))) z
      (right-next s j (suc s.0 + j) (layers D R f (suc s.0) j) (layers-right s f g r j (suc s.0 + j) refl) g)
