-- A traceback through the layers of one row is a segment that costs what the last entry says, and
-- whose cells were noted place by place: to an entry, and to the row's end. It is built from right
-- to left, on to a part that stands already.
use Rattle.std.specs.Prelude.{◌≡◌, Bool, true, false, cond, leb, eqb}
use Rattle.std.proofs.Math.Path.{refl, subst}
use Rattle.std.proofs.Common.{sym, ◌∙◌, inl, inr}
use mathlib.Core.List.{Memᴰ as In}
use Rattle.std.proofs.Math.Option.{some}
use Prim.Native.Nat.{ℕ, zero, suc, ◌+◌, ◌-◌, ◌<◌}
use native.Mathlib.Omega.{arith}
use Rattle.std.proofs.lemmas.Bool.{not-true}
use Rattle.lists.specs.Compare.{Le?, low, le?, Eq?, differs, eq?}
use Rattle.theory_row.specs.Window.{Good}
use Rattle.theory_pair.specs.Coded.{coded-some}
use Rattle.theory_pair.specs.Segment.{Line, Choice, State, last, move, SegmentListed}
use Rattle.theory_pair.proofs.Segment.{move-met}
use Rattle.theory_pair.proofs.Trace.{listed-last, listed_back}
use Rattle.theory_tables.specs.Steps.{B, Deck, state_count, marks, last_at, Layer, ends, layers, cost_end}
use Rattle.theory_tables.specs.Matched.{Matched}
use Rattle.theory_tables.specs.Back.{Source, SegmentTraced, EndTraced}
use Rattle.theory_tables.proofs.Spots.{state_of, Spot, EndCost, pose-offer, end-code}
use Rattle.theory_tables.proofs.Layers.{Right, layers-right}
use Rattle.theory_traceback.specs.Noted.{NotedAs, NotedPath}
use Rattle.theory_traceback.specs.Enter.{source-tests, entry_spot, first-move, next-move}

-- a segment whose choices P holds of, each at its place
pub record Drawn {A : Type 0} (R : ℕ) (site_of : A → ℕ) (L : Line A) (P : ℕ → Choice A → Type 0) (s : State A) (j : ℕ)
    (t : State A) (x : ℕ) : Type 0 where
  pub listed : SegmentListed R site_of L s j t x
  pub noted : NotedPath P (suc s.0) listed.path

module _ {A : Type 0} (R : ℕ) (site_of : A → ℕ) (L : Line A) (P : ℕ → Choice A → Type 0) where
  drawn-last : (u t : State A) (x : ℕ) → move R site_of L u t ≡ some x → Drawn R site_of L P u 0 t x
  unfolding listed-last
  drawn-last u t x e = record { listed = listed-last R site_of L u t x e; noted = tt }

  -- one cell more at the left end
  drawn-back : (u t : State A) (i m k j y z : ℕ) (a : A) → In a (L.options k) → L.tall k ≡ false → P i (k, a)
      → move R site_of L u (i, m, some (k, a)) ≡ some z
      → Drawn R site_of L P (i, m, some (k, a)) j t y → Drawn R site_of L P u (suc j) t (z + y)
  unfolding listed_back
  drawn-back u t i m k j y z a o e h w d =
      let v : i ≡ suc u.0 = (move-met R site_of L u (i, m, some (k, a)) z w).0.1.0 in
      record {
        listed = listed_back R site_of L u t i m k j y z a o e w d.listed;
        noted = subst (λ x. P x (k, a) × NotedPath P (suc x) d.listed.path) v (h, d.noted);
      }

-- nothing is placed after a segment's start that has all cells: the row ends there, at x
end_none : (D : Deck) (R : ℕ) (f : Layer) (i x : ℕ) → i ≡ suc D.size → cost_end D R f i x ≡ x
unfolding cost_end
end_none D R f i x e = go (leb i D.size) (eqb i (suc D.size)) (le? i D.size) (eq? i (suc D.size))
  where
    go : (t u : Bool) → Le? i D.size t → Eq? i (suc D.size) u
        → cond t (ends D R (layers D R f i (D.size - i))) (cond u x B) ≡ x
    go true u (low h) d = absurd (omega arith)
    go false true h d = refl
    go false false h (differs n) = absurd (n e)

-- ---- the traceback, for a segment that starts at s and whose first layer is f

module _ {A : Type 0} (R : ℕ) (site_of : A → ℕ) (L : Line A) (D : Deck) (pose : ℕ → ℕ → A) (offered : ℕ → ℕ → Bool)
    (M : Matched site_of L D pose offered)
    (Noted : ℕ → ℕ → ℕ → Type 0) (s : State A) (good : Good R s.1) (f : Layer)
    (right : Right R site_of L D pose offered s 0 (suc s.0) f) where
  abbrev At : ℕ → Choice A → Type 0
  At = NotedAs Noted D.poses pose

  -- the entry j layers on from f
  abbrev entry : ℕ → ℕ → ℕ → ℕ
  entry j q a = layers D R f (suc s.0) j q a

  pub traced_spot : (j e q a : ℕ) → e ≡ suc s.0 + j → q < state_count R → a < D.poses → entry j q a < B
      → Spot D R offered e q a
  traced_spot j e q a z h l u =
      entry_spot R site_of L D pose offered s j e (layers D R f (suc s.0) j)
      (layers-right R site_of L D pose offered M s f good right j e z) q a h l u

  pub traced_note : (j e q a : ℕ) → e ≡ suc s.0 + j → SegmentTraced D R Noted f (suc s.0) j q a
      → Noted e (last_at R e q) a
  traced_note zero e q a z w = let d : e ≡ suc s.0 = omega arith in rw d w
  traced_note (suc j) e q a z w = let d : e ≡ suc (suc s.0 + j) = omega arith in rw d w.0

  source-move : (j q a r b : ℕ) → q < state_count R → a < D.poses → entry (suc j) q a < B
      → Source D R Noted f (suc s.0) j q a r b
      → move R site_of L (state_of R pose (suc s.0 + j) r b) (state_of R pose (suc (suc s.0 + j)) q a)
      ≡ some (D.own (last_at R (suc (suc s.0 + j)) q) a
      + D.toll (last_at R (suc s.0 + j) r) b (last_at R (suc (suc s.0 + j)) q) a)
  source-move j q a r b h l u o =
      let i = suc s.0 + j in
      let z = o.sum in
      let n = traced_spot j i r b refl o.state o.pose (omega arith) in
      let m = traced_spot (suc j) (suc i) q a (omega arith) h l u in
      next-move R site_of L D pose offered M i r b q a n m o.source (omega arith)

  -- one cell more at the left end, from an entry
  entry-back : (u t : State A) (i q a j y z : ℕ) → Spot D R offered i q a → D.tall (last_at R i q) ≡ false
      → Noted i (last_at R i q) a
      → move R site_of L u (state_of R pose i q a) ≡ some z → Drawn R site_of L At (state_of R pose i q a) j t y
      → Drawn R site_of L At u (suc j) t (z + y)
  entry-back u t i q a j y z n e o w d =
      let k = last_at R i q in
      let x = M.size in
      let h = n.inside in
      drawn-back R site_of L At u t i (marks R q) k j y z (pose k a) (pose-offer R site_of L D pose offered M k a
      (omega arith) n.pose n.offer) (sym (M.tall k (omega arith)) ∙ e)
      record { number = a; below = n.pose; posed = refl; noted = o } w d

  -- the traceback from an entry whose cell is single, on the left of a part from there to t
  trace : (j e q a n y c x : ℕ) (t : State A) → e ≡ suc s.0 + j → q < state_count R → a < D.poses → entry j q a < B
      → D.tall (last_at R e q) ≡ false
      → SegmentTraced D R Noted f (suc s.0) j q a → c ≡ suc j + n → x ≡ entry j q a + y
      → Drawn R site_of L At (state_of R pose e q a) n t y → Drawn R site_of L At s c t x
  unfolding layers
  trace zero e q a n y c x t z h l u k w v v' d =
      let i = suc s.0 in
      let ei : e ≡ i = omega arith in
      let o = first-move R site_of L D pose offered s i f right q a h l u in
      let r =
      entry-back s t i q a n y (f q a) (traced_spot 0 i q a (omega arith) h l u) (rw ei at k) w o (rw ei at d) in
      let ec : c ≡ suc n = omega arith in
      let ex : x ≡ f q a + y = v' in
      rw (ec, ex) r
  trace (suc j) e q a n y c x t z h l u k w v v' d =
      let i = suc s.0 + j in
      let ei : e ≡ suc i = omega arith in
      let r = w.1 in
      let b = w.2 in
      let o = w.3 in
      let m = traced_spot (suc j) (suc i) q a (omega arith) h l u in
      let g = source-move j q a r b h l u o in
      let y' = D.own (last_at R (suc i) q) a + D.toll (last_at R i r) b (last_at R (suc i) q) a in
      let p = entry-back (state_of R pose i r b) t (suc i) q a n y y' m (rw ei at k) w.0 g (rw ei at d) in
      let e₁ = o.sum in
      trace j i r b (suc n) (y' + y) c x t refl o.state o.pose (omega arith)
      (not-true (D.tall (last_at R i r)) (source-tests D R i q r o.source).0) w.4 (omega arith) (omega arith) p

  -- ---- the whole segment

  -- to an entry, which is not in the path itself
  pub trace-entry : (j e q a : ℕ) → e ≡ suc s.0 + j → q < state_count R → a < D.poses → entry j q a < B
      → SegmentTraced D R Noted f (suc s.0) j q a
      → Drawn R site_of L At s j (state_of R pose e q a) (entry j q a)
  unfolding layers
  trace-entry zero e q a z h l u w =
      let ei : e ≡ suc s.0 = omega arith in
      rw ei (drawn-last R site_of L At s (state_of R pose (suc s.0) q a) (f q a)
      (first-move R site_of L D pose offered s (suc s.0) f right q a h l u))
  trace-entry (suc j) e q a z h l u w =
      let i = suc s.0 + j in
      let ei : e ≡ suc i = omega arith in
      let r = w.1 in
      let b = w.2 in
      let o = w.3 in
      let y = D.own (last_at R (suc i) q) a + D.toll (last_at R i r) b (last_at R (suc i) q) a in
      let p =
      drawn-last R site_of L At (state_of R pose i r b) (state_of R pose (suc i) q a) y (source-move j q a r b h l u o) in
      let e₁ = o.sum in
      rw ei (trace j i r b 0 y (suc j) (entry (suc j) q a) (state_of R pose (suc i) q a) refl o.state
      o.pose (omega arith)
      (not-true (D.tall (last_at R i r)) (source-tests D R i q r o.source).0) w.4 (omega arith) (omega arith) p)

  -- the move to the row's end, if it has a cost
  drawn-end : (u : State A) (x : ℕ) → u.0 ≡ L.size → EndCost R site_of L u x → x < B
      → Drawn R site_of L At u 0 (last R site_of L) x
  drawn-end u x e p h =
      let t = last R site_of L in
      drawn-last R site_of L At u t x (coded-some B x (move R site_of L u t) (p e) h)

  -- to the row's end; x is the cost of ending the row at s
  pub trace-end : (x : ℕ) → EndCost R site_of L s x → cost_end D R f (suc s.0) x < B
      → EndTraced D R Noted f (suc s.0) x
      → (j : ℕ) × Drawn R site_of L At s j (last R site_of L) (cost_end D R f (suc s.0) x)
  trace-end x p u (inl e) =
      let z = M.size in
      let v = end_none D R f (suc s.0) x e in
      (0, rw v (drawn-end s x (omega arith) p (omega arith)))
  trace-end x p u (inr (r, b, w)) =
      let n = D.size in
      let k = last_at R n r in
      let j = n - suc s.0 in
      let z = M.size in
      let g = w.room in
      let e = w.segment_cost in
      let o = traced_spot j n r b (omega arith) w.state w.pose (omega arith) in
      let h = o.inside in
      let c = end-code R site_of L D pose offered M n (marks R r) k b (omega arith) w.pose o.offer in
      let d = drawn-end (state_of R pose n r b) (D.back k b) (omega arith) c (omega arith) in (
        suc j,
        trace j n r b 0 (D.back k b) (suc j) (cost_end D R f (suc s.0) x) (last R site_of L) (omega arith) w.state
            w.pose (omega arith) w.single w.row_traced
            (omega arith) (omega arith) d,
      )
