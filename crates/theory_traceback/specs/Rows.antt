-- One row, stage by stage: what the traceback left of a stage is a segment from the stage's start to its tall cell, or
-- to the row's end; and the segments up to a stage are a path whose cells were noted place by place.
use Rattle.std.specs.Prelude.{◌≡◌, refl, Bool, true, false, ◌&&◌, cond, length, leb, ltb, eqb}
use Rattle.std.proofs.Common.{sym, lt-ltb}
use Rattle.std.proofs.Math.Path.{subst}
use mathlib.Core.List.{List, [], ◌∷◌, ◌++◌, Memᴰ as In}
use Rattle.std.proofs.Math.Option.{some}
use Prim.Native.Nat.{ℕ, suc, ◌+◌, ◌-◌, ◌≤◌, ◌<◌}
use native.Mathlib.Omega.{arith}
use Rattle.std.proofs.Math.ListN.{length-append}
use Rattle.lists.specs.Compare.{Le?, low, high, le?}
use Rattle.theory_row.specs.Window.{Good}
use Rattle.theory_row.proofs.Window.{good_start}
use Rattle.theory_pair.specs.Segment.{Line, Choice, State, first, last, after}
use Rattle.theory_pair.proofs.Segment.{after-size}
use Rattle.theory_pair.specs.Cut.{Upto}
use Rattle.theory_pair.proofs.Cut.{upto_begin, upto-on}
use Rattle.theory_pair.specs.Pair.{Talls}
use Rattle.theory_tables.specs.Steps.{B, Deck, state_count, offset, marks, last_at, Layer}
use Rattle.theory_tables.specs.Steps.{layers, first_after, first_open, cost_to, cost_end}
use Rattle.theory_tables.specs.Stages.{placed_with, stage_end, open_cost, stage_cost}
use Rattle.theory_tables.specs.Matched.{Matched}
use Rattle.theory_tables.specs.Back.{SegmentTraced, StageTraced}
use Rattle.theory_tables.proofs.States.{state-at}
use Rattle.theory_tables.proofs.Spots.{EndCost, open_end, pose-offer, end-code}
use Rattle.theory_tables.proofs.Layers.{Right, open_right, after-right}
use Rattle.theory_traceback.specs.Noted.{NotedAs, NotedPath, noted_append}
use Rattle.theory_traceback.specs.Enter.{guarded}
use Rattle.theory_traceback.specs.Segments.{Drawn, traced_spot, traced_note, trace-entry, trace-end}

-- a row of the search: the row that its deck stands for, and where its tall cells are
pub record RowWithTalls {A : Type 0} (site_of : A → ℕ) (talls : ℕ) : Type 0 where
  pub line : Line A
  pub deck : Deck
  pub pose : ℕ → ℕ → A
  pub offered : ℕ → ℕ → Bool
  pub matched : Matched site_of line deck pose offered
  pub pos : ℕ → ℕ
  pub stands : Talls line talls pos

-- a path of n cells from the row's start to t, whose choices P holds of, each at its place
pub record PathWritten {A : Type 0} (R : ℕ) (site_of : A → ℕ) (L : Line A) (P : ℕ → Choice A → Type 0) (t : State A)
    (ts : List (Choice A)) (n x : ℕ) : Type 0 where
  pub upto : Upto R site_of L t ts x
  pub size : length upto.path ≡ n
  pub noted : NotedPath P 1 upto.path

module _ {A : Type 0} (R : ℕ) (site_of : A → ℕ) (L : Line A) (P : ℕ → Choice A → Type 0) where
  written_begin : (j : ℕ) (t : State A) (x : ℕ) → Drawn R site_of L P (first R site_of L) j t x
      → PathWritten R site_of L P t [] j x
  unfolding upto_begin
  written_begin j t x d =
      record { upto = upto_begin R site_of L j t x d.listed; size = d.listed.size; noted = d.noted }

  -- the place of the cell that a path leads to
  written-place : (i m : ℕ) (c : Choice A) (ts : List (Choice A)) (n x : ℕ)
      → PathWritten R site_of L P (i, m, some c) ts n x → i ≡ suc n
  written-place i m c ts n x w =
      let z : i ≡ suc (after R site_of L (first R site_of L) w.upto.path).0 = w.upto.move.0.1.0 in
      let y = after-size R site_of L (first R site_of L) w.upto.path in
      let e = w.size in
      omega arith

  -- on to a tall cell and over one segment more
  written_on : (i m k j : ℕ) (a : A) (ts : List (Choice A)) (n x y : ℕ) (t : State A)
      → PathWritten R site_of L P (i, m, some (k, a)) ts n x → In a (L.options k) → L.tall k ≡ true → P i (k, a)
      → Drawn R site_of L P (i, m, some (k, a)) j t y → PathWritten R site_of L P t (ts ++ ((k, a) ∷ [])) (i + j) (x + y)
  unfolding upto-on
  written_on i m k j a ts n x y t w o e h d =
      let p = w.upto.path in
      let q : List (Choice A) = (k, a) ∷ d.listed.path in
      let z = written-place i m (k, a) ts n x w in
      let e₀ = w.size in
      let e₁ = d.listed.size in
      let e₂ = length-append p q in
      record {
        upto = upto-on R site_of L i m k j a ts x y t w.upto o e d.listed;
        size = omega arith;
        noted = noted_append P 1 i p q (omega arith) w.noted (h, d.noted);
      }

module _ {A : Type 0} (R : ℕ) (site_of : A → ℕ) (talls : ℕ) (W : RowWithTalls site_of talls) where
  -- tall cell I as state q in pose a
  abbrev pub stood : ℕ → ℕ → ℕ → State A
  stood I q a = (placed_with R (W.pos I) q, marks R q, some (W.pos I, W.pose (W.pos I) a))

  -- where stage I ends: there, or at the row's end
  abbrev pub goal : ℕ → ℕ → ℕ → State A
  goal I q a = cond (ltb I talls) (stood I q a) (last R site_of W.line)

  -- state q and pose a are numbers of the tables, if stage I ends at a tall cell
  abbrev pub Within : ℕ → ℕ → ℕ → Type 0
  Within I q a = I < talls → (q < state_count R) × (a < W.deck.poses)

module _ {A : Type 0} (R : ℕ) (site_of : A → ℕ) (talls : ℕ) (W : RowWithTalls site_of talls)
    (Noted : ℕ → ℕ → ℕ → Type 0) where
  -- how a choice of the row was noted
  abbrev pub At : ℕ → Choice A → Type 0
  At = NotedAs Noted W.deck.poses W.pose

  -- tall cell I stands as state q in pose a, which is offered, and was noted
  pub record Stood (I q a : ℕ) : Type 0 where
    pub offer : W.offered (W.pos I) a ≡ true
    pub noted : Noted (placed_with R (W.pos I) q) (W.pos I) a

  pub record StagedFrom (s : State A) (I q a x : ℕ) : Type 0 where
    pub size : ℕ
    pub drawn : Drawn R site_of W.line At s size (goal R site_of talls W I q a) x
    pub stood : I < talls → Stood I q a

  -- ---- a stage from s, whose first layer is f

  module _ (s : State A) (good : Good R s.1) (f : Layer)
      (right : Right R site_of W.line W.deck W.pose W.offered s 0 (suc s.0) f) where
    abbrev D : Deck
    D = W.deck

    to-tall : (I q a : ℕ) → q < state_count R → a < D.poses → cost_to D R f (suc s.0) (W.pos I) q a < B
        → (suc s.0 + offset R q ≤ W.pos I + suc R)
        × SegmentTraced D R Noted f (suc s.0) (W.pos I + suc R - offset R q - suc s.0) q a
        → (j : ℕ) × Drawn R site_of W.line At s j (stood R site_of talls W I q a)
        (cost_to D R f (suc s.0) (W.pos I) q a) × Stood I q a
    unfolding cost_to
    to-tall I q a h l u w =
        let e = placed_with R (W.pos I) q in
        let j = W.pos I + suc R - offset R q - suc s.0 in
        let g = guarded (leb (suc s.0 + offset R q) (W.pos I + suc R)) (layers D R f (suc s.0) j q a) u in
        let v = g.1 in
        let k : last_at R e q ≡ W.pos I = omega arith in
        let z : e ≡ suc s.0 + j = omega arith in
        let b : layers D R f (suc s.0) j q a < B = omega arith in
        let d = trace-entry R site_of W.line D W.pose W.offered
        W.matched Noted s good f right j e q a z h l b w.1 in
        let n =
        traced_spot R site_of W.line D W.pose W.offered W.matched Noted s good f right j e q a z h l b in
        let o =
        traced_note R site_of W.line D W.pose W.offered W.matched Noted s good f right j e q a z w.1 in (
          j,
          subst (λ x. Drawn R site_of W.line At s j (stood R site_of talls W I q a) x) (sym v)
              (subst (λ x. Drawn R site_of W.line At s j (e, marks R q, some (x, W.pose x a))
              (layers D R f (suc s.0) j q a)) k d),
          record { offer = subst (λ x. W.offered x a ≡ true) k n.offer; noted = subst (λ x. Noted e x a) k o },
        )

    -- e is the cost of ending the row at s
    pub stage-drawn : (I e q a : ℕ) → Within R site_of talls W I q a → EndCost R site_of W.line s e
        → stage_end D R talls W.pos I f (suc s.0) e q a < B
        → StageTraced D R talls W.pos Noted I f (suc s.0) e q a
        → StagedFrom s I q a (stage_end D R talls W.pos I f (suc s.0) e q a)
    unfolding stage_end
    stage-drawn I e q a h p u w =
        let r = go (ltb I talls) (le? (suc I) talls) u in
        record { size = r.0; drawn = r.1; stood = r.2 }
      where
        x₀ : ℕ
        x₀ = cost_to D R f (suc s.0) (W.pos I) q a

        x₁ : ℕ
        x₁ = cost_end D R f (suc s.0) e

        go : (t : Bool) → Le? (suc I) talls t → cond t x₀ (cond (eqb q 0 && eqb a 0) x₁ B) < B
            → (j : ℕ) × Drawn R site_of W.line At s j (cond t (stood R site_of talls W I q a)
            (last R site_of W.line)) (cond t x₀ (cond (eqb q 0 && eqb a 0) x₁ B)) × (I < talls → Stood I q a)
        go true (low b) v = let r = to-tall I q a (h b).0 (h b).1 v (w.to_tall b) in (r.0, r.1, λ l. r.2)
        go false (high b) v =
            let g = guarded (eqb q 0 && eqb a 0) x₁ v in
            let z = g.1 in
            let r = trace-end R site_of W.line D W.pose W.offered W.matched Noted s good f right e p
            (omega arith) (w.to_the_end (omega arith)) in (
              r.0,
              subst (λ x. Drawn R site_of W.line At s r.0 (last R site_of W.line) x) (sym z) r.1,
              λ l. absurd (omega arith),
            )

  -- ---- the stages up to stage I

  pub record RowTo (I q a : ℕ) (ts : List (Choice A)) (n x : ℕ) : Type 0 where
    pub written : PathWritten R site_of W.line At (goal R site_of talls W I q a) ts n x
    pub stood : I < talls → Stood I q a

  pub row_begin : (q a : ℕ) → Within R site_of talls W 0 q a → open_cost W.deck R talls W.pos q a < B
      → StageTraced W.deck R talls W.pos Noted 0 (first_open W.deck R) 1 0 q a
      → (n : ℕ) × RowTo 0 q a [] n (open_cost W.deck R talls W.pos q a)
  unfolding open_cost
  row_begin q a h u w =
      let s = first R site_of W.line in
      let r = stage-drawn s (good_start R) (first_open W.deck R)
      (open_right R site_of W.line W.deck W.pose W.offered W.matched) 0 0 q a h
      (open_end R site_of W.line) u w in (
        r.size,
        record {
          written = written_begin R site_of W.line At r.size (goal R site_of talls W 0 q a)
              (open_cost W.deck R talls W.pos q a) r.drawn;
          stood = r.stood;
        },
      )

  -- over tall cell I, which stands at place n + 1, and stage I + 1
  pub row_on : (I r l q a : ℕ) (ts : List (Choice A)) (n x : ℕ) → I < talls → r < state_count R → l < W.deck.poses
      → Within R site_of talls W (suc I) q a → RowTo I r l ts n x
      → stage_cost W.deck R talls W.pos I r l q a < B
      → StageTraced W.deck R talls W.pos Noted (suc I)
      (first_after W.deck R (placed_with R (W.pos I) r) (marks R r) (W.pos I) l) (suc (placed_with R (W.pos I) r))
      (W.deck.back (W.pos I) l) q a
      → (placed_with R (W.pos I) r ≡ suc n) × (j : ℕ) × RowTo (suc I) q a
      (ts ++ ((W.pos I, W.pose (W.pos I) l) ∷ [])) (suc n + j) (x + stage_cost W.deck R talls W.pos I r l q a)
  unfolding stage_cost
  row_on I r l q a ts n x b v h g p u w =
      let i = placed_with R (W.pos I) r in
      let m = marks R r in
      let k = W.pos I in
      let z = W.matched.size in
      let e = W.stands.inside I b in
      let c = p.stood b in
      let good = (state-at R r v).good in
      let right = after-right R site_of W.line W.deck W.pose W.offered W.matched i m k l good
      (omega arith) h c.offer in
      let ending =
      end-code R site_of W.line W.deck W.pose W.offered W.matched i m k l (omega arith) h c.offer in
      let d = stage-drawn (stood R site_of talls W I r l) good (first_after W.deck R i m k l) right (suc I)
      (W.deck.back k l) q a g ending u w in
      let y : PathWritten R site_of W.line At (stood R site_of talls W I r l) ts n x =
      subst (λ t. PathWritten R site_of W.line At
      (cond t (stood R site_of talls W I r l) (last R site_of W.line)) ts n x) (lt-ltb I talls b) p.written in
      let here = written-place R site_of W.line At i m (k, W.pose k l) ts n x y in
      let segment_cost = stage_cost W.deck R talls W.pos I r l q a in
      let r =
      written_on R site_of W.line At i m k d.size (W.pose k l) ts n x segment_cost
      (goal R site_of talls W (suc I) q a) y
      (pose-offer R site_of W.line W.deck W.pose W.offered W.matched k l (omega arith) h c.offer)
      (W.stands.tall I b)
      record { number = l; below = h; posed = refl; noted = c.noted } d.drawn in (
        here,
        d.size,
        record {
          written = subst (λ e. PathWritten R site_of W.line At (goal R site_of talls W (suc I) q a)
              (ts ++ ((k, W.pose k l) ∷ [])) (e + d.size) (x + segment_cost)) here r;
          stood = d.stood;
        },
      )
