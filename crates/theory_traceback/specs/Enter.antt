-- An entry of a row's tables that is a cost: its pose is offered, and the move into it, from the segment's start or
-- from a source in the layer before, costs what the tables add.
use Rattle.std.specs.Prelude.{◌≡◌, refl, Bool, true, false, not, ◌&&◌, cond, ℕ, suc, ◌+◌, min, ◌<◌, eqb}
use Rattle.std.proofs.Common.{sym, ap, ◌∙◌, subst, arith}
use Rattle.std.proofs.Math.Option.{some}
use Rattle.std.proofs.lemmas.Bool.{not-true}
use Rattle.theory_pair.specs.Segment.{Line, State, move}
use Rattle.theory_pair.specs.Coded.{coded-some}
use Rattle.theory_pair.specs.Loops.{entry}
use Rattle.theory_pair.proofs.Loops.{entry_first}
use Rattle.theory_tables.specs.Steps.{B, Deck, state_count, marks, before, last_at, is_there, is_source, Layer}
use Rattle.theory_tables.specs.Matched.{Matched}
use Rattle.theory_tables.proofs.States.{state-at}
use Rattle.theory_tables.proofs.Spots.{state_of, Spot, and_both, is_spot, move-code}
use Rattle.theory_tables.proofs.Layers.{Right}

-- a value guarded by a test, B if it fails, is below B only if the test holds
pub guarded : (t : Bool) (x : ℕ) → cond t x B < B → (t ≡ true) × (cond t x B ≡ x)
guarded true x h = (refl, refl)
guarded false x h = absurd (omega arith)

-- what the test of a source says of the cell and of the marks
pub source-tests : (D : Deck) (R i q r : ℕ) → is_source D R i q r ≡ true
    → (not (D.tall (last_at R i r)) ≡ true) × (eqb (marks R r) (before R q) ≡ true)
source-tests D R i q r e =
    let b = and_both (is_there D R i r) (not (D.tall (last_at R i r)) && eqb (marks R r) (before R q)) e in
    and_both (not (D.tall (last_at R i r))) (eqb (marks R r) (before R q)) b.1

-- the cell of a source is single, and its marks are those before
pub source-single : (D : Deck) (R i q r : ℕ) → is_source D R i q r ≡ true
    → (D.tall (last_at R i r) ≡ false) × (eqb (marks R r) (before R q) ≡ true)
source-single D R i q r e =
    let t = source-tests D R i q r e in
    (not-true (D.tall (last_at R i r)) t.0, t.1)

module _ {A : Type 0} (R : ℕ) (site_of : A → ℕ) (L : Line A) (D : Deck) (pose : ℕ → ℕ → A) (offered : ℕ → ℕ → Bool) where
  module _ (s : State A) (j i : ℕ) (f : Layer) (right : Right R site_of L D pose offered s j i f) (q a : ℕ)
      (h : q < state_count R) (l : a < D.poses) (u : f q a < B) where
    met : ((is_there D R i q && offered (last_at R i q) a) ≡ true)
        × (f q a ≡ entry B R site_of L s j (state_of R pose i q a))
    met =
        let e = right.segment_cost q a h l in
        let g = guarded (is_there D R i q && offered (last_at R i q) a) (entry B R site_of L s j (state_of R pose i q a))
        (subst (λ x. x < B) e u) in
        (g.0, e ∙ g.1)

    pub entry_spot : Spot D R offered i q a
    entry_spot = is_spot D R i q offered a h l met.0

  -- the move into an entry of the first layer
  pub first-move : (s : State A) (i : ℕ) (f : Layer) → Right R site_of L D pose offered s 0 i f → (q a : ℕ)
      → q < state_count R → a < D.poses → f q a < B
      → move R site_of L s (state_of R pose i q a) ≡ some (f q a)
  first-move s i f right q a h l u =
      coded-some B (f q a) (move R site_of L s (state_of R pose i q a))
      (sym ((met s 0 i f right q a h l u).1 ∙ entry_first B R site_of L s (state_of R pose i q a))) u

  -- the move into an entry from a source
  pub next-move : Matched site_of L D pose offered → (i r b q a : ℕ) → Spot D R offered i r b
      → Spot D R offered (suc i) q a → is_source D R i q r ≡ true
      → D.own (last_at R (suc i) q) a + D.toll (last_at R i r) b (last_at R (suc i) q) a < B
      → move R site_of L (state_of R pose i r b) (state_of R pose (suc i) q a)
      ≡ some (D.own (last_at R (suc i) q) a + D.toll (last_at R i r) b (last_at R (suc i) q) a)
  next-move M i r b q a n m e u =
      let x = D.own (last_at R (suc i) q) a + D.toll (last_at R i r) b (last_at R (suc i) q) a in
      let c = move-code R site_of L D pose offered M i (marks R r) (last_at R i r) b q a (state-at R r n.state).good
      n.inside n.pose n.offer m in
      let z : min x B ≡ x = omega arith in
      coded-some B x (move R site_of L (state_of R pose i r b) (state_of R pose (suc i) q a))
      (c ∙ ap (λ t. cond t (min x B) B) (source-tests D R i q r e).1 ∙ z) u
