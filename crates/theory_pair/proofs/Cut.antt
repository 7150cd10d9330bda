-- Theorems on the definitions of specs/Cut.
-- One row and its tall cells: a path is cut at a tall cell, and a path up to a state is taken further over one.
use Rattle.std.proofs.Math.Path.{◌≡◌, refl, ap}
use Rattle.std.proofs.Common.{sym, ap₂, ◌∙◌, subst, arith}
use mathlib.Core.List.{List, [], ◌∷◌, ◌++◌, Memᴰ as In}
use Rattle.std.proofs.Math.Option.{some}
use Rattle.std.specs.Prelude.{Bool, ℕ, suc, ◌+◌, ◌-◌, length}
use Rattle.std.proofs.Math.Bool.{true, false, cond}
use Rattle.theory_row.specs.Window.{step, Good}
use Rattle.theory_row.proofs.Window.{good-step}
use Rattle.theory_pair.specs.Segment.{Line, Choice, State, Goes, Done, next, first, last, cost}
use Rattle.theory_pair.specs.Segment.{charge, after, Move, Way}
use Rattle.theory_pair.specs.Segment.{Plain, SegmentListed}
use Rattle.theory_pair.proofs.Segment.{segment-list, list-way, next-move, goes_append}
use Rattle.theory_pair.proofs.Segment.{goes-good, after_append, cost_append}
use Rattle.theory_pair.specs.Whole.{tall_of, picks}
use Rattle.theory_pair.specs.Cut as defs

-- ---- one row: its tall ones in a list

module _ {A : Type 0} (L : Line A) where
  pub none-plain : (p : List (Choice A)) → tall_of L p ≡ [] → Plain 0 (λ a. 0) L p
  unfolding tall_of
  none-plain [] e = tt
  none-plain (c ∷ p) e = go (L.tall c.0) refl e (none-plain p)
    where
      go : (t : Bool) → L.tall c.0 ≡ t → cond t (c ∷ tall_of L p) (tall_of L p) ≡ []
          → (tall_of L p ≡ [] → Plain 0 (λ a. 0) L p) → (L.tall c.0 ≡ false) × Plain 0 (λ a. 0) L p
      go true z e f = absurd (let y : ◌≡◌ {A = ℕ} 0 1 = cc in omega arith)
      go false z e f = (z, f e)

  pub plain-none : (p : List (Choice A)) → Plain 0 (λ a. 0) L p → tall_of L p ≡ []
  unfolding tall_of
  plain-none [] h = refl
  plain-none (c ∷ p) h = ap (λ t. cond t (c ∷ tall_of L p) (tall_of L p)) h.0 ∙ plain-none p h.1

  pub tall_of_append : (p q : List (Choice A)) → tall_of L (p ++ q) ≡ tall_of L p ++ tall_of L q
  unfolding tall_of
  tall_of_append [] q = refl
  tall_of_append (c ∷ p) q = go (L.tall c.0) (tall_of_append p q)
    where
      go : (t : Bool) → tall_of L (p ++ q) ≡ tall_of L p ++ tall_of L q
          → cond t (c ∷ tall_of L (p ++ q)) (tall_of L (p ++ q)) ≡ cond t (c ∷ tall_of L p) (tall_of L p) ++ tall_of L q
      go true e = ap (λ x. c ∷ x) e
      go false e = e

  pub tall_of-one : (c : Choice A) (q : List (Choice A)) → L.tall c.0 ≡ true → Plain 0 (λ a. 0) L q
      → tall_of L (c ∷ q) ≡ c ∷ []
  unfolding tall_of
  tall_of-one c q e h = ap (λ t. cond t (c ∷ tall_of L q) (tall_of L q)) e ∙ ap (λ x. c ∷ x) (plain-none q h)

  record Split (p : List (Choice A)) (c : Choice A) (ts : List (Choice A)) : Type 0 where
    before : List (Choice A)
    beyond : List (Choice A)
    whole : p ≡ before ++ (c ∷ beyond)
    plain : Plain 0 (λ a. 0) L before
    talls : tall_of L beyond ≡ ts

  split : (p : List (Choice A)) (c : Choice A) (ts : List (Choice A)) → tall_of L p ≡ c ∷ ts → Split p c ts
  unfolding tall_of
  split [] c ts e = absurd (let y : ◌≡◌ {A = ℕ} 0 1 = cc in omega arith)
  split (x ∷ p) c ts e = go (L.tall x.0) refl e (split p c ts)
    where
      go : (t : Bool) → L.tall x.0 ≡ t → cond t (x ∷ tall_of L p) (tall_of L p) ≡ c ∷ ts
          → (tall_of L p ≡ c ∷ ts → Split p c ts) → Split (x ∷ p) c ts
      go true z e f =
          let h : x ≡ c = cc in
          record { before = []; beyond = p; whole = ap (λ y. y ∷ p) h; plain = tt; talls = cc }
      go false z e f =
          let r = f e in
          record {
            before = x ∷ r.before;
            beyond = r.beyond;
            whole = ap (λ y. x ∷ y) r.whole;
            plain = (z, r.plain);
            talls = r.talls;
          }

pub picks_snoc : {A : Type 0} (pos : ℕ → ℕ) (i j : ℕ) (ps : List A) (a : A) → j ≡ i + length ps
    → picks pos i (ps ++ (a ∷ [])) ≡ picks pos i ps ++ ((pos j, a) ∷ [])
unfolding picks
picks_snoc pos i j [] a e = let z : i ≡ j = omega arith in ap (λ x. (pos x, a) ∷ []) z
picks_snoc pos i j (p ∷ ps) a e = ap (λ x. (pos i, p) ∷ x) (picks_snoc pos (suc i) j ps a (omega arith))

-- ---- one row: cut at a tall cell, and joined there

module _ {A : Type 0} (R : ℕ) (site_of : A → ℕ) (L : Line A) where
  abbrev Cut : (s : State A) (p : List (Choice A)) (k : ℕ) (a : A) (ts : List (Choice A)) → Type 0
  Cut = defs.Cut R site_of L

  abbrev Upto : (t : State A) (ts : List (Choice A)) (x : ℕ) → Type 0
  Upto = defs.Upto R site_of L

  cut_at : (s : State A) (q r : List (Choice A)) (k : ℕ) (a : A) (ts : List (Choice A)) → Good R s.1
      → Plain R site_of L q → tall_of L r ≡ ts
      → Goes R site_of L s (q ++ ((k, a) ∷ r)) → Cut s (q ++ ((k, a) ∷ r)) k a ts
  cut_at s q r k a ts h p e g =
      let c : Choice A = (k, a) in
      let b = (goes_append R site_of L s q (c ∷ r)).0 g in
      let u = after R site_of L s q in
      let v = next R site_of L u c in
      let may = b.1.0.0 in
      let lo = may.low in
      let hi = may.high in
      let z = cost_append R site_of L s q (c ∷ r) in
      record {
        place = suc u.0;
        marks = step R u.0 u.1 k;
        rest = r;
        cost_if = cost R site_of L s q + charge R site_of L u c;
        way = list-way R site_of L s h q p b.0 v (charge R site_of L u c) (cost R site_of L s q + charge R site_of L u c)
            (next-move R site_of L u c b.1.0) refl refl;
        goes = b.1.2;
        talls = e;
        good = good-step R L.size u.0 u.1 k (goes-good R site_of L s q h b.0) may;
        low = omega arith;
        high = omega arith;
        sum = omega arith;
        ends = sym (after_append R site_of L s q (c ∷ r));
        offered = b.1.1;
      }

  pub row_cut : (s : State A) (p : List (Choice A)) (k : ℕ) (a : A) (ts : List (Choice A)) → Good R s.1
      → Goes R site_of L s p → tall_of L p ≡ (k, a) ∷ ts → Cut s p k a ts
  row_cut s p k a ts h g e =
      let r = split L p (k, a) ts e in
      subst (λ x. Cut s x k a ts) (sym r.whole)
      (cut_at s r.before r.beyond k a ts h r.plain r.talls (subst (λ x. Goes R site_of L s x) r.whole g))

  -- a path with no tall cell, to the row's end
  pub row-end : (s : State A) (p : List (Choice A)) → Good R s.1 → Goes R site_of L s p → tall_of L p ≡ []
      → Done R site_of L (after R site_of L s p)
      → Way R site_of L s (last R site_of L) (cost R site_of L s p)
  row-end s p h g e d =
      let z = d.0 in
      list-way R site_of L s h p (none-plain L p e) g (last R site_of L) 0 (cost R site_of L s p)
      ((d, (omega arith, refl)), refl) (omega arith) (omega arith)

  -- the first segment of a row, as a path
  unfoldable pub upto_begin : (j : ℕ) (t : State A) (x : ℕ) → SegmentListed R site_of L (first R site_of L) j t x
      → Upto t [] x
  upto_begin j t x l = record {
    path = l.path;
    goes = l.goes;
    talls = plain-none L l.path l.plain;
    toll = l.toll;
    move = l.move;
    sum = l.sum;
  }

  -- a path, on to a tall cell and over one segment more
  unfoldable pub upto-on : (i m k j : ℕ) (a : A) (ts : List (Choice A)) (x y : ℕ) (t : State A)
      → Upto (i, m, some (k, a)) ts x → In a (L.options k) → L.tall k ≡ true
      → SegmentListed R site_of L (i, m, some (k, a)) j t y → Upto t (ts ++ ((k, a) ∷ [])) (x + y)
  upto-on i m k j a ts x y t u o e l =
      let c : Choice A = (k, a) in
      let f = first R site_of L in
      let v = after R site_of L f u.path in
      let p = l.path in
      let same : ◌≡◌ {A = State A} (i, m, some c) (next R site_of L v c) =
      ap₂ (λ f g. (f, g, some c)) u.move.0.1.0 u.move.0.1.1 in
      let e₁ = cost_append R site_of L f u.path (c ∷ p) in
      let e₂ = u.sum in
      let e₃ = l.sum in
      let e₄ = u.move.1 in
      let e₅ : cost R site_of L (i, m, some c) p ≡ cost R site_of L (next R site_of L v c) p =
      ap (λ s. cost R site_of L s p) same in
      record {
        path = u.path ++ (c ∷ p);
        goes = (goes_append R site_of L f u.path (c ∷ p)).1
            (u.goes, (u.move.0.0, o, subst (λ s. Goes R site_of L s p) same l.goes));
        talls = tall_of_append L u.path (c ∷ p) ∙ ap₂ ◌++◌ u.talls (tall_of-one L c p e l.plain);
        toll = l.toll;
        move = subst (λ s. Move R site_of L s t l.toll)
            (ap (λ s. after R site_of L s p) same ∙ sym (after_append R site_of L f u.path (c ∷ p))) l.move;
        sum = omega arith;
      }

  pub upto-first : (t : State A) (x : ℕ) → Way R site_of L (first R site_of L) t x → Upto t [] x
  upto-first t x w = upto_begin (t.0 - 1) t x (segment-list R site_of L (first R site_of L) (t.0 - 1) t x w)

  pub upto-more : (i m k : ℕ) (a : A) (ts : List (Choice A)) (x y : ℕ) (t : State A) → Upto (i, m, some (k, a)) ts x
      → In a (L.options k) → L.tall k ≡ true
      → Way R site_of L (i, m, some (k, a)) t y → Upto t (ts ++ ((k, a) ∷ [])) (x + y)
  upto-more i m k a ts x y t u o e w =
      upto-on i m k (t.0 - suc i) a ts x y t u o e (segment-list R site_of L (i, m, some (k, a)) (t.0 - suc i) t y w)
