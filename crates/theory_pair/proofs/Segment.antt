-- Theorems on the definitions of specs/Segment.
-- One row in general, and its segments: from a state of the row over single cells to another state.
use Rattle.std.proofs.Math.Path.{◌≡◌, subst}
use Rattle.std.specs.Prelude.{refl, ◌↔◌, Bool, length}
use Rattle.std.proofs.Common.{sym, ap, ap₂, ◌∙◌, arith, length-append}
use mathlib.Core.List.Memᴰ.{head as here}
use mathlib.Core.List.{List, [], ◌∷◌, ◌++◌, Memᴰ as In}
use mathlib.Core.List.Memᴰ
use Rattle.std.proofs.Math.Option.{Option, some}
use Rattle.std.proofs.Math.Bool.{true, false}
use Prim.Native.Nat.{ℕ, zero, suc, ◌+◌, ◌-◌, ◌*◌}
use Rattle.lists.specs.Numbers.{from, from_in}
use Rattle.theory_row.specs.Cheapest.{◌⊑◌}
use Rattle.theory_row.specs.Window.{step, Good}
use Rattle.theory_row.proofs.Window.{good-step}
use Rattle.theory_pair.specs.Pick.{good_marks}
use Rattle.theory_pair.proofs.Pick.{in_good_marks}
use Rattle.theory_pair.specs.Forward.{in_each, each_in, cost_if, cost-below}
use Rattle.theory_pair.specs.Forward.{cost-met, layer_below, layer-met}
use Rattle.theory_pair.specs.Segment.{Line, Choice, State, if_single}
use Rattle.theory_pair.specs.Segment as defs

module _ {A : Type 0} (R : ℕ) (site_of : A → ℕ) (L : Line A) where
  abbrev next : State A → Choice A → State A
  next = defs.next R site_of L

  abbrev charge : State A → Choice A → ℕ
  charge = defs.charge R site_of L

  abbrev Ok : State A → Choice A → Type 0
  Ok = defs.Ok R site_of L

  abbrev Goes : State A → List (Choice A) → Type 0
  Goes = defs.Goes R site_of L

  abbrev after : State A → List (Choice A) → State A
  after = defs.after R site_of L

  abbrev cost : State A → List (Choice A) → ℕ
  cost = defs.cost R site_of L

  abbrev Into : State A → ℕ → ℕ → Option (Choice A) → Type 0
  Into = defs.Into R site_of L

  abbrev toll_to : State A → Option (Choice A) → ℕ
  toll_to = defs.toll_to R site_of L

  abbrev Move : State A → State A → ℕ → Type 0
  Move = defs.Move R site_of L

  abbrev into? : (u : State A) (i m : ℕ) (o : Option (Choice A)) → Dec (Into u i m o)
  into? = defs.into? R site_of L

  abbrev move : State A → State A → Option ℕ
  move = defs.move R site_of L

  abbrev singles : ℕ → List (State A)
  singles = defs.singles R site_of L

  abbrev Segment : State A → ℕ → State A → ℕ → Type 0
  Segment = defs.Segment R site_of L

  abbrev Way : State A → State A → ℕ → Type 0
  Way = defs.Way R site_of L

  abbrev least : State A → State A → Option ℕ
  least = defs.least R site_of L

  abbrev Plain : List (Choice A) → Type 0
  Plain = defs.Plain R site_of L

  abbrev SegmentListed : (s : State A) (j : ℕ) (t : State A) (x : ℕ) → Type 0
  SegmentListed = defs.SegmentListed R site_of L

  -- ---- a path, as a list of choices

  pub after-size : (s : State A) (p : List (Choice A)) → (after s p).0 ≡ s.0 + length p
  after-size s [] = omega arith
  after-size s (c ∷ p) = let r = after-size (next s c) p in omega arith

  pub after_append : (s : State A) (p q : List (Choice A)) → after s (p ++ q) ≡ after (after s p) q
  after_append s [] q = refl
  after_append s (c ∷ p) q = after_append (next s c) p q

  pub cost_append : (s : State A) (p q : List (Choice A)) → cost s (p ++ q) ≡ cost s p + cost (after s p) q
  cost_append s [] q = omega arith
  cost_append s (c ∷ p) q = let r = cost_append (next s c) p q in omega arith

  pub goes_append : (s : State A) (p q : List (Choice A)) → Goes s (p ++ q) ↔ (Goes s p × Goes (after s p) q)
  goes_append s [] q = (λ g. (tt, g), λ g. g.1)
  goes_append s (c ∷ p) q =
      let b = goes_append (next s c) p q in
      (λ g. let r = b.0 g.2 in ((g.0, g.1, r.0), r.1), λ g. (g.0.0, g.0.1, b.1 (g.0.2, g.1)))

  pub goes-good : (s : State A) (p : List (Choice A)) → Good R s.1 → Goes s p → Good R (after s p).1
  goes-good s [] h g = h
  goes-good s (c ∷ p) h g = goes-good (next s c) p (good-step R L.size s.0 s.1 c.0 h g.0.0) g.2

  -- ---- one move, from state to state

  pub move-below : (u t : State A) (x : ℕ) → Move u t x → move u t ⊑ x
  unfolding defs.move
  move-below u t x h = subst (λ v. cost_if (into? u t.0 t.1 t.2) (toll_to u t.2) ⊑ v) (sym h.1)
      (cost-below (into? u t.0 t.1 t.2) (toll_to u t.2) h.0)

  pub move-met : (u t : State A) (x : ℕ) → move u t ≡ some x → Move u t x
  unfolding defs.move
  move-met u t x e = cost-met (into? u t.0 t.1 t.2) (toll_to u t.2) x e

  -- ---- segments

  pub least-below : (s t : State A) (x : ℕ) → Way s t x → least s t ⊑ x
  unfolding defs.least
  least-below s t x h = layer_below (λ i. singles (s.0 + suc i)) (λ i u v y. Move u v y) (λ i u v. move u v)
      (λ j u v y. move-below u v y) s (t.0 - suc s.0) t x h

  pub least-met : (s t : State A) (x : ℕ) → least s t ≡ some x → Way s t x
  unfolding defs.least
  least-met s t x e = layer-met (λ i. singles (s.0 + suc i)) (λ i u v y. Move u v y) (λ i u v. move u v)
      (λ j u v y. move-met u v y) s (t.0 - suc s.0) t x e

  -- ---- a segment and its list of choices

  plain_append : (p q : List (Choice A)) → Plain p → Plain q → Plain (p ++ q)
  plain_append [] q h g = g
  plain_append (c ∷ p) q h g = (h.0, plain_append p q h.1 g)

  pub next-move : (u : State A) (c : Choice A) → Ok u c → Move u (next u c) (charge u c)
  next-move u c o = ((o, (refl, refl)), refl)

  in_single : {B : Type 0} {b : B} (t : Bool) (l : List B) → t ≡ false → In b l → In b (if_single t l)
  unfolding if_single
  in_single true l e m = absurd (let z : ◌≡◌ {A = ℕ} 0 1 = cc in omega arith)
  in_single false l e m = m

  single_in : {B : Type 0} {b : B} (t : Bool) (l : List B) → In b (if_single t l) → (t ≡ false) × In b l
  unfolding if_single
  single_in true l m = elim m [ ]
  single_in false l m = (refl, m)

  in_singles : (u : State A) (c : Choice A) → Good R u.1 → Ok u c → In c.1 (L.options c.0)
      → L.tall c.0 ≡ false → (i : ℕ) → i ≡ suc u.0
      → In (next u c) (singles i)
  unfolding defs.singles
  in_singles u c h o p e i z =
      let lo = o.0.low in
      let hi = o.0.high in
      let m = (in_good_marks R (step R u.0 u.1 c.0)).1 (good-step R L.size u.0 u.1 c.0 h o.0) in
      in_each (from (i - suc R) (suc (2 * R))) _ (from_in c.0 (i - suc R) (suc (2 * R)) (omega arith) (omega arith))
      (in_single (L.tall c.0) _ e (in_each (L.options c.0) _ p
      (in_each (good_marks R) _ m (here (ap (λ y. (y, step R u.0 u.1 c.0, some c)) (sym z))))))

  -- a move to such a state is a choice
  singles-shape : (v : State A) (i : ℕ) → In v (singles i)
      → (k : ℕ) × (a : A) × (m : ℕ) × In a (L.options k) × (L.tall k ≡ false) × (v ≡ (i, m, some (k, a)))
  unfolding defs.singles
  singles-shape v i q =
      let a = each_in (from (i - suc R) (suc (2 * R))) _ q in
      let b = single_in (L.tall a.0) _ a.2 in
      let d = each_in (L.options a.0) _ b.1 in
      let e = each_in (good_marks R) _ d.2 in
      (a.0, d.0, e.0, d.1, b.0, Memᴰ.eq_of_singleton e.2)

  move_choice : (u v : State A) (x i m k : ℕ) (a : A) → v ≡ (i, m, some (k, a)) → Move u v x
      → Ok u (k, a) × (next u (k, a) ≡ v) × (x ≡ charge u (k, a))
  move_choice u v x i m k a e h =
      let g : Move u (i, m, some (k, a)) x = subst (λ w. Move u w x) e h in
      (g.0.0, ap₂ (λ y z. (y, z, some (k, a))) (sym g.0.1.0) (sym g.0.1.1) ∙ sym e, g.1)

  singles-move : (u v : State A) (i x : ℕ) → In v (singles i) → Move u v x
      → (c : Choice A) × Ok u c × In c.1 (L.options c.0) × (L.tall c.0 ≡ false) × (next u c ≡ v)
      × (x ≡ charge u c)
  singles-move u v i x q h =
      let s = singles-shape v i q in
      let r = move_choice u v x i s.2 s.0 s.1 s.5 h in
      ((s.0, s.1), r.0, s.3, s.4, r.1, r.2)

  pub segment-list : (s : State A) (j : ℕ) (t : State A) (x : ℕ) → Segment s j t x → SegmentListed s j t x
  segment-list s zero t x h =
      record { path = []; size = refl; plain = tt; goes = tt; toll = x; move = h; sum = omega arith }
  segment-list s (suc j) t x h =
      let r = segment-list s j h.0 h.2 h.4 in
      let a = singles-move (after s r.path) h.0 (s.0 + suc j) r.toll h.1 r.move in
      let c = a.0 in
      let k = cost_append s r.path (c ∷ []) in
      let z = r.size in
      let l = length-append r.path (c ∷ []) in
      let e₁ = r.sum in
      let e₂ = h.6 in
      let e₃ = a.5 in
      record {
        path = r.path ++ (c ∷ []);
        size = omega arith;
        plain = plain_append r.path (c ∷ []) r.plain (a.3, tt);
        goes = (goes_append s r.path (c ∷ [])).1 (r.goes, (a.1, a.2, tt));
        toll = h.3;
        move = subst (λ w. Move w t h.3) (sym (after_append s r.path (c ∷ []) ∙ a.4)) h.5;
        sum = omega arith;
      }

  segment-go : (s u : State A) (j e x : ℕ) → ((t : State A) (y : ℕ) → Move u t y → Segment s j t (x + y))
      → u.0 ≡ s.0 + j → Good R u.1
      → (q : List (Choice A)) → Plain q → Goes u q → (t : State A) (y z : ℕ) → Move (after u q) t y → e ≡ j + length q
      → z ≡ x + (cost u q + y) → Segment s e t z
  segment-go s u j e x k i h [] p g t y z m v w =
      let a : j ≡ e = omega arith in
      let b : x + y ≡ z = omega arith in
      subst (λ d. Segment s d t z) a (subst (λ d. Segment s j t d) b (k t y m))
  segment-go s u j e x k i h (c ∷ q) p g t y z m v w =
      segment-go s (next u c) (suc j) e (x + charge u c)
      (λ t' y' m'. (
        next u c,
        in_singles u c h g.0 g.1 p.0 (s.0 + suc j) (omega arith),
        x + charge u c,
        y',
        k (next u c) (charge u c) (next-move u c g.0),
        m',
        refl,
      ))
      (omega arith) (good-step R L.size u.0 u.1 c.0 h g.0.0) q p.1 g.2 t y z m
      (omega arith) (omega arith)

  pub list-way : (s : State A) → Good R s.1 → (q : List (Choice A)) → Plain q → Goes s q → (t : State A) (y z : ℕ)
      → Move (after s q) t y → t.0 ≡ suc (after s q).0
      → z ≡ cost s q + y → Way s t z
  list-way s h q p g t y z m e w =
      let a = after-size s q in
      segment-go s s 0 (t.0 - suc s.0) 0
      (λ t' y' m'. let f : y' ≡ 0 + y' = omega arith in subst (λ d. Move s t' d) f m') (omega arith) h q p g t y z m
      (omega arith) (omega arith)
