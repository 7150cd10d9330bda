-- The cheapest path, in general: from a state, d moves, each from a finite list, with a charge.
use Rattle.std.proofs.Math.Path.{◌≡◌, refl, ap}
use Rattle.std.proofs.Common.{◌∙◌, inl, inr}
use Rattle.std.specs.Prelude.{◌⊎◌, Bool, true, false, cond, length, leb}
use mathlib.Core.List.Memᴰ.{head as here}
use mathlib.Core.List.Memᴰ.{tail as there}
use mathlib.Core.List.{List, [], ◌∷◌, Memᴰ as In}
use Rattle.std.proofs.Math.Option.{Option, none, some}
use Prim.Native.Nat.{ℕ, zero, suc, ◌+◌, ◌≤◌}
use native.Mathlib.Omega.{arith}
use Rattle.lists.specs.Compare.{Le?, low, high, le?}

infix 20 ◌⊑◌
-- the lower of two costs, none being above all
unfoldable pub lower : Option ℕ → Option ℕ → Option ℕ
lower none b = b
lower (some a) none = some a
lower (some a) (some b) = cond (leb a b) (some a) (some b)

unfoldable pub plus : ℕ → Option ℕ → Option ℕ
plus a none = none
plus a (some b) = some (a + b)

-- v is a lower bound of x: none is above all
abbrev pub ◌⊑◌ : Option ℕ → ℕ → Type 0
none ⊑ x = ⊥
some v ⊑ x = v ≤ x

pub lower-left : (a b : Option ℕ) (x : ℕ) → a ⊑ x → lower a b ⊑ x
unfolding lower
lower-left none b x h = elim h [ ]
lower-left (some a) none x h = h
lower-left (some a) (some b) x h = go (leb a b) (le? a b)
  where
    go : (t : Bool) → Le? a b t → cond t (some a) (some b) ⊑ x
    go true e = h
    go false (high g) = omega arith

pub lower-right : (a b : Option ℕ) (x : ℕ) → b ⊑ x → lower a b ⊑ x
unfolding lower
lower-right (some a) none x h = elim h [ ]
lower-right none b x h = h
lower-right (some a) (some b) x h = go (leb a b) (le? a b)
  where
    go : (t : Bool) → Le? a b t → cond t (some a) (some b) ⊑ x
    go true (low g) = omega arith
    go false e = h

pub lower-met : (a b : Option ℕ) (v : ℕ) → lower a b ≡ some v → (a ≡ some v) ⊎ (b ≡ some v)
unfolding lower
lower-met none b v e = inr e
lower-met (some a) none v e = inl e
lower-met (some a) (some b) v e = go (leb a b) e
  where
    go : (t : Bool) → cond t (some a) (some b) ≡ some v → (some a ≡ some v) ⊎ (some b ≡ some v)
    go true e = inl e
    go false e = inr e

plus-below : (t : ℕ) (o : Option ℕ) (x : ℕ) → o ⊑ x → plus t o ⊑ (t + x)
unfolding plus
plus-below t none x h = elim h [ ]
plus-below t (some w) x h = omega arith

plus-met : (t : ℕ) (o : Option ℕ) (v : ℕ) → plus t o ≡ some v → (w : ℕ) × (o ≡ some w) × (t + w ≡ v)
unfolding plus
plus-met t none v e = absurd (let z : ◌≡◌ {A = ℕ} 0 1 = cc in omega arith)
plus-met t (some w) v e = (w, refl, cc)

module _ {S C : Type 0} (moves : S → List C) (next : S → C → S) (toll : S → C → ℕ) where
  -- a path of moves from s, and what it costs
  abbrev pub Path' : S → List C → Type 0
  Path' s [] = Unit {0}
  Path' s (c ∷ p) = In c (moves s) × Path' (next s c) p

  abbrev pub cost : S → List C → ℕ
  cost s [] = 0
  cost s (c ∷ p) = toll s c + cost (next s c) p

  -- the least over a list of moves, given what is left to pay after each
  unfoldable pub least : (S → Option ℕ) → S → List C → Option ℕ
  least f s [] = none
  least f s (c ∷ l) = lower (plus (toll s c) (f (next s c))) (least f s l)

  unfoldable pub best : ℕ → S → Option ℕ
  best zero s = some 0
  best (suc d) s = least (best d) s (moves s)

  -- no path of d moves is cheaper
  least-below : (f : S → Option ℕ) (s : S) (l : List C) (c : C) (x : ℕ) → In c l → f (next s c) ⊑ x
      → least f s l ⊑ (toll s c + x)
  unfolding least
  least-below f s [] c x x4 h = elim x4 [ ]
  least-below f s (y ∷ l) c x (here e) h =
      lower-left (plus (toll s y) (f (next s y))) (least f s l)
      (toll s c + x) (rw e (plus-below (toll s y) (f (next s y)) x (rw e at h)))
  least-below f s (y ∷ l) c x (there m) h =
      lower-right (plus (toll s y) (f (next s y))) (least f s l) (toll s c + x) (least-below f s l c x m h)

  pub best-below : (d : ℕ) (s : S) (p : List C) → length p ≡ d → Path' s p → best d s ⊑ cost s p
  unfolding best
  best-below zero s [] e h = omega arith
  best-below zero s (c ∷ p) e h = absurd (omega arith)
  best-below (suc d) s [] e h = absurd (omega arith)
  best-below (suc d) s (c ∷ p) e h =
      least-below (best d) s (moves s) c (cost (next s c) p) h.0 (best-below d (next s c) p (omega arith) h.1)

  -- and some path of d moves costs just that
  least-met : (f : S → Option ℕ) (s : S) (l : List C) (v : ℕ) → least f s l ≡ some v
      → (c : C) × In c l × (plus (toll s c) (f (next s c)) ≡ some v)
  unfolding least
  least-met f s [] v e = absurd (let z : ◌≡◌ {A = ℕ} 0 1 = cc in omega arith)
  least-met f s (y ∷ l) v e = go (lower-met (plus (toll s y) (f (next s y))) (least f s l) v e) (least-met f s l v)
    where
      go : (plus (toll s y) (f (next s y)) ≡ some v) ⊎ (least f s l ≡ some v)
          → (least f s l ≡ some v → (c : C) × In c l × (plus (toll s c) (f (next s c)) ≡ some v))
          → (c : C) × In c (y ∷ l) × (plus (toll s c) (f (next s c)) ≡ some v)
      go (inl z) g = (y, here refl, z)
      go (inr z) g = let r = g z in (r.0, there r.1, r.2)

  pub best-met : (d : ℕ) (s : S) (v : ℕ) → best d s ≡ some v
      → (p : List C) × (length p ≡ d) × Path' s p × (cost s p ≡ v)
  unfolding best
  best-met zero s v e = ([], refl, tt, cc)
  best-met (suc d) s v e =
      let a = least-met (best d) s (moves s) v e in
      let b = plus-met (toll s a.0) (best d (next s a.0)) v a.2 in
      let r = best-met d (next s a.0) b.0 b.1 in
      (a.0 ∷ r.0, ap suc r.1, (a.1, r.2), ap (λ x. toll s a.0 + x) r.3 ∙ b.2)
