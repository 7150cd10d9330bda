-- The cheapest trail, in general: from a source through layers of states, each layer a finite list, each step with a
-- cost. The least costs are computed layer by layer, an entry from all entries of the layer before.
use Rattle.std.specs.Prelude.{◌≡◌, refl, ◌⊎◌}
use Rattle.std.proofs.Math.Path.{subst}
use Rattle.std.proofs.Common.{inl, inr, arith}
use mathlib.Core.List.Memᴰ.{head as here}
use mathlib.Core.List.{List, [], ◌∷◌, ◌++◌, Memᴰ as In}
use mathlib.Core.List.Memᴰ
use mathlib.Core.List.Memᴰ.{tail as there}
use Rattle.std.proofs.Math.Option.{Option, none, some}
use Prim.Native.Nat.{ℕ, zero, suc, ◌+◌}
use Rattle.theory_row.specs.Cheapest.{lower, ◌⊑◌, lower-left, lower-right, lower-met}

-- ---- every b of f a, for every a of l

unfoldable pub each : {A B : Type 0} → List A → (A → List B) → List B
each [] f = []
each (a ∷ l) f = f a ++ each l f

pub in_each : {A B : Type 0} {a : A} {b : B} (l : List A) (f : A → List B) → In a l → In b (f a) → In b (each l f)
unfolding each
in_each {A = A} {B = B} {a = a} {b = b} [] f x'' m = elim x'' [ ]
in_each {b = b} (x ∷ l) f (here e) m = Memᴰ.append_left (each l f) (subst (λ y. In b (f y)) e m)
in_each (x ∷ l) f (there p) m = Memᴰ.append_right (f x) (in_each l f p m)

pub each_in : {A B : Type 0} {b : B} (l : List A) (f : A → List B) → In b (each l f) → (a : A) × In a l × In b (f a)
unfolding each
each_in {A = A} {B = B} {b = b} [] f m = elim m [ ]
each_in {A = A} {b = b} (x ∷ l) f m = go (Memᴰ.append_cases (f x) m) (each_in l f)
  where
    go : In b (f x) ⊎ In b (each l f) → (In b (each l f) → (a : A) × In a l × In b (f a))
        → (a : A) × In a (x ∷ l) × In b (f a)
    go (inl p) g = (x, here refl, p)
    go (inr p) g = let r = g p in (r.0, there r.1, r.2)

-- ---- costs: a number, or none

unfoldable pub add : Option ℕ → Option ℕ → Option ℕ
add none b = none
add (some a) none = none
add (some a) (some b) = some (a + b)

pub add-below : (a b : Option ℕ) (x y : ℕ) → a ⊑ x → b ⊑ y → add a b ⊑ (x + y)
unfolding add
add-below (some a) none x y h g = elim g [ ]
add-below none b x y h g = elim h [ ]
add-below (some a) (some b) x y h g = omega arith

pub add-met : (a b : Option ℕ) (v : ℕ) → add a b ≡ some v
    → (x : ℕ) × (y : ℕ) × (a ≡ some x) × (b ≡ some y) × (x + y ≡ v)
unfolding add
add-met none b v e = absurd (let z : ◌≡◌ {A = ℕ} 0 1 = cc in omega arith)
add-met (some a) none v e = absurd (let z : ◌≡◌ {A = ℕ} 0 1 = cc in omega arith)
add-met (some a) (some b) v e = (a, b, refl, refl, cc)

-- x if it may be, else none
unfoldable pub cost_if : {P : Type 0} → Dec P → ℕ → Option ℕ
cost_if (yes p) x = some x
cost_if (no q) x = none

pub cost-below : {P : Type 0} (t : Dec P) (x : ℕ) → P → cost_if t x ⊑ x
unfolding cost_if
cost-below (yes p) x h = omega arith
cost-below (no q) x h = absurd (q h)

pub cost-met : {P : Type 0} (t : Dec P) (x v : ℕ) → cost_if t x ≡ some v → P × (v ≡ x)
unfolding cost_if
cost-met (yes p) x v e = (p, cc)
cost-met (no q) x v e = absurd (let z : ◌≡◌ {A = ℕ} 0 1 = cc in omega arith)

-- the least of f over a list
unfoldable pub least_of : {S : Type 0} → (S → Option ℕ) → List S → Option ℕ
least_of f [] = none
least_of f (u ∷ l) = lower (f u) (least_of f l)

pub least_of-below : {S : Type 0} (f : S → Option ℕ) (l : List S) (u : S) (x : ℕ) → In u l → f u ⊑ x → least_of f l ⊑ x
unfolding least_of
least_of-below {S = S} f [] u x x4 h = elim x4 [ ]
least_of-below f (w ∷ l) u x (here e) h = lower-left (f w) (least_of f l) x (subst (λ y. f y ⊑ x) e h)
least_of-below f (w ∷ l) u x (there m) h = lower-right (f w) (least_of f l) x (least_of-below f l u x m h)

pub least_of-met : {S : Type 0} (f : S → Option ℕ) (l : List S) (v : ℕ) → least_of f l ≡ some v
    → (u : S) × In u l × (f u ≡ some v)
unfolding least_of
least_of-met f [] v e = absurd (let z : ◌≡◌ {A = ℕ} 0 1 = cc in omega arith)
least_of-met {S = S} f (w ∷ l) v e = go (lower-met (f w) (least_of f l) v e) (least_of-met f l v)
  where
    go : (f w ≡ some v) ⊎ (least_of f l ≡ some v) → (least_of f l ≡ some v → (u : S) × In u l × (f u ≡ some v))
        → (u : S) × In u (w ∷ l) × (f u ≡ some v)
    go (inl z) g = (w, here refl, z)
    go (inr z) g = let r = g z in (r.0, there r.1, r.2)

-- ---- trails

-- Step j u t x: one can go from u to t as step number j, for x. A trail makes the steps 0 to j,
-- and is in the layer states i after step i.
abbrev pub Trail : {S : Type 0} → (ℕ → List S) → (ℕ → S → S → ℕ → Type 0) → S → ℕ → S → ℕ → Type 0
Trail states Step s zero t x = Step 0 s t x
Trail {S = S} states Step s (suc j) t x =
    (u : S) × In u (states j) × (y : ℕ) × (z : ℕ) × Trail states Step s j u y × Step (suc j) u t z × (y + z ≡ x)

-- the least cost of a trail, layer by layer, from the least cost of a step
unfoldable pub layer : {S : Type 0} → (ℕ → List S) → (ℕ → S → S → Option ℕ) → S → ℕ → S → Option ℕ
layer states step s zero t = step 0 s t
layer states step s (suc j) t = least_of (λ u. add (layer states step s j u) (step (suc j) u t)) (states j)

module _ {S : Type 0} (states : ℕ → List S) (Step : ℕ → S → S → ℕ → Type 0) (step : ℕ → S → S → Option ℕ) where
  -- no trail is cheaper
  pub layer_below : ((j : ℕ) (u t : S) (x : ℕ) → Step j u t x → step j u t ⊑ x) → (s : S) (j : ℕ) (t : S) (x : ℕ)
      → Trail states Step s j t x → layer states step s j t ⊑ x
  unfolding layer
  layer_below b s zero t x h = b 0 s t x h
  layer_below b s (suc j) t x h =
      let u = h.0 in
      let f : S → Option ℕ = λ w. add (layer states step s j w) (step (suc j) w t) in
      subst (λ v. least_of f (states j) ⊑ v) h.6
      (least_of-below f (states j) u (h.2 + h.3) h.1 (add-below (layer states step s j u) (step (suc j) u t) h.2
      h.3 (layer_below b s j u h.2 h.4) (b (suc j) u t h.3 h.5)))

  -- an entry that is a cost has a source in the layer before, which a walk back finds
  pub layer-source : (s : S) (j : ℕ) (t : S) (x : ℕ) → layer states step s (suc j) t ≡ some x
      → (u : S) × In u (states j) × (y : ℕ) × (z : ℕ) × (layer states step s j u ≡ some y)
      × (step (suc j) u t ≡ some z) × (y + z ≡ x)
  unfolding layer
  layer-source s j t x e =
      let r = least_of-met (λ w. add (layer states step s j w) (step (suc j) w t)) (states j) x e in
      let a = add-met (layer states step s j r.0) (step (suc j) r.0 t) x r.2 in
      (r.0, r.1, a.0, a.1, a.2, a.3, a.4)

  -- some trail costs just that
  pub layer-met : ((j : ℕ) (u t : S) (x : ℕ) → step j u t ≡ some x → Step j u t x) → (s : S) (j : ℕ) (t : S) (x : ℕ)
      → layer states step s j t ≡ some x → Trail states Step s j t x
  unfolding layer
  layer-met b s zero t x e = b 0 s t x e
  layer-met b s (suc j) t x e =
      let r = layer-source s j t x e in
      (r.0, r.1, r.2, r.3, layer-met b s j r.0 r.2 r.4, b (suc j) r.0 t r.3 r.5, r.6)
