-- A path with what was noted of each of its choices, place by place.
use Rattle.std.specs.Prelude.{◌≡◌, refl, ◌≢◌, ℕ, suc, ◌+◌, ◌≤◌, ◌<◌, length}
use Rattle.std.proofs.Common.{sym, ap, arith}
use Rattle.std.proofs.Math.Path.{subst}
use mathlib.Core.List.Memᴰ
use mathlib.Core.List.Memᴰ.{head as here}
use mathlib.Core.List.Memᴰ.{tail as there}
use mathlib.Core.List.{List, [], ◌∷◌, ◌++◌, Memᴰ as In}
use Rattle.std.proofs.Math.Decide.{ℕ_discrete}
use Rattle.lists.specs.Membership.{Distinct}
use Rattle.theory_row.specs.Choices.{cells}
use Rattle.theory_pair.specs.Segment.{Choice}

-- choice c was noted at place i, by the number of its pose
pub record NotedAs {A : Type 0} (Noted : ℕ → ℕ → ℕ → Type 0) (poses : ℕ) (pose : ℕ → ℕ → A) (i : ℕ)
    (c : Choice A) : Type 0 where
  pub number : ℕ
  pub below : number < poses
  pub posed : pose c.0 number ≡ c.1
  pub noted : Noted i c.0 number

-- the cell at position k in pose a was noted at one of the places 1 to n
pub record NotedUpto (Noted : ℕ → ℕ → ℕ → Type 0) (n k a : ℕ) : Type 0 where
  pub place : ℕ
  pub low : 0 < place
  pub high : place ≤ n
  pub noted : Noted place k a

-- P holds of each choice of a path at its place, from place i on
abbrev pub NotedPath : {A : Type 0} → (ℕ → Choice A → Type 0) → ℕ → List (Choice A) → Type 0
NotedPath P i [] = Unit {0}
NotedPath P i (c ∷ p) = P i c × NotedPath P (suc i) p

pub in_cells : {A : Type 0} {c : Choice A} (p : List (Choice A)) → In c p → In c.0 (cells p)
unfolding cells
in_cells {A = A} {c = c} [] x' = elim x' [ ]
in_cells (b ∷ p) (here e) = here (ap (λ x. x.0) e)
in_cells (b ∷ p) (there m) = there (in_cells p m)

pub cells_in : {A : Type 0} {k : ℕ} (p : List (Choice A)) → In k (cells p) → (c : Choice A) × In c p × (c.0 ≡ k)
unfolding cells
cells_in {A = A} {k = k} [] x' = elim x' [ ]
cells_in (b ∷ p) (here e) = (b, here refl, sym e)
cells_in (b ∷ p) (there m) = let r = cells_in p m in (r.0, there r.1, r.2)

module _ {A : Type 0} (P : ℕ → Choice A → Type 0) where
  pub noted_append : (i e : ℕ) (p q : List (Choice A)) → e ≡ i + length p → NotedPath P i p → NotedPath P e q
      → NotedPath P i (p ++ q)
  noted_append i e [] q z h g = let d : e ≡ i = omega arith in subst (λ x. NotedPath P x q) d g
  noted_append i e (c ∷ p) q z h g = (h.0, noted_append (suc i) e p q (omega arith) h.1 g)

  -- the place of a choice
  pub noted_choice : {c : Choice A} (i : ℕ) (p : List (Choice A)) → NotedPath P i p → In c p
      → (j : ℕ) × (i ≤ j) × (j < i + length p) × P j c
  noted_choice {c = c} i [] h x'' = elim x'' [ ]
  noted_choice i (b ∷ p) h (here e) = (i, omega arith, omega arith, subst (λ x. P i x) (sym e) h.0)
  noted_choice i (b ∷ p) h (there m) =
      let r = noted_choice (suc i) p h.1 m in
      let x = r.1 in
      let y = r.2 in
      (r.0, omega arith, omega arith, r.3)

  -- the choice at a place
  pub noted-place : (i j : ℕ) (p : List (Choice A)) → NotedPath P i p → i ≤ j → j < i + length p
      → (c : Choice A) × In c p × P j c
  noted-place i j [] h l u = absurd (omega arith)
  noted-place i j (b ∷ p) h l u = go (ℕ_discrete j i) (λ g. noted-place (suc i) j p h.1 g (omega arith))
    where
      go : Dec (j ≡ i) → (suc i ≤ j → (c : Choice A) × In c p × P j c) → (c : Choice A) × In c (b ∷ p) × P j c
      go (yes e) f = (b, here refl, subst (λ x. P x b) (sym e) h.0)
      go (no n) f = let r = f (omega arith) in (r.0, there r.1, r.2)

  -- the choices at two places of a path whose cells are distinct
  pub noted-apart : (i j k : ℕ) (p : List (Choice A)) → Distinct (cells p) → NotedPath P i p → i ≤ j → j < k
      → k < i + length p
      → (c : Choice A) × (d : Choice A) × P j c × P k d × (c.0 ≢ d.0)
  unfolding cells
  noted-apart i j k [] o h l m u = absurd (omega arith)
  noted-apart i j k (b ∷ p) o h l m u =
      go (ℕ_discrete j i) (λ g. noted-apart (suc i) j k p o.1 h.1 g m (omega arith))
    where
      go : Dec (j ≡ i) → (suc i ≤ j → (c : Choice A) × (d : Choice A) × P j c × P k d × (c.0 ≢ d.0))
          → (c : Choice A) × (d : Choice A) × P j c × P k d × (c.0 ≢ d.0)
      go (yes e) f =
          let r = noted-place (suc i) k p h.1 (omega arith) (omega arith) in
          (b, r.0, subst (λ x. P x b) (sym e) h.0, r.2, λ z. o.0 (Memᴰ.cast z (in_cells p r.1)))
      go (no n) f = f (omega arith)
