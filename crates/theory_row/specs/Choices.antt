-- A list of choices, each a cell with what was chosen for it, and the placement that it makes.
use Rattle.std.specs.Prelude.{◌≡◌, ◌≢◌, Bool, length, eqb}
use Rattle.std.proofs.Math.Path.{refl, ap, ap₂}
use Rattle.std.proofs.Common.{sym, ◌∙◌}
use mathlib.Core.List.Memᴰ
use mathlib.Core.List.Memᴰ.{head as here}
use mathlib.Core.List.Memᴰ.{tail as there}
use mathlib.Core.List.{List, [], ◌∷◌, Memᴰ as In}
use Rattle.std.proofs.Math.Bool.{true, false, cond}
use Prim.Native.Nat.{ℕ, suc}
use Rattle.lists.specs.Compare.{Eq?, same, differs, eq?}
use Rattle.lists.specs.Membership.{Distinct}

module _ {A : Type 0} where
  -- the cells of the choices, in their order
  unfoldable pub cells : List (ℕ × A) → List ℕ
  cells [] = []
  cells (c ∷ cs) = c.0 ∷ cells cs

  -- what was chosen for cell k; d if nothing was
  unfoldable pub chosen : A → List (ℕ × A) → ℕ → A
  chosen d [] k = d
  chosen d (c ∷ cs) k = cond (eqb k c.0) c.1 (chosen d cs k)

  -- the choices that a placement f makes along l
  unfoldable pub along : (ℕ → A) → List ℕ → List (ℕ × A)
  along f [] = []
  along f (k ∷ l) = (k, f k) ∷ along f l

  pub cells-along : (f : ℕ → A) (l : List ℕ) → cells (along f l) ≡ l
  unfolding cells along
  cells-along f [] = refl
  cells-along f (k ∷ l) = ap (λ x. k ∷ x) (cells-along f l)

  pub along-size : (f : ℕ → A) (l : List ℕ) → length (along f l) ≡ length l
  unfolding along
  along-size f [] = refl
  along-size f (k ∷ l) = ap suc (along-size f l)

  pub cells-size : (cs : List (ℕ × A)) → length (cells cs) ≡ length cs
  unfolding cells
  cells-size [] = refl
  cells-size (c ∷ cs) = ap suc (cells-size cs)

  pub along-same : (f g : ℕ → A) (l : List ℕ) → ((k : ℕ) → In k l → f k ≡ g k) → along f l ≡ along g l
  unfolding along
  along-same f g [] h = refl
  along-same f g (k ∷ l) h = ap₂ (λ x y. (k, x) ∷ y) (h k (here refl)) (along-same f g l (λ j m. h j (there m)))

  chosen-head : (d : A) (k : ℕ) (a : A) (cs : List (ℕ × A)) → chosen d ((k, a) ∷ cs) k ≡ a
  unfolding chosen
  chosen-head d k a cs = go (eqb k k) (eq? k k)
    where
      go : (t : Bool) → Eq? k k t → cond t a (chosen d cs k) ≡ a
      go true e = refl
      go false (differs n) = absurd (n refl)

  chosen-tail : (d : A) (c : ℕ × A) (cs : List (ℕ × A)) (k : ℕ) → k ≢ c.0 → chosen d (c ∷ cs) k ≡ chosen d cs k
  unfolding chosen
  chosen-tail d c cs k n = go (eqb k c.0) (eq? k c.0)
    where
      go : (t : Bool) → Eq? k c.0 t → cond t c.1 (chosen d cs k) ≡ chosen d cs k
      go true (same e) = absurd (n e)
      go false e = refl

  -- choices for distinct cells are the choices that their placement makes
  pub along-chosen : (d : A) (cs : List (ℕ × A)) → Distinct (cells cs) → along (chosen d cs) (cells cs) ≡ cs
  unfolding cells along
  along-chosen d [] h = refl
  along-chosen d (c ∷ cs) h =
      ap₂ (λ x y. (c.0, x) ∷ y) (chosen-head d c.0 c.1 cs)
      (along-same (chosen d (c ∷ cs)) (chosen d cs) (cells cs)
      (λ k m. chosen-tail d c cs k (λ e. h.0 (Memᴰ.cast (sym e) m)))
      ∙ along-chosen d cs h.1)
