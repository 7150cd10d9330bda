-- Theorems on the definitions of specs/Trace.
-- What a program that walks back through the tables owes, and gets: each segment as a list, built from its right end;
-- each row's path, built stage by stage; and the placement written on the way, which has the paths' poses.
use Rattle.std.specs.Prelude.{◌≡◌, refl, ◌⊎◌, false, ℕ, suc, ◌+◌, ◌<◌, length}
use Rattle.std.proofs.Common.{ap, ap₂, subst, inl, inr, arith}
use mathlib.Core.List.Memᴰ.{head as here}
use mathlib.Core.List.{List, [], ◌∷◌, ◌++◌, Memᴰ as In}
use mathlib.Core.List.Memᴰ
use mathlib.Core.List.Memᴰ.{tail as there}
use Rattle.std.proofs.Math.Option.{some}
use Rattle.theory_row.specs.Choices.{cells, along}
use Rattle.theory_pair.specs.Segment.{Line, Choice, State, Goes, Move, move}
use Rattle.theory_pair.specs.Segment.{next, last, cost, after, SegmentListed}
use Rattle.theory_pair.proofs.Segment.{move-met}
use Rattle.theory_pair.specs.Whole.{picks}
use Rattle.theory_pair.specs.Cut.{Upto}
use Rattle.theory_pair.specs.Cells.{row₀, row₁, PairJob, line, pos, tall_count, cell, LegalPair, total}
use Rattle.theory_pair.proofs.Cells.{traced}
use Rattle.theory_pair.specs.Trace.{Obeys}

-- ---- the placement has the path's poses

pub obeys_along : {A : Type 0} (g : ℕ → A) (p : List (Choice A)) → Obeys g p → along g (cells p) ≡ p
unfolding along cells
obeys_along g [] h = refl
obeys_along g (c ∷ p) h = ap₂ (λ x y. (c.0, x) ∷ y) (h c (here refl)) (obeys_along g p (λ d m. h d (there m)))

pub obeys_append : {A : Type 0} (g : ℕ → A) (p q : List (Choice A)) → Obeys g p → Obeys g q → Obeys g (p ++ q)
obeys_append {A} g p q h k c m = go (Memᴰ.append_cases p m)
  where
    go : In c p ⊎ In c q → g c.0 ≡ c.1
    go (inl i) = h c i
    go (inr i) = k c i

-- ---- one row

module _ {A : Type 0} (R : ℕ) (site_of : A → ℕ) (L : Line A) where
  -- a segment of no single cell
  unfoldable pub listed-last : (u t : State A) (x : ℕ) → move R site_of L u t ≡ some x → SegmentListed R site_of L u 0 t x
  listed-last u t x e = record {
    path = [];
    size = refl;
    plain = tt;
    goes = tt;
    toll = x;
    move = move-met R site_of L u t x e;
    sum = omega arith;
  }

  -- one cell more at the left end of a segment: (k, a), placed from u on, costs z
  unfoldable pub listed_back : (u t : State A) (i m k j y z : ℕ) (a : A) → In a (L.options k) → L.tall k ≡ false
      → move R site_of L u (i, m, some (k, a)) ≡ some z
      → SegmentListed R site_of L (i, m, some (k, a)) j t y → SegmentListed R site_of L u (suc j) t (z + y)
  listed_back u t i m k j y z a o e w l =
      let c : Choice A = (k, a) in
      let v = move-met R site_of L u (i, m, some c) z w in
      let same : ◌≡◌ {A = State A} (i, m, some c) (next R site_of L u c) =
      ap₂ (λ f g. (f, g, some c)) v.0.1.0 v.0.1.1 in
      let p = l.path in
      let e₀ = l.size in
      let e₁ = l.sum in
      let e₂ = v.1 in
      let e₃ : cost R site_of L (i, m, some c) p ≡ cost R site_of L (next R site_of L u c) p =
      ap (λ s. cost R site_of L s p) same in
      record {
        path = c ∷ p;
        size = omega arith;
        plain = (e, l.plain);
        goes = (v.0.0, o, subst (λ s. Goes R site_of L s p) same l.goes);
        toll = l.toll;
        move = subst (λ s. Move R site_of L (after R site_of L s p) t l.toll) same l.move;
        sum = omega arith;
      }

-- ---- the pair

module _ {A : Type 0} (R : ℕ) (site_of : A → ℕ) (J : PairJob A)
    (w : (k : ℕ) (a : A) → In a (J.offers k) → 0 < J.wide k a) where
  -- a placement f that obeys a path to the end of each row, the tall cells with the poses ps in
  -- both, is legal and costs what the paths cost
  pub trace : A → (f : ℕ → A) (ps : List A) (x₀ x₁ : ℕ) → length ps ≡ tall_count J
      → (u₀ : Upto R site_of (line J row₀) (last R site_of (line J row₀)) (picks (pos J row₀) 0 ps) x₀)
      → Obeys (λ p. f (cell J row₀ p)) u₀.path
      → (u₁ : Upto R site_of (line J row₁) (last R site_of (line J row₁)) (picks (pos J row₁) 0 ps) x₁)
      → Obeys (λ p. f (cell J row₁ p)) u₁.path
      → LegalPair R site_of J f × (total site_of J f ≡ x₀ + x₁)
  trace d f ps x₀ x₁ s u₀ h₀ u₁ h₁ =
      traced R site_of J w d f ps x₀ x₁ s u₀ (obeys_along (λ p. f (cell J row₀ p)) u₀.path h₀) u₁
      (obeys_along (λ p. f (cell J row₁ p)) u₁.path h₁)
