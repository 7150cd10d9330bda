-- Theorems on the definitions of specs/Lines.
-- The rows of a job as lines of positions: which cell stands at a position, and where the tall cells stand.
use Rattle.std.specs.Prelude.{◌≡◌, true, cond, length}
use Rattle.std.proofs.Math.Path.{refl}
use Rattle.std.proofs.Common.{sym, ap, ◌∙◌}
use mathlib.Core.List.{List, [], ◌∷◌, Memᴰ as In}
use Prim.Native.Nat.{ℕ, ◌+◌, ◌<◌}
use native.Mathlib.Omega.{arith}
use Rattle.lists.specs.Numbers.{from, in_from, from_in}
use Rattle.lists.specs.Membership.{Distinct}
use Rattle.theory_row.specs.Order.{place}
use Rattle.theory_row.specs.Rules.{sum}
use Rattle.theory_pair.specs.Segment.{Line}
use Rattle.theory_pair.specs.Pair.{Talls}
use Rattle.theory_pair.specs.Pick.{pick, pick_in, in_pick, pick_pairs}
use Rattle.theory_pair.specs.Legal.{members, tall_cells}
use Rattle.theory_pair.specs.Legal.{Side, row₀, row₁, Kind, one, both, PairJob, in_row, is_tall, own_in}
use Rattle.theory_pair.specs.Members.{at, at_in, at_place, place_at}
use Rattle.theory_pair.specs.Members.{from-rising, rising-at, rising_distinct'}
use Rattle.theory_pair.specs.Lines as defs

module _ {A : Type 0} (J : PairJob A) where
  abbrev cell : Side → ℕ → ℕ
  cell = defs.cell J

  abbrev line : Side → Line A
  line = defs.line J

  abbrev tall_count : ℕ
  tall_count = defs.tall_count J

  abbrev pos : Side → ℕ → ℕ
  pos = defs.pos J

  pub members_in : (s : Side) {k : ℕ} → In k (members J s) → (k < J.count) × (in_row s (J.kind k) ≡ true)
  unfolding members
  members_in s m =
      let r = pick_in (λ k. in_row s (J.kind k)) (from 0 J.count) m in
      let h = in_from 0 J.count r.0 in
      (omega arith, r.1)

  pub in_members : (s : Side) (k : ℕ) → k < J.count → in_row s (J.kind k) ≡ true → In k (members J s)
  unfolding members
  in_members s k h e =
      in_pick (λ k. in_row s (J.kind k)) (from 0 J.count) (from_in k 0 J.count (omega arith) (omega arith)) e

  pub members-distinct : (s : Side) → Distinct (members J s)
  unfolding members
  members-distinct s = rising_distinct' (members J s)
      (pick_pairs (λ k. in_row s (J.kind k)) (λ x y. x < y) (from 0 J.count) (from-rising 0 J.count))

  pub talls_in_lem : {k : ℕ} → In k (tall_cells J) → (k < J.count) × (is_tall (J.kind k) ≡ true)
  unfolding tall_cells
  talls_in_lem m =
      let r = pick_in (λ k. is_tall (J.kind k)) (from 0 J.count) m in
      let h = in_from 0 J.count r.0 in
      (omega arith, r.1)

  pub in_talls : (k : ℕ) → k < J.count → is_tall (J.kind k) ≡ true → In k (tall_cells J)
  unfolding tall_cells
  in_talls k h e =
      in_pick (λ k. is_tall (J.kind k)) (from 0 J.count) (from_in k 0 J.count (omega arith) (omega arith)) e

  pub talls-rising : (I K : ℕ) → I < K → K < tall_count → at (tall_cells J) I < at (tall_cells J) K
  unfolding tall_cells
  talls-rising I K h k = rising-at (tall_cells J)
      (pick_pairs (λ k. is_tall (J.kind k)) (λ x y. x < y) (from 0 J.count) (from-rising 0 J.count)) I K h k

  pub tall_in_row : (s : Side) (k : Kind) → is_tall k ≡ true → in_row s k ≡ true
  tall_in_row row₀ both e = refl
  tall_in_row row₁ both e = refl
  tall_in_row row₀ (one t) e = absurd (let y : ◌≡◌ {A = ℕ} 0 1 = cc in omega arith)
  tall_in_row row₁ (one t) e = absurd (let y : ◌≡◌ {A = ℕ} 0 1 = cc in omega arith)

  -- tall cell I, found in a row
  pub cell-pos : (s : Side) (I : ℕ) → I < tall_count
      → (cell s (pos s I) ≡ at (tall_cells J) I) × (pos s I < length (members J s))
  cell-pos s I h =
      let t = talls_in_lem (at_in (tall_cells J) I h) in
      at_place (members J s) (at (tall_cells J) I)
      (in_members s (at (tall_cells J) I) t.0 (tall_in_row s (J.kind (at (tall_cells J) I)) t.1))

  pub line-talls : (s : Side) → Talls (line s) tall_count (pos s)
  line-talls s = record {
    tall = λ I h. ap (λ k. is_tall (J.kind k)) (cell-pos s I h).0 ∙ (talls_in_lem (at_in (tall_cells J) I h)).1;
    inside = λ I h. (cell-pos s I h).1;
    only = λ k h e.
        let m = members_in s (at_in (members J s) k h) in
        let t = at_place (tall_cells J) (cell s k) (in_talls (cell s k) m.0 e) in (
          place (cell s k) (tall_cells J),
          t.1,
          sym (place_at (members J s) k (members-distinct s) h) ∙ ap (λ x. place x (members J s)) (sym t.0),
        );
  }

  pub same-options : (I : ℕ) → I < tall_count → (line row₀).options (pos row₀ I) ≡ (line row₁).options (pos row₁ I)
  same-options I h = ap J.offers ((cell-pos row₀ I h).0 ∙ sym (cell-pos row₁ I h).0)

  -- the sum over all cells is the sum over both rows
  pub split-sum : (f : ℕ → ℕ) (l : List ℕ)
      → sum f l ≡ sum (λ k. own_in row₀ (J.kind k) (f k)) (pick (λ k. in_row row₀ (J.kind k)) l)
      + sum (λ k. own_in row₁ (J.kind k) (f k)) (pick (λ k. in_row row₁ (J.kind k)) l)
  unfolding sum pick
  split-sum f [] = refl
  split-sum f (x ∷ l) = go (J.kind x) refl (split-sum f l)
    where
      f₀ : ℕ → ℕ
      f₀ k = own_in row₀ (J.kind k) (f k)

      f₁ : ℕ → ℕ
      f₁ k = own_in row₁ (J.kind k) (f k)

      l₀ : List ℕ
      l₀ = pick (λ k. in_row row₀ (J.kind k)) l

      l₁ : List ℕ
      l₁ = pick (λ k. in_row row₁ (J.kind k)) l

      go : (t : Kind) → J.kind x ≡ t → sum f l ≡ sum f₀ l₀ + sum f₁ l₁
          → f x + sum f l ≡ sum f₀ (cond (in_row row₀ t) (x ∷ l₀) l₀) + sum f₁ (cond (in_row row₁ t) (x ∷ l₁) l₁)
      go (one row₀) e h = omega arith
      go (one row₁) e h = let z : f₁ x ≡ f x = ap (λ t. own_in row₁ t (f x)) e in omega arith
      go both e h = let z : f₁ x ≡ 0 = ap (λ t. own_in row₁ t (f x)) e in omega arith
