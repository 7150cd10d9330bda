-- The cells of a pair's rows by position: no two alike in a row, and a cell of both rows is a tall one.
use Rattle.std.specs.Prelude.{◌≡◌, refl, true, ℕ, ◌<◌, length}
use Rattle.std.proofs.Common.{sym, ap, ◌∙◌, arith}
use Rattle.lists.specs.Numbers.{from, in_from}
use Rattle.lists.specs.Membership.{Distinct}
use Rattle.theory_row.specs.Order.{place}
use Rattle.theory_pair.specs.Pick.{pick_in, pick_pairs}
use Rattle.theory_pair.specs.Members.{at, at_in, place_at, from-rising, rising_distinct'}
use Rattle.theory_pair.specs.Cells.{Side, row₀, row₁, Kind, one, both, PairJob, in_row, is_tall, members, tall_cells}
use Rattle.theory_pair.specs.Cells.{pos, tall_count, cell}
use Rattle.theory_pair.proofs.Lines.{cell-pos, line-talls}

-- a cell of both rows is tall
both-tall : (t : Kind) → in_row row₀ t ≡ true → in_row row₁ t ≡ true → is_tall t ≡ true
both-tall both e z = refl
both-tall (one row₀) e z = absurd (let y : ◌≡◌ {A = ℕ} 0 1 = cc in omega arith)
both-tall (one row₁) e z = absurd (let y : ◌≡◌ {A = ℕ} 0 1 = cc in omega arith)

in_row_lem : {A : Type 0} (J : PairJob A) (s : Side) (p : ℕ) → p < length (members J s)
    → in_row s (J.kind (cell J s p)) ≡ true
unfolding members
in_row_lem J s p h = (pick_in (λ k. in_row s (J.kind k)) (from 0 J.count) (at_in (members J s) p h)).1

pub cell_below : {A : Type 0} (J : PairJob A) (s : Side) (p : ℕ) → p < length (members J s) → cell J s p < J.count
unfolding members
cell_below J s p h =
    let m = (pick_in (λ k. in_row s (J.kind k)) (from 0 J.count) (at_in (members J s) p h)).0 in
    omega (arith, in_from 0 J.count m)

-- no cell is twice in a row
members-distinct : {A : Type 0} (J : PairJob A) (s : Side) → Distinct (members J s)
unfolding members
members-distinct J s = rising_distinct' (members J s)
    (pick_pairs (λ k. in_row s (J.kind k)) (λ x y. x < y) (from 0 J.count) (from-rising 0 J.count))

pub cells-apart : {A : Type 0} (J : PairJob A) (s : Side) (k m : ℕ) → k < length (members J s)
    → m < length (members J s) → cell J s k ≡ cell J s m → k ≡ m
cells-apart J s k m h l e =
    sym (place_at (members J s) k (members-distinct J s) h) ∙ ap (λ c. place c (members J s)) e
    ∙ place_at (members J s) m (members-distinct J s) l

-- a cell at a position in both rows is a tall cell, which stands there
pub shared-tall : {A : Type 0} (J : PairJob A) (p₀ p₁ : ℕ) → p₀ < length (members J row₀) → p₁ < length (members J row₁)
    → cell J row₀ p₀ ≡ cell J row₁ p₁
    → (I : ℕ) × (I < tall_count J) × (p₀ ≡ pos J row₀ I) × (p₁ ≡ pos J row₁ I)
shared-tall J p₀ p₁ h₀ h₁ e =
    let t₀ = both-tall (J.kind (cell J row₀ p₀)) (in_row_lem J row₀ p₀ h₀)
    (ap (λ k. in_row row₁ (J.kind k)) e ∙ in_row_lem J row₁ p₁ h₁) in
    let r₀ = (line-talls J row₀).only p₀ h₀ t₀ in
    let r₁ = (line-talls J row₁).only p₁ h₁ (ap (λ k. is_tall (J.kind k)) (sym e) ∙ t₀) in
    let c₀ : cell J row₀ p₀ ≡ at (tall_cells J) r₀.0 = ap (cell J row₀) r₀.2
    ∙ (cell-pos J row₀ r₀.0 r₀.1).0 in
    let c₁ : cell J row₁ p₁ ≡ at (tall_cells J) r₁.0 = ap (cell J row₁) r₁.2
    ∙ (cell-pos J row₁ r₁.0 r₁.1).0 in
    (r₀.0, r₀.1, r₀.2, r₁.2 ∙ ap (λ k. place k (members J row₁)) (sym c₁ ∙ sym e ∙ c₀))
