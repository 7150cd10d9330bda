-- For a job: the number that the tables come to is the least cost of a legal
-- placement, as far as it is below the bound.
use Rattle.std.specs.Prelude.{◌≡◌, refl, Bool, true, ℕ, ◌<◌}
use Rattle.std.proofs.Common.{sym, ap, ◌∙◌, arith}
use mathlib.Core.List.{Memᴰ as In}
use Rattle.lists.specs.Numbers.{from}
use Rattle.theory_pair.specs.Pick.{pick_in, in_pick}
use Rattle.theory_pair.specs.Members.{at, at_in, at_place}
use Rattle.theory_pair.specs.Coded.{coded}
use Rattle.theory_pair.specs.Cells.{Side, row₀, row₁, Kind, one, both, in_row, is_tall, PairJob}
use Rattle.theory_pair.specs.Cells.{members, tall_cells, tall_count, cell, line, pos, answer}
use Rattle.theory_tables.specs.Steps.{B, Deck}
use Rattle.theory_tables.specs.Stages.{least_cost}
use Rattle.theory_tables.specs.Matched.{Matched}
use Rattle.theory_tables.specs.StagesRight.{Row}
use Rattle.theory_tables.specs.CaseStates.{Alike}
use Rattle.theory_tables.proofs.CasesRight.{least-right}

-- a tall cell is in both rows
tall_in : (s : Side) (k : Kind) → is_tall k ≡ true → in_row s k ≡ true
tall_in row₀ both e = refl
tall_in row₁ both e = refl
tall_in row₀ (one t) e = absurd (let y : ◌≡◌ {A = ℕ} 0 1 = cc in omega arith)
tall_in row₁ (one t) e = absurd (let y : ◌≡◌ {A = ℕ} 0 1 = cc in omega arith)

module _ {A : Type 0} (J : PairJob A) where
  -- tall cell I stands at its position in a row
  pub tall-at : (s : Side) (I : ℕ) → I < tall_count J
      → (cell J s (pos J s I) ≡ at (tall_cells J) I) × (pos J s I < (line J s).size)
  unfolding members tall_cells
  tall-at s I h =
      let k = at (tall_cells J) I in
      let t = pick_in (λ k. is_tall (J.kind k)) (from 0 J.count) (at_in (tall_cells J) I h) in
      at_place (members J s) k
      (in_pick (λ k. in_row s (J.kind k)) (from 0 J.count) t.0 (tall_in s (J.kind k) t.1))

module _ {A : Type 0} (site_of : A → ℕ) (J : PairJob A) where
  -- a row of the job with its deck
  abbrev pub row_of : (s : Side) (D : Deck) (pose : ℕ → ℕ → A) (offered : ℕ → ℕ → Bool)
      → Matched site_of (line J s) D pose offered → Row site_of (tall_count J)
  row_of s D pose offered M = record {
    line = line J s;
    deck = D;
    pose = pose;
    offered = offered;
    matched = M;
    pos = pos J s;
    inside = λ I h. let e = M.size in let i = (tall-at J s I h).1 in omega arith;
  }

  -- decks that have the poses of a cell and its offers by the cell, whatever its row
  module _ (D : Side → Deck) (pose : ℕ → ℕ → A) (offered : ℕ → ℕ → Bool)
      (M : (s : Side)
      → Matched site_of (line J s) (D s) (λ k a. pose (cell J s k) a) (λ k a. offered (cell J s k) a)) where
    abbrev pub by_cells : Side → Row site_of (tall_count J)
    by_cells s = row_of s (D s) (λ k a. pose (cell J s k) a) (λ k a. offered (cell J s k) a) (M s)

    pub cells_alike : (D row₀).poses ≡ (D row₁).poses → Alike (by_cells row₀) (by_cells row₁)
    cells_alike e = record {
      poses = e;
      pose = λ I a h l. ap (λ k. pose k a) (same I h);
      offered = λ I a h l. ap (λ k. offered k a) (same I h);
    }
      where
        same : (I : ℕ) → I < tall_count J → cell J row₀ (pos J row₀ I) ≡ cell J row₁ (pos J row₁ I)
        same I h = (tall-at J row₀ I h).0 ∙ sym (tall-at J row₁ I h).0

pub least-cost : {A : Type 0} (R : ℕ) (site_of : A → ℕ) (J : PairJob A)
    (w : (k : ℕ) (a : A) → In a (J.offers k) → 0 < J.wide k a)
    (D₀ D₁ : Deck) (pose₀ pose₁ : ℕ → ℕ → A) (offered₀ offered₁ : ℕ → ℕ → Bool)
    (M₀ : Matched site_of (line J row₀) D₀ pose₀ offered₀) (M₁ : Matched site_of (line J row₁) D₁ pose₁ offered₁)
    → Alike (row_of site_of J row₀ D₀ pose₀ offered₀ M₀) (row_of site_of J row₁ D₁ pose₁ offered₁ M₁)
    → least_cost D₀ D₁ R (tall_count J) (pos J row₀) (pos J row₁) ≡ coded B (answer R site_of J w)
least-cost R site_of J w D₀ D₁ pose₀ pose₁ offered₀ offered₁ M₀ M₁ same =
    least-right R site_of (tall_count J) (row_of site_of J row₀ D₀ pose₀ offered₀ M₀)
    (row_of site_of J row₁ D₁ pose₁ offered₁ M₁) same
