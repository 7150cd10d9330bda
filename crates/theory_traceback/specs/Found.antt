-- What a search of a pair's rows finds, said of the pair: none where no legal placement costs less than B, and
-- otherwise a pose number for each cell, by which the placement is legal at the least cost.
use Rattle.std.specs.Prelude.{◌≡◌, Bool, true, false, ℕ, ◌<◌}
use Rattle.std.proofs.Math.Path.{ap}
use Rattle.std.proofs.Common.{◌∙◌, arith}
use mathlib.Core.List.{Memᴰ as In}
use Rattle.theory_pair.specs.Coded.{coded}
use Rattle.theory_pair.specs.Cells.{Side, row₀, row₁, PairJob, line, cell, pos, tall_count, answer, LegalPair, total}
use Rattle.theory_tables.specs.Steps.{B, Deck}
use Rattle.theory_tables.specs.Stages.{least_cost}
use Rattle.theory_tables.specs.Matched.{Matched}
use Rattle.theory_tables.proofs.LeastCost.{cells_alike, least-cost}
use Rattle.theory_traceback.specs.Positions.{table_same}
use Rattle.theory_traceback.specs.Placed.{Searched}

-- no cell is offered a pose without sites
abbrev pub Wide : {A : Type 0} → PairJob A → Type 0
Wide {A} J = (k : ℕ) (a : A) → In a (J.offers k) → 0 < J.wide k a

-- the least cost of a legal placement, B where none is below B
abbrev pub least_pair : {A : Type 0} (R : ℕ) (site_of : A → ℕ) (J : PairJob A) → Wide J → ℕ
least_pair R site_of J wide = coded B (answer R site_of J wide)

pub record PairFound {A : Type 0} (R : ℕ) (site_of : A → ℕ) (J : PairJob A) (wide : Wide J) (pose_of : ℕ → ℕ → A)
    (found : Bool) (cost : ℕ) (number : ℕ → ℕ) : Type 0 where
  pub none_when : found ≡ false → least_pair R site_of J wide ≡ B
  pub some_when : found ≡ true → LegalPair R site_of J (λ k. pose_of k (number k))
  pub stated : found ≡ true → total site_of J (λ k. pose_of k (number k)) ≡ cost
  pub least : found ≡ true → cost ≡ least_pair R site_of J wide

-- the tables of both rows come to that
module _ {A : Type 0} (R : ℕ) (site_of : A → ℕ) (J : PairJob A) (wide : Wide J) (pose_of : ℕ → ℕ → A)
    (offer_of : ℕ → ℕ → Bool) (D₀ D₁ : Deck) (tallAt₀ tallAt₁ : ℕ → ℕ)
    (S₀ : Searched site_of J pose_of offer_of row₀ D₀ tallAt₀) (S₁ : Searched site_of J pose_of offer_of row₁ D₁ tallAt₁)
    (same : D₀.poses ≡ D₁.poses) where
  decks : Side → Deck
  decks row₀ = D₀
  decks row₁ = D₁

  pub tables-least : least_cost D₀ D₁ R (tall_count J) tallAt₀ tallAt₁ ≡ least_pair R site_of J wide
  unfolding decks
  tables-least =
      ap (λ t. t 0 0 0) (table_same (tall_count J) D₀ D₁ R tallAt₀ (pos J row₀) tallAt₁ (pos J row₁)
      S₀.stands S₁.stands (tall_count J) (omega arith))
      ∙ least-cost R site_of J wide D₀ D₁ _ _ _ _ S₀.matched S₁.matched
      (cells_alike site_of J decks pose_of offer_of matched same)
    where
      matched : (s : Side)
          → Matched site_of (line J s) (decks s) (λ k a. pose_of (cell J s k) a) (λ k a. offer_of (cell J s k) a)
      matched row₀ = S₀.matched
      matched row₁ = S₁.matched
