-- The pair of rows, whole: the cheapest stages are the cheapest legal placement.
use Rattle.std.specs.Prelude.{ℕ, ◌<◌}
use mathlib.Core.List.{Memᴰ as In}
use Rattle.std.proofs.Math.Option.{Option}
use Rattle.theory_pair.specs.Pair.{Stages, ending, table}
use Rattle.theory_pair.specs.Agree.{Agree}
unfoldable pub use Rattle.theory_pair.specs.Legal.{members, tall_cells}
pub use Rattle.theory_pair.specs.Legal.{Side, row₀, row₁, Kind, one, both, PairJob, in_row, is_tall, own_in}
pub use Rattle.theory_pair.specs.Legal.{site, width, row_order, RowEnded, neighbours, total, LegalPair}
pub use Rattle.theory_pair.specs.Lines.{cell, line, tall_count, pos}

module _ {A : Type 0} (R : ℕ) (site_of : A → ℕ) (J : PairJob A) where
  -- ---- a placement gives two rows that agree, and two rows that agree give a placement

  abbrev pub Agreed : (ℕ → A) → (ℕ → A) → Type 0
  Agreed g₀ g₁ = Agree R site_of (line J row₀) (line J row₁) (pos J row₀) (pos J row₁) (tall_count J) g₀ g₁

  module _ (w : (k : ℕ) (a : A) → In a (J.offers k) → 0 < J.wide k a) where
    -- ---- the theorem

    -- stages over all tall cells, to the end, at cost x
    abbrev pub StagesTo : ℕ → Type 0
    StagesTo x = Stages R site_of (line J row₀) (line J row₁) (pos J row₀) (pos J row₁) (tall_count J)
        (ending R site_of (line J row₀) (line J row₁) (pos J row₀) (pos J row₁)) x

    -- the least cost that the tables come to
    abbrev pub answer : Option ℕ
    answer = table R site_of (line J row₀) (line J row₁) (pos J row₀) (pos J row₁) (tall_count J)
        (ending R site_of (line J row₀) (line J row₁) (pos J row₀) (pos J row₁))
