-- A row of the pair theory with the deck that stands for it.
use Rattle.std.specs.Prelude.{Bool, ℕ, ◌<◌}
use Rattle.theory_pair.specs.Segment.{Line}
use Rattle.theory_tables.specs.Steps.{Deck}
use Rattle.theory_tables.specs.Matched.{Matched}

-- A row, its deck, and where its tall cells stand.
pub record Row {A : Type 0} (site_of : A → ℕ) (talls : ℕ) : Type 0 where
  pub line : Line A
  pub deck : Deck
  pub pose : ℕ → ℕ → A
  pub offered : ℕ → ℕ → Bool
  pub matched : Matched site_of line deck pose offered
  pub pos : ℕ → ℕ
  pub inside : (I : ℕ) → I < talls → pos I < deck.size
