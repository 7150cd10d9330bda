-- The refusal that Score reports, by number and line.
use Rattle.std.specs.Prelude.{ℕ, ◌≡◌}
use Rattle.definition.specs.Texts.{Text}
use Rattle.definition.specs.Outcome.{score}

pub record Reported (job placement : Text) (r : ℕ × ℕ) : Type 0 where
  pub number : r.0 ≡ (score job placement).number
  pub line : r.1 ≡ (score job placement).line
