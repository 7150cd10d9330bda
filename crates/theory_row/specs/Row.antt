-- A row in general: n cells in file order, numbered from 0; cell k stands at site k and is wide k sites wide. What
-- rules 4 and 6 say of the order of the cells from left to right, and the way back.
use Rattle.std.specs.Prelude.{ℕ}
use Rattle.theory_row.specs.Rules.{Clear, Rule4, Rule5, Rule6, NoGapOne}

-- ---- the row's rules and the window's runs: one and the same

-- b may stand right of a as its neighbour: rules 4 and 5
abbrev pub Fits : (ℕ → ℕ) → (ℕ → ℕ) → ℕ → ℕ → Type 0
Fits site wide a b = Clear site wide a b × NoGapOne site wide a b

pub record LegalSites (R : ℕ) (site wide : ℕ → ℕ) (n : ℕ) : Type 0 where
  pub rule4 : Rule4 site wide n
  pub rule5 : Rule5 site wide n
  pub rule6 : Rule6 R site n
