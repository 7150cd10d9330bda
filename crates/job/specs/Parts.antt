-- What is asked of one cell: whether it stands in a row, and its width and heights in a layout.
use Rattle.std.specs.Prelude.{ℕ, ◌+◌, ◌*◌, ◌≤◌, ◌≡◌, Bool, ◌||◌, cond, get_or, eqb}
use Rattle.definition.specs.Job as paper
use Rattle.definition.specs.Rules.{no_layout}
use Rattle.job.specs.Value.{height_count}

-- a cell of row number `of` stands in a row: it is tall, or the row is its own
abbrev pub stands_in : ℕ → ℕ → Bool
stands_in row of = eqb of 2 || eqb of row

-- the width of a cell in a layout, and its height number i there
abbrev pub width_in : paper.Cell → ℕ → ℕ
width_in c layout = (get_or c.layouts layout no_layout).width

abbrev pub height_in : paper.Cell → ℕ → ℕ → ℕ
height_in c layout i = get_or (get_or c.layouts layout no_layout).heights i 0

-- where the row's four heights begin, of a cell of row number `of`
abbrev pub first_of : ℕ → ℕ → ℕ
first_of of row = cond (eqb of 2) (4 * row) 0

-- that place, with the row's four heights from there on
pub record FirstHeight (of row first : ℕ) : Type 0 where
  pub same : first ≡ first_of of row
  pub room : first + 4 ≤ height_count of
