-- How many words of the store a search uses.
use Rattle.std.specs.Prelude.{ℕ, ◌≤◌, List}
use Rattle.std.proofs.Common.{arith}
use Rattle.search_store.specs.Map.{page_at}
use Rattle.search_row.specs.declared.Sizes.{Sizes}
use Rattle.search_row.specs.Words.{RowGiven}
use Rattle.search_stage.specs.Stage.{wide}
use Rattle.search_stage.specs.Laws.{wide_low}

-- with so many tall cells and states: the layers, and a page for each state of the largest table
abbrev pub words_for : ℕ → ℕ → ℕ
words_for talls count = page_at (wide talls talls count)

-- a table has at most twelve states
pub few-pages : {row : List ℕ} {z : Sizes} → RowGiven row z → wide z.talls z.talls z.states ≤ 12
few-pages {z = z} g =
    wide_low z.talls z.talls z.states 12 (omega arith) (omega (arith, g.grounded.all, g.grounded.coded.few))
