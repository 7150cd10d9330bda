-- How the cells of a placed job stand: for each cell its site, its end, its row and its given site.
use Rattle.std.specs.Prelude.{ℕ, ◌≤◌, ◌≡◌, List, length}
use Rattle.definition.specs.Job as paper
use Rattle.definition.specs.Job.{max_cells}
use Rattle.definition.specs.Placement as text
use Rattle.definition.specs.Rules.{cell_at, site_at, end_at}
use Rattle.score_order.specs.declared.Stand.{Stand}
use Rattle.score_order.specs.Words.{no_stand, stand_in, site_in, end_in, row_in, given_in}

-- it is told how cell k stands
pub record Shows (j : paper.Job) (P : text.Placement) (stands : List Stand) (k : ℕ) : Type 0 where
  pub site : site_in stands k ≡ site_at P k
  pub end : end_in stands k ≡ end_at j P k
  pub row : row_in stands k ≡ (cell_at j k).row
  pub given : given_in stands k ≡ (cell_at j k).given

-- of every cell, also of those that the job lacks; there are as many as the job has
pub record Flat (j : paper.Job) (P : text.Placement) (stands : List Stand) : Type 0 where
  pub few : length stands ≤ max_cells
  pub count : length j.cells ≡ length stands
  pub shows : (k : ℕ) → Shows j P stands k

-- each entry from n on is the empty one
abbrev pub EmptyFrom : ℕ → List Stand → Type 0
EmptyFrom n stands = (k : ℕ) → n ≤ k → stand_in stands k ≡ no_stand
