-- Of the layouts of a cell: how many heights each has, what is read of one that it lacks, and how wide it may be.
use Rattle.std.specs.Prelude.{ℕ, suc, ◌≤◌, ◌≡◌, Bool, true, false, cond, List, [], ◌∷◌, length, get_or, take, eqb, leb}
use Rattle.std.proofs.Math.Path.{sym}
use Rattle.std.proofs.Common.{ap, arith, length-take}
use Rattle.std.proofs.Math.ListN.{get_or-eq_default}
use Rattle.lists.specs.Compare.{Le?, low, high, le?}
use Rattle.definition.specs.Job as paper
use Rattle.definition.specs.Job.{max_width}
use Rattle.definition.specs.Rules.{no_layout}
use Rattle.definition_laws.specs.Sound.{SoundCell}
use Rattle.job.specs.declared.Cell.{Cell}
use Rattle.job.specs.Value.{cell_of, layout_of, height_count}
use Rattle.job.specs.Parts.{width_in, height_in}

pub count_small : (row : ℕ) → height_count row ≤ 8
count_small row = go (eqb row 2)
  where
    go : (t : Bool) → cond t 8 4 ≤ 8
    go true = omega arith
    go false = omega arith

-- both layouts that a cell may have
abbrev two : Cell → List paper.Layout
two c = layout_of c.row c.first ∷ layout_of c.row c.second ∷ []

-- of a layout that the cell lacks, and of one past the two that a cell may have
module _ (c : Cell) (i : ℕ) where
  past : length (take c.layouts (two c)) ≤ i → get_or (cell_of c).layouts i no_layout ≡ no_layout
  unfolding cell_of
  past h = get_or-eq_default (take c.layouts (two c)) no_layout h

  pub layout_lacking : c.layouts ≤ i → get_or (cell_of c).layouts i no_layout ≡ no_layout
  layout_lacking h = past (simp length-take (omega arith))

  pub layout-beyond : 2 ≤ i → get_or (cell_of c).layouts i no_layout ≡ no_layout
  layout-beyond h = past (simp length-take (omega arith))

module _ (c : Cell) (l i : ℕ) where
  pub height_lacking : c.layouts ≤ l → 0 ≡ height_in (cell_of c) l i
  height_lacking h = sym (ap (λ x. get_or x.heights i 0) (layout_lacking c l h))

  pub height-beyond : 2 ≤ l → 0 ≡ height_in (cell_of c) l i
  height-beyond h = sym (ap (λ x. get_or x.heights i 0) (layout-beyond c l h))

-- a sound cell is at most that wide, also in a layout that it lacks
pub width_small : (h : paper.Header) (c : paper.Cell) (l : ℕ) → SoundCell h c → width_in c l ≤ max_width
width_small h c l s = go (leb (suc l) (length c.layouts)) (le? (suc l) (length c.layouts))
  where
    go : (t : Bool) → Le? (suc l) (length c.layouts) t → width_in c l ≤ max_width
    go true (low g) = (s.layout l g).narrow
    go false (high g) = rw (width_in, get_or-eq_default c.layouts no_layout {n = l} (omega arith)) (omega arith)
