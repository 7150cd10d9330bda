-- The numbers of a line as they stand in an array, and the cell and the header that they make.
use Rattle.std.specs.Prelude.{ℕ, ◌+◌, Bool, cond, List, [], ◌∷◌, get_or, eqb}
use Rattle.definition.specs.Job as paper
use Rattle.job.specs.declared.Layout.{Layout}
use Rattle.job.specs.declared.Cell.{Cell}
use Rattle.job.specs.declared.Header.{Header}
use Rattle.job_ranges.specs.Listed.{spelled}

-- a width and eight heights
abbrev pub layout_in : List ℕ → ℕ → Layout
layout_in v at = record { width = get_or v at 0; heights = spelled (at + 1) 8 v }

-- the cell of a line, fixed or not; its second layout follows the first
abbrev pub cell_in : Bool → List ℕ → Cell
cell_in fixed v = record {
  fixed = fixed;
  row = get_or v 0 0;
  given = get_or v 1 0;
  mirrorable = eqb (get_or v 2 0) 1;
  layouts = get_or v 3 0;
  first = layout_in v 4;
  second = layout_in v (4 + paper.layout_size (get_or v 0 0));
}

-- the header of a line, with or without a weight of its own for filled steps
abbrev pub header_in : Bool → List ℕ → Header
header_in filled v = record {
  rows = get_or v 0 0;
  sites = get_or v 1 0;
  displacement = get_or v 2 0;
  reordering = get_or v 3 0;
  step = get_or v 4 0;
  shift = get_or v 5 0;
  mirror = get_or v 6 0;
  swap = get_or v 7 0;
  filled = cond filled (get_or v 8 0) (get_or v 4 0);
}

-- the header's numbers again, with the weight of filled steps
abbrev pub listed : Header → List ℕ
listed h =
    h.rows ∷ h.sites ∷ h.displacement ∷ h.reordering ∷ h.step ∷ h.shift ∷ h.mirror ∷ h.swap ∷ h.filled ∷ []
