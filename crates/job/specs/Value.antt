-- The job and a placement as values of the program, and those of document 01 that they stand for.
use Rattle.std.specs.Prelude.{ℕ, false, cond, List, [], ◌∷◌, map, get_or, take, replicate, eqb}
use Rattle.definition.specs.Job as paper
use Rattle.definition.specs.Placement as text
use Rattle.definition.specs.Rules as rules
use Rattle.job.specs.declared.Layout.{Layout}
use Rattle.job.specs.declared.Cell.{Cell}
use Rattle.job.specs.declared.Header.{Header}
use Rattle.job.specs.declared.Job.{Job}
use Rattle.job.specs.declared.Pose.{Pose}
use Rattle.job.specs.declared.Offer.{Offer}
use Rattle.job.specs.declared.Placement.{Placement}

abbrev pub empty_layout : Layout
empty_layout = record { width = 0; heights = replicate 8 0 }

abbrev pub empty_cell : Cell
empty_cell = record {
  fixed = false;
  row = 0;
  given = 0;
  mirrorable = false;
  layouts = 0;
  first = empty_layout;
  second = empty_layout;
}

abbrev pub empty_header : Header
empty_header = record {
  rows = 0;
  sites = 0;
  displacement = 0;
  reordering = 0;
  step = 0;
  shift = 0;
  mirror = 0;
  swap = 0;
  filled = 0;
}

abbrev pub empty_job : Job
empty_job = record { header = empty_header; count = 0; cells = replicate paper.max_cells empty_cell }

-- what the logic reads past the end of an array of cells
abbrev pub no_layout : Layout
no_layout = record { width = 0; heights = [] }

abbrev pub absent_cell : Cell
absent_cell = record {
  fixed = false;
  row = 0;
  given = 0;
  mirrorable = false;
  layouts = 0;
  first = no_layout;
  second = no_layout;
}

abbrev pub cell_at : Job → ℕ → Cell
cell_at j k = get_or j.cells k absent_cell

-- ---- what a value stands for

-- a cell of one row has 4 heights, a tall one 8
abbrev pub height_count : ℕ → ℕ
height_count row = cond (eqb row 2) 8 4

abbrev pub layout_of : ℕ → Layout → paper.Layout
layout_of row l = record { width = l.width; heights = take (height_count row) l.heights }

abbrev pub layouts_of : Cell → List paper.Layout
layouts_of c = take c.layouts (layout_of c.row c.first ∷ layout_of c.row c.second ∷ [])

unfoldable pub cell_of : Cell → paper.Cell
cell_of c =
    record { fixed = c.fixed; row = c.row; given = c.given; mirrorable = c.mirrorable; layouts = layouts_of c }

-- what a cell is offered
abbrev pub offer_in : Offer → rules.Offer
offer_in o = record { given = o.given; limit = o.limit; layouts = o.layouts; mirrorable = o.mirrorable }

unfoldable pub header_of : Header → paper.Header
header_of h = record {
  rows = h.rows;
  sites = h.sites;
  displacement = h.displacement;
  reordering = h.reordering;
  step_weight = h.step;
  shift_weight = h.shift;
  mirror_weight = h.mirror;
  swap_weight = h.swap;
  filled_weight = h.filled;
}

unfoldable pub job_of : Job → paper.Job
job_of j = record { header = header_of j.header; cells = map cell_of (take j.count j.cells) }

-- ---- a placement

abbrev pub empty_pose : Pose
empty_pose = record { site = 0; layout = 0; mark = 0 }

abbrev pub empty_placement : Placement
empty_placement = record { count = 0; poses = replicate paper.max_cells empty_pose }

abbrev pub pose_at : Placement → ℕ → Pose
pose_at P k = get_or P.poses k empty_pose

abbrev pub pose_of : Pose → text.Pose
pose_of p = record { site = p.site; layout = p.layout; mark = p.mark }

unfoldable pub placement_of : Placement → text.Placement
placement_of P = map pose_of (take P.count P.poses)
