-- The most staples, from the recurrence: where it comes to B no placement of this kind exists; otherwise a placement by
-- site numbers that cover so few sites has the most, and there are such numbers.
use Rattle.std.specs.Prelude.{ℕ, ◌+◌}
use Rattle.definition.specs.Job.{Job}
use Rattle.theory_pair.specs.Cells.{row₀, row₁}
use Rattle.theory_cover.specs.Recurrence.{fewest}
use Rattle.theory_staples.specs.JobRow.{row_of_job}

-- ---- the recurrence

-- the fewest sites that both rows of a job cover; B if no placement of this kind exists
abbrev pub fewest_covered : Job → ℕ
fewest_covered j =
    fewest (row_of_job j row₀) (row_of_job j row₁) ((row_of_job j row₀).size + (row_of_job j row₁).size) 0 0 0 0
