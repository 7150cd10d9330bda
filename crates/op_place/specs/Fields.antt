-- The fields of an answer, and what an answer leaves in output and results.
use Rattle.std.specs.Prelude.{ℕ, ◌<◌, ◌^◌, ◌≡◌, List, [], ◌∷◌, ◌++◌, length, ℤ, pos}
use Rattle.definition.specs.Job as paper
use Rattle.definition.specs.Placement.{Placement, text_of}
use Rattle.definition.specs.Outcome.{numbers, over}
use Rattle.job.specs.declared.Job.{Job}
use Rattle.job.specs.declared.Placement as value
use Rattle.job.specs.Value.{job_of}
use Rattle.job.specs.Ready.{Ready}
use Rattle.score_numbers.specs.Counted.{SixOrSeven}
use Rattle.op_place.specs.Accepted.{placement_in}

-- so many numbers, then the text's length
abbrev pub fields_in : ℕ → paper.Job → Placement → ℕ → List ℤ
fields_in count j P bytes = numbers count j P ++ (pos bytes ∷ [])

-- a job and a placement that may be scored, how many numbers are asked for, and how long the text is
pub record ReadyText (job : Job) (P : value.Placement) (count bytes : ℕ) : Type 0 where
  pub ready : Ready job P
  pub many : SixOrSeven count
  pub short : bytes < 2 ^ 31

-- the placement's text over the output, and 0, 0 and its fields over the results
pub record WroteAnswer
    (job : Job) (count : ℕ) (poses output output' : List ℕ) (results results' : List ℤ)
    : Type 0 where
  pub text : output' ≡ over (text_of (placement_in job poses)) output
  pub array : results'
      ≡ over
      (pos 0 ∷ pos 0
      ∷ fields_in count (job_of job) (placement_in job poses) (length (text_of (placement_in job poses)))) results
