-- The steps of two neighbours, from how they stand, the cells and the poses, are the definition's.
use Rattle.std.specs.Prelude.{ℕ, ◌*◌, ◌-◌, ◌<◌, ◌≡◌, List}
use Rattle.std.proofs.Common.{sym, ap₂, ◌∙◌, arith}
use Rattle.definition.specs.Job as paper
use Rattle.definition.specs.Placement as text
use Rattle.definition.specs.Rules.{cell_at, pose_at, gap}
use Rattle.definition.specs.Cost.{differing, steps_at}
use Rattle.job.specs.declared.Job.{Job}
use Rattle.job.specs.declared.Placement.{Placement}
use Rattle.job.specs.Value as value
use Rattle.job.specs.Value.{cell_of, pose_of, job_of, placement_of}
use Rattle.job.specs.Cells.{cell-there, pose-there}
use Rattle.score_order.specs.Words.{site_in, end_in}
use Rattle.score_order.specs.declared.Stand.{Stand}
use Rattle.score_words.specs.Flat.{Flat}
use Rattle.score_steps.specs.Heights.{differing_of}
use Rattle.score_steps.proofs.Heights.{differing-of}

steps-at : (f : ℕ → ℕ) (j : paper.Job) (P : text.Placement) (row a b x y : ℕ) → x ≡ f (gap j P a b)
    → y ≡ differing j P row a b → x * y ≡ steps_at f j P row a b
unfolding steps_at
steps-at f j P row a b x y e g = ap₂ ◌*◌ e g

-- from how they stand, the cells and the poses: the definition's steps
module _ (job : Job) (P : Placement) (stands : List Stand) (row a b r : ℕ) where
  abbrev differ : ℕ
  differ =
      differing_of
      (cell_of (value.cell_at job a))
      (pose_of (value.pose_at P a))
      (cell_of (value.cell_at job b))
      (pose_of (value.pose_at P b))
      row

  pub steps-value : Flat (job_of job) (placement_of P) stands → P.count ≡ job.count
      → a < job.count → b < job.count
      → (charged : ℕ → ℕ) → r ≡ charged (site_in stands b - end_in stands a) * differ
      → r ≡ steps_at charged (job_of job) (placement_of P) row a b
  steps-value w n g h charged e =
      let f : paper.Cell → text.Pose → paper.Cell → text.Pose → ℕ = λ c p d q. differing_of c p d q row in
      let left = f (cell_at (job_of job) a) (pose_at (placement_of P) a) in
      let d =
      ap₂
      (λ c p. f c p (cell_of (value.cell_at job b)) (pose_of (value.pose_at P b)))
      (sym (cell-there job a g))
      (sym (pose-there P a (omega arith)))
      ∙ ap₂ left (sym (cell-there job b h)) (sym (pose-there P b (omega arith)))
      ∙ sym (differing-of (job_of job) (placement_of P) row a b) in
      e
      ∙ steps-at charged (job_of job) (placement_of P) row a b _ _
      (ap₂ (λ x y. charged (x - y)) (w.shows b).site (w.shows a).end) d
