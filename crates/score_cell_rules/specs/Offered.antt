-- Rules 1 and 3, by what a cell is offered, on a job and a placement as values of the program.
use Rattle.std.specs.Prelude.{ℕ, ◌<◌, ◌≡◌, Bool, not}
use Rattle.std.proofs.Common.{sym, ap, ap₂, ◌∙◌, arith}
use Rattle.definition.specs.Placement as text
use Rattle.definition.specs.Rules as offered
use Rattle.definition.specs.Rules.{offer_of, offer_at, pose_at, choice_offered, site_offered, breaks1, breaks3}
use Rattle.job.specs.declared.Job.{Job}
use Rattle.job.specs.declared.Placement.{Placement}
use Rattle.job.specs.declared.Offer.{Offer}
use Rattle.job.specs.Value as value
use Rattle.job.specs.Value.{header_of, cell_of, pose_of, offer_in, job_of, placement_of}
use Rattle.job.specs.Cells.{cell-there, pose-there}

-- of a cell and a pose that are there
offer-there : (job : Job) (k : ℕ) → k < job.count
    → offer_at (job_of job) k ≡ offer_of (header_of job.header) (cell_of (value.cell_at job k))
unfolding job_of
offer-there job k h = ap (offer_of (header_of job.header)) (cell-there job k h)

-- a test of what a cell is offered
asked : (test : offered.Offer → text.Pose → Bool) (job : Job) (P : Placement) (k : ℕ) (o : offered.Offer) (t : Bool)
    → k < job.count → P.count ≡ job.count → o ≡ offer_of (header_of job.header) (cell_of (value.cell_at job k))
    → t ≡ test o (pose_of (value.pose_at P k)) → not t ≡ not (test (offer_at (job_of job) k) (pose_at (placement_of P) k))
asked test job P k o t h n e f =
    ap not (f ∙ sym (ap₂ test (offer-there job k h ∙ sym e) (pose-there P k (omega arith))))

module _ (job : Job) (P : Placement) (k : ℕ) (o : Offer) (t : Bool) (h : k < job.count) (n : P.count ≡ job.count)
    (e : offer_in o ≡ offer_of (header_of job.header) (cell_of (value.cell_at job k))) where
  pub choice-asked : t ≡ choice_offered (offer_in o) (pose_of (value.pose_at P k)) → not t ≡ breaks1 (job_of job) (placement_of P) k
  unfolding breaks1
  choice-asked f = asked choice_offered job P k (offer_in o) t h n e f

  pub site-asked : t ≡ site_offered (offer_in o) (pose_of (value.pose_at P k)) → not t ≡ breaks3 (job_of job) (placement_of P) k
  unfolding breaks3
  site-asked f = asked site_offered job P k (offer_in o) t h n e f
