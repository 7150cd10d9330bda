-- What both texts are read as: Score's refusal, or a job and a placement that may be scored.
use Rattle.std.specs.Prelude.{ℕ, ◌^◌, ◌<◌, ◌≡◌, Result, Ok, Err, MatchResult, List, [], ◌∷◌, length}
use Rattle.std.specs.Result.{result_map_both}
use Rattle.std.proofs.Common.{sym, ◌∙◌, arith, ne_eqb}
use Rattle.std.proofs.Math.Path.{ap}
use Rattle.definition.specs.Texts.{Text}
use Rattle.definition.specs.Job as paper
use Rattle.definition.specs.Job.{accepted, read_job}
use Rattle.definition.specs.Placement.{Placement, Poses, poses, read_placement}
use Rattle.definition.specs.Outcome as outcome
use Rattle.definition.specs.Outcome.{Outcome, without_line, first_of, refused_by}
use Rattle.definition.specs.Outcome.{poses_refusal, score_refusals, as_score}
use Rattle.definition_laws.specs.Outcomes.{list-refuses}
use Rattle.job.specs.declared.Job as job
use Rattle.job.specs.declared.Placement as placement
use Rattle.job.specs.Value.{job_of, placement_of}
use Rattle.job.specs.Ready.{Ready}
use Rattle.job_read.specs.Reads.{Reads, reads-accepted, reads-refused}
use Rattle.placement_read.specs.Reading.{ReadAs, read-fault, read_whole}
use Rattle.results.specs.declared.Refusal.{Refusal}
use Rattle.results.specs.Refusals.{number_of, line_of, refusal_of, numbered}
use Rattle.texts_read.specs.declared.Texts.{Texts}

-- the refusal of document 01, by the two texts
abbrev pub texts_refusal : Text → Text → outcome.Refusal
texts_refusal jobText placementText = first_of (score_refusals (read_job jobText) placementText)

-- a job and a placement that were read
pub record BothRead (jobText placementText : Text) (r : Texts) : Type 0 where
  pub refusal : texts_refusal jobText placementText ≡ without_line 0
  pub ready : Ready r.job r.placement
  pub job : read_job jobText ≡ accepted (job_of r.job)
  pub placement : read_placement (length (job_of r.job).cells) placementText ≡ poses (placement_of r.placement)

-- why one of them is refused, at a line that a signed number can tell
pub record TextsRefused (jobText placementText : Text) (f : Refusal) : Type 0 where
  pub refusal : texts_refusal jobText placementText ≡ refusal_of f
  pub line : line_of f < 2 ^ 31

abbrev pub TextsRead : Text → Text → Result Texts Refusal → Type 0
TextsRead jobText placementText r =
    MatchResult r (λ t. BothRead jobText placementText t) (λ f. TextsRefused jobText placementText f)

-- ---- what the reading of each text says

module _ (jobText placementText : Text) where
  pub by_job : (f : Refusal) → Reads (read_job jobText) (Err f) → TextsRefused jobText placementText f
  unfolding first_of
  by_job f h =
      let n = (numbered f).some in
      record {
        refusal =
            ap (λ (x : paper.Reading). first_of (score_refusals x placementText)) (reads-refused h)
            ∙ rw (ne_eqb (number_of f) 0 (λ z. omega arith));
        line = omega (arith, h.refused.line);
      }

  module _ (j : job.Job) (h : Reads (read_job jobText) (Ok j)) where
    -- the lines that are due are the job's cells
    due : {ps : Poses} → read_placement j.count placementText ≡ ps
        → read_placement (length (job_of j).cells) placementText ≡ ps
    due e = ap (λ (n : ℕ). read_placement n placementText) h.accepted.many ∙ e

    -- the placement's refusal decides
    poses-first : {ps : Poses} → read_placement j.count placementText ≡ ps
        → texts_refusal jobText placementText ≡ first_of (poses_refusal ps ∷ [])
    unfolding first_of
    poses-first e =
        ap (λ (x : paper.Reading). first_of (score_refusals x placementText)) (reads-accepted h)
        ∙ ap (λ (ps : Poses). first_of (poses_refusal ps ∷ [])) (due e)

    pub by_fault : (f : Refusal) → ReadAs placementText j.count (Err f) → TextsRefused jobText placementText f
    unfolding first_of
    by_fault f q =
        let few = h.accepted.few in
        record { refusal = poses-first (read-fault q) ∙ rw q.faulty.number; line = omega (arith, q.faulty.line) }

    pub by_both : (p : placement.Placement) → ReadAs placementText j.count (Ok p)
        → BothRead jobText placementText (record { job = j; placement = p })
    unfolding first_of
    by_both p q = record {
      refusal = poses-first (read_whole q);
      ready = record { accepted = h.accepted; each = q.whole.count; site = λ k l. (q.whole.kept.small k).site };
      job = reads-accepted h;
      placement = due (read_whole q);
    }

    -- by what the placement text is read as
    pub by-placement : (r : Result placement.Placement Refusal) → ReadAs placementText j.count r
        → TextsRead jobText placementText (result_map_both (λ p. record { job = j; placement = p }) (λ f. f) r)
    by-placement (Ok p) q = by_both p q
    by-placement (Err f) q = by_fault f q

-- ---- an operation that refuses as Score does

-- what it refuses by
pub as_refused : {jobText placementText : Text} {f : Refusal} → TextsRefused jobText placementText f
    → (n : ℕ) (more : paper.Job → Placement → List outcome.Refusal) (answer : paper.Job → Placement → Outcome)
    → as_score n more answer (read_job jobText) placementText ≡ refused_by n (refusal_of f)
as_refused {jobText} {placementText} {f} t n more answer =
    let some = (numbered f).some in
    list-refuses n (score_refusals (read_job jobText) placementText) _ _
    (λ z. let e = sym (ap (λ (x : outcome.Refusal). x.number) t.refusal) ∙ z in omega arith)
    ∙ ap (refused_by n) t.refusal
