-- A cell's entry shows how it stands: one that is there, and one that the job lacks.
use Rattle.std.specs.Prelude.{ℕ, zero, suc, ◌+◌, ◌≤◌, ◌<◌, ◌≡◌, refl, List, length, replicate}
use Rattle.std.proofs.Common.{sym, ap, ap₂, ◌∙◌}
use Rattle.std.proofs.Math.ListN.{get_or-eq_default}
use Rattle.definition.specs.Job as paper
use Rattle.definition.specs.Placement as text
use Rattle.definition.specs.Rules.{absent_cell, no_pose, cell_at, pose_at}
use Rattle.job.specs.declared.Job.{Job}
use Rattle.job.specs.declared.Placement.{Placement}
use Rattle.job.specs.Value as value
use Rattle.job.specs.Value.{cell_of, job_of, placement_of}
use Rattle.job.specs.Parts.{width_in}
use Rattle.job.specs.Cells.{cell-there, pose-there}
use Rattle.score_order.specs.declared.Stand.{Stand}
use Rattle.score_order.specs.Words.{no_stand, stand_in}
use Rattle.score_words.specs.Flat.{Shows}

-- an array of empty entries
pub blank_at : {x : Stand} → x ≡ no_stand → (n i : ℕ) → stand_in (replicate n x) i ≡ no_stand
blank_at e zero i = refl
blank_at e (suc n) zero = e
blank_at e (suc n) (suc i) = blank_at e n i

-- how a cell stands that is there
abbrev pub stand_at : Job → Placement → ℕ → Stand
stand_at job P k =
    let cell = value.cell_at job k in
    let pose = value.pose_at P k in
    record { site = pose.site; end = pose.site + width_in (cell_of cell) pose.layout; row = cell.row; given = cell.given }

pub shows-there : (job : Job) (P : Placement) (stands : List Stand) (k : ℕ) → k < job.count → k < P.count
    → stand_in stands k ≡ stand_at job P k → Shows (job_of job) (placement_of P) stands k
unfolding cell_of
shows-there job P stands k h g e =
    let p = pose-there P k g in
    let c = cell-there job k h in
    record {
      site = ap (λ x. x.site) e ∙ sym (ap (λ x. x.site) p);
      end = ap (λ x. x.end) e ∙ sym (ap₂ (λ x y. y.site + width_in x y.layout) c p);
      row = ap (λ x. x.row) e ∙ sym (ap (λ x. x.row) c);
      given = ap (λ x. x.given) e ∙ sym (ap (λ x. x.given) c);
    }

-- of a cell that the job lacks all are 0
pub shows-none : (j : paper.Job) (P : text.Placement) (stands : List Stand) (k : ℕ) → length stands ≤ k
    → cell_at j k ≡ absent_cell → pose_at P k ≡ no_pose → Shows j P stands k
shows-none j P stands k h c p =
    let e : stand_in stands k ≡ no_stand = get_or-eq_default stands no_stand h in
    record {
      site = ap (λ x. x.site) e ∙ sym (ap (λ x. x.site) p);
      end = ap (λ x. x.end) e ∙ sym (ap₂ (λ x y. y.site + width_in x y.layout) c p);
      row = ap (λ x. x.row) e ∙ sym (ap (λ x. x.row) c);
      given = ap (λ x. x.given) e ∙ sym (ap (λ x. x.given) c);
    }
