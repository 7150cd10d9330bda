use Rattle.std.proofs.Common.{ℕ, ◌<◌, ◌≡◌, List, length, length-set, set, take, leb, Bool, true, false, suc, ◌∙◌, below_more, arith, get_or-set_same, get_or-set_other, get_or-take, length-take-le, refl}
use Rattle.definition.specs.Job.{max_cells}
use Rattle.definition.specs.Rules.{cell_at}
use Rattle.job.specs.declared.Job.{Job}
use Rattle.job.specs.declared.Placement.{Placement}
use Rattle.job.specs.Value.{cell_of, job_of, placement_of}
use Rattle.job.specs.Cells.{cell-there, cell_lacking, pose_lacking}
use Rattle.job.specs.Layouts.{width_small}
use Rattle.job.specs.Ready.{Ready}
use Rattle.lists.specs.Compare.{Le?, low, high, le?}
use Rattle.score_order.specs.declared.Stand.{Stand}
use Rattle.score_order.specs.Words.{no_stand, stand_in}
use Rattle.score_words.specs.Flat.{Shows}
use Rattle.score_words.specs.Shown.{blank_at, stand_at, shows-there, shows-none}
use Rattle.score_words.proofs.stands_of.Goals as goal

pub overflow_add-end : goal.overflow_add-end
overflow_add-end c =
    let k : ℕ = c.loop-k.k in
    let job : Job = c.args.job in
    let h : k < length (job_of job).cells = omega (arith, c.requires.accepted.many) in
    let q = c.requires.accepted.sound.cell k h in
    let w = λ (layout : ℕ). rw (cell-there job k (omega arith)) at (width_small (job_of job).header (cell_at (job_of job) k) layout q) in
    omega (arith, c.requires.site k (omega arith), c.width_of.ensures, w)

pub loop-k-init : goal.loop-k-init
loop-k-init c = record {
  long = refl;
  each = λ i h. absurd (omega arith);
  rest = λ i h. blank_at (grind arith) max_cells i;
}

pub loop-k-preserved : goal.loop-k-preserved
unfolding cell_of
loop-k-preserved c =
    let m = c.loop-k.invariant in
    let job : Job = c.args.job in
    let P : Placement = c.args.placement in
    let k : ℕ = c.loop-k.k in
    let s : List Stand = c.loop-k.stands in
    let x : Stand = stand_at job P k in
    rw c.width_of.ensures (record {
      long = simp length-set m.long;
      each = below_more (λ i. stand_in (set s k x) i ≡ stand_at job P i) k
          (λ i h. get_or-set_other s k i x no_stand (λ e. omega arith) ∙ m.each i h)
          (get_or-set_same s k x no_stand (omega (arith, m.long)));
      rest = λ i h. get_or-set_other s k i x no_stand (λ e. omega arith) ∙ m.rest i (omega arith);
    })

-- all cells, and those that there are not
all : (job : Job) (P : Placement) (r : Ready job P) (s : List Stand) → length s ≡ job.count
    → ((k : ℕ) → k < job.count → stand_in s k ≡ stand_at job P k) → (k : ℕ) (t : Bool)
    → Le? (suc k) job.count t → Shows (job_of job) (placement_of P) s k
all job P r s e m k true (low h) = shows-there job P s k (omega arith) (omega (arith, r.each)) (m k (omega arith))
all job P r s e m k false (high h) =
    shows-none (job_of job) (placement_of P) s k (omega arith) (cell_lacking job k (omega arith)) (pose_lacking P k (omega (arith, r.each)))

pub returns-clause-flat : goal.returns-clause-flat
returns-clause-flat c =
    let job : Job = c.args.job in
    let P : Placement = c.args.placement in
    let s : List Stand = take job.count c.loop-k.stands in
    let n : length s ≡ job.count = length-take-le job.count c.loop-k.stands (omega (arith, c.requires.accepted.few, c.loop-k.invariant.long)) in
    record {
      few = omega (arith, c.requires.accepted.few);
      count = omega (arith, c.requires.accepted.many);
      shows = λ k. all job P c.requires s n (λ i h. get_or-take job.count c.loop-k.stands i no_stand h ∙ c.loop-k.invariant.each i (omega arith)) k (leb (suc k) job.count) (le? (suc k) job.count);
    }

pub returns-clause-empty : goal.returns-clause-empty
returns-clause-empty c = λ k h. c.loop-k.invariant.rest k (omega arith)
