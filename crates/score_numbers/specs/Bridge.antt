-- The program's sums are the definition's numbers; what they are taken of.
use Prim.Native.Nat.{ℕ, ◌+◌, ◌*◌, ◌≤◌}
use Rattle.std.specs.Prelude.{◌≡◌, refl, Bool, false, eqb, ◌==◌, count_by, take, List}
use Rattle.std.proofs.Common.{sym, ◌∙◌, length-take, arith}
use Rattle.std.proofs.Math.Path.{ap, ap₂, fun_ext}
use Rattle.std.proofs.Math.ListN.{length}
use Rattle.definition.specs.Job.{max_cells, max_weight}
use Rattle.definition.specs.Lists.{from, sum, keep}
use Rattle.definition.specs.Job as paper
use Rattle.definition.specs.Placement as text
use Rattle.definition.specs.Rules.{apart, no_pose, pose_at, cells_of}
use Rattle.definition.specs.Cost.{steps, touching_steps, filled_steps, steps_in, steps_by}
use Rattle.definition.specs.Cost.{shifted, mirrored, changed, cost}
use Rattle.definition_laws.specs.Weights.{steps-parts}
use Rattle.job.specs.declared.Header.{Header}
use Rattle.job.specs.declared.Job.{Job}
use Rattle.job.specs.declared.Placement.{Placement}
use Rattle.job.specs.declared.Pose.{Pose}
use Rattle.job.specs.Value.{job_of, header_of, pose_of, placement_of}
use Rattle.job.specs.Ready.{Ready}
use Rattle.score_order.specs.declared.Stand.{Stand}
use Rattle.score_words.specs.Flat.{Flat}
use Rattle.job.specs.Cells.{pose-there}
use Rattle.score_drift.specs.Total.{Digits}
use Rattle.score_steps.specs.declared.Steps.{Steps}
use Rattle.score_numbers.specs.Sums.{sum_from, shift_in, count-poses}

-- ---- what is given

-- a job and a placement that may be scored, and how the cells stand
pub record Standing (job : Job) (P : Placement) (stands : List Stand) : Type 0 where
  pub ready : Ready job P
  pub flat : Flat (job_of job) (placement_of P) stands
  pub count : length stands ≡ job.count

-- these, and a row
pub record StandingRow (job : Job) (P : Placement) (stands : List Stand) (r : ℕ) : Type 0 where
  pub placed : Standing job P stands
  pub row : r ≤ 1

-- the weights of a header are in range
pub record Weights (h : Header) : Type 0 where
  pub step : h.step ≤ max_weight
  pub shift : h.shift ≤ max_weight
  pub mirror : h.mirror ≤ max_weight
  pub swap : h.swap ≤ max_weight
  pub filled : h.filled ≤ max_weight

-- such weights, and steps that they weigh: two rows have at most 126 pairs of neighbours
pub record StepsWeighable (h : Header) (s : Steps) : Type 0 where
  pub weights : Weights h
  pub most : s.touching + s.filled ≤ 252

-- steps by their weights
pub record StepsWeighed (h : Header) (s : Steps) (r : ℕ) : Type 0 where
  pub same : r ≡ h.step * s.touching + h.filled * s.filled
  pub most : r ≤ 252000

-- such weights, steps that are weighed, and the three other numbers, none so large that the cost does not fit
pub record Weighable (h : Header) (a b c d : ℕ) : Type 0 where
  pub weights : Weights h
  pub steps : a ≤ 252000
  pub shifted : b ≤ 800000
  pub mirrored : c ≤ max_cells
  pub changed : d ≤ max_cells

-- the steps of a placement
pub record AllSteps (j : paper.Job) (P : text.Placement) (r : Steps) : Type 0 where
  pub touching : r.touching ≡ touching_steps j P
  pub filled : r.filled ≡ filled_steps j P
  pub most : r.touching + r.filled ≤ 252

-- ---- from how the cells stand

-- sites and given sites are in range
pub flat-digits : {job : Job} {P : Placement} {stands : List Stand} → Standing job P stands → Digits stands
flat-digits {P = P} w =
    let r = w.ready in
    let f = w.flat in
    record {
      few = f.few;
      site = λ k h.
          omega (arith, (f.shows k).site, ap (λ p. p.site) (pose-there P k (omega (arith, w.count, r.each))), r.site k (omega (arith, w.count)));
      given = λ k h.
          omega (arith, (f.shows k).given, (r.accepted.sound.cell k (omega (arith, f.count))).given);
    }

pub steps-sum : (f : ℕ → ℕ) (j : paper.Job) (P : text.Placement) (a b : ℕ) → a ≡ steps_in f j P 0
    → b ≡ steps_in f j P 1 → a + b ≡ steps_by f j P
unfolding steps_by
steps-sum f j P a b e g = omega arith

-- all steps are those of both kinds
pub steps_all : (j : paper.Job) (P : text.Placement) (r : Steps) → AllSteps j P r
    → r.touching + r.filled ≡ steps j P
steps_all j P r a = ap₂ ◌+◌ a.touching a.filled ∙ sym (steps-parts j P)

module _ {j : paper.Job} {P : text.Placement} {stands : List Stand} (f : Flat j P stands) where
  pub flat-shifted : sum_from (shift_in stands) 0 (length stands) ≡ shifted j P
  unfolding sum_from shift_in shifted
  flat-shifted =
      ap₂ (λ (g : ℕ → ℕ) m. sum g (from 0 m)) (fun_ext (λ k. ap₂ apart (f.shows k).site (f.shows k).given))
      (sym f.count)

-- of a placement that may be scored, as many cells pass a test of their pose as poses do
module _ (job : Job) (P : Placement) (r : Ready job P) where
  placed-count : (test : text.Pose → Bool) → test no_pose ≡ false
      → length (keep (λ k. test (pose_at (placement_of P) k)) (cells_of (job_of job)))
      ≡ count_by (λ p. test (pose_of p)) (take P.count P.poses)
  unfolding placement_of
  placed-count test none =
      let f : ℕ → Bool = λ k. test (pose_at (placement_of P) k) in
      let l = take P.count P.poses in
      let n = length (job_of job).cells in
      let few : length l ≤ n = simp length-take (omega (arith, r.each, r.accepted.many)) in
      count-poses test none l 0 n few f (λ i. let e : 0 + i ≡ i = omega arith in ap f e)

  pub placed-mirrored : count_by (λ (p : Pose). p.mark == 1) (take P.count P.poses) ≡ mirrored (job_of job) (placement_of P)
  unfolding mirrored
  placed-mirrored = sym (placed-count (λ q. eqb q.mark 1) refl)

  pub placed-changed : count_by (λ (p : Pose). p.layout == 1) (take P.count P.poses) ≡ changed (job_of job) (placement_of P)
  unfolding changed
  placed-changed = sym (placed-count (λ q. eqb q.layout 1) refl)

-- the weights are the header's
pub cost-sum : (job : Job) (P : text.Placement) (s : Steps) (a b c d : ℕ) → AllSteps (job_of job) P s
    → StepsWeighed job.header s a → b ≡ shifted (job_of job) P
    → c ≡ mirrored (job_of job) P → d ≡ changed (job_of job) P
    → a + job.header.shift * b + job.header.mirror * c + job.header.swap * d ≡ cost (job_of job) P
unfolding cost job_of header_of
cost-sum job P s a b c d t w f g h = rw (w.same, t.touching, t.filled, f, g, h)

pub weights-small : (job : Job) (P : Placement) → Ready job P → Weights job.header
unfolding job_of header_of
weights-small job P r =
    let h = r.accepted.sound.header in
    record { step = h.step; shift = h.shift; mirror = h.mirror; swap = h.swap; filled = h.filled }
