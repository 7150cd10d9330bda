-- What the fill engineer relies on: of a legal placement of an accepted job, each row that holds a cell can be filled.
use Rattle.std.specs.Prelude.{ℕ, ◌-◌, ◌≤◌, ◌≡◌, refl, ◌&&◌, [], length, eqb}
use Rattle.std.proofs.Common.{sym, ap, ◌∙◌, subst, arith, eqb-true}
use Rattle.std.proofs.lemmas.Bool.{false≢true}
use Rattle.definition.specs.Lists.{all}
use Rattle.definition.specs.Texts.{Text, bytes}
use Rattle.definition.specs.Placement.{Placement}
use Rattle.definition.specs.Rules.{site_at, end_at, row_cells, Legal}
use Rattle.definition.specs.Gaps.{gaps_from, is_closable, Fillable, FillableOf}
use Rattle.definition.specs.Edges.{in_five}
use Rattle.definition.specs.EdgesComputed.{opened}
use Rattle.definition_laws.specs.EdgesHold.{job_of}
use Rattle.job_laws.specs.Whole.{accepted-sound}
use Rattle.theory_bridge.specs.Paired.{row_of}
use Rattle.theory_bridge.proofs.Tests.{some-row}
use Rattle.theory_bridge.proofs.Gaps.{legal_fillable}

pub legal_gaps : (job : Text) → FillableOf job
legal_gaps job j e P l row r n =
    let q = (some-row (eqb row)).0 r in
    let same = sym (eqb-true row (row_of q.0) q.1) in
    subst (λ x. ¬ (row_cells j x ≡ []) → Fillable j P x) same (legal_fillable j (accepted-sound job j e) P l q.0) n

-- ---- the claim at work: what a caller who believes it learns of one cell alone in five sites

-- no gap at the row's start is one site, and the cell ends inside
pub five-filled : FillableOf (bytes in_five) → (P : Placement) → Legal (job_of in_five) P
    → ¬ (site_at P 0 ≡ 1) × (end_at (job_of in_five) P 0 ≤ 5)
unfolding opened job_of
five-filled f P l =
    let r = f (job_of in_five) refl P l 0 refl (λ e. let z = ap length e in omega arith) in
    let rest = all is_closable (gaps_from (job_of in_five) P (end_at (job_of in_five) P 0) []) in
    let closed : site_at P 0 - 0 ≡ 1 → ⊥ = λ e. false≢true (sym (ap (λ (x : ℕ). is_closable x && rest) e) ∙ r.closable)
    in
    (λ e. closed (omega arith), let w = r.whole in omega arith)
