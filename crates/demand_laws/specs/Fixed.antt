-- What the desk relies on where cells must not move: a legal placement leaves every fixed cell as given.
use Rattle.std.specs.Prelude.{◌<◌, ◌≡◌, refl, true, false, List}
use Rattle.std.proofs.Common.{sym, ◌∙◌, arith}
use Rattle.std.proofs.Math.Bool.{and-false}
use Rattle.std.proofs.lemmas.Bool.{false≢true}
use Rattle.std.proofs.Math.Decide.{ℕ_discrete}
use Rattle.definition.specs.Job.{Job}
use Rattle.definition.specs.Placement.{Placement}
use Rattle.definition.specs.Rules.{Legal, cell_at, pose_at, offer_at}
use Rattle.definition.specs.Moves.{Move, after, FixedStay}
use Rattle.definition.specs.Edges.{beside_fixed}
use Rattle.definition.specs.EdgesComputed.{opened}
use Rattle.definition_laws.specs.EdgesHold.{job_of}
use Rattle.theory_bridge.specs.Poses.{pose-same}
use Rattle.theory_bridge.proofs.Offers.{keeps_allowed}

pub legal-stays : (j : Job) (P : Placement) → Legal j P → FixedStay j P
legal-stays j P l k h e =
    let a = (keeps_allowed j k P).0 (l.rule 1 k h, l.rule 2 k h, l.rule 3 k h) in
    let limit : (offer_at j k).limit ≡ 0 = rw e in
    let layouts : (offer_at j k).layouts ≡ 1 = rw e in
    let left = a.left in
    let right = a.right in
    let first = a.layout in
    pose-same (pose_at P k) _ (omega arith) (omega arith)
    (go a.mark a.mirrorable (ℕ_discrete (pose_at P k).mark 1))
  where
    go : (pose_at P k).mark < 2 → ((pose_at P k).mark ≡ 1 → (offer_at j k).mirrorable ≡ true)
        → Dec ((pose_at P k).mark ≡ 1) → (pose_at P k).mark ≡ 0
    go low may (yes q) =
        let f : (offer_at j k).mirrorable ≡ false = rw e (and-false (cell_at j k).mirrorable) in
        absurd (false≢true (sym f ∙ may q))
    go low may (no n) = omega arith

-- ---- at work: of a fixed cell and a free one beside it, the fixed one is where it was after every list of moves that
-- ends legally
pub first-stays : ((j : Job) (P : Placement) → Legal j P → FixedStay j P) → (ms : List Move)
    → Legal (job_of beside_fixed) (after (job_of beside_fixed) ms)
    → pose_at (after (job_of beside_fixed) ms) 0 ≡ record { site = 0; layout = 0; mark = 0 }
unfolding opened job_of
first-stays stay ms l = stay (job_of beside_fixed) (after (job_of beside_fixed) ms) l 0 (omega arith) refl
