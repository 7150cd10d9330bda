-- What Place may answer, from the tables of the pair's theory: none where they come to the bound, and otherwise any
-- legal placement that costs what they come to.
use Rattle.std.specs.Prelude.{◌≡◌, refl, ℕ, ◌≤◌, length}
use Rattle.std.proofs.Math.Option.{Option, none, some}
use Rattle.std.proofs.Common.{arith}
use Rattle.definition.specs.Job.{Job}
use Rattle.definition.specs.Placement.{Pose, Placement}
use Rattle.definition.specs.Rules.{Legal, pose_at}
use Rattle.definition.specs.Cost.{cost}
use Rattle.definition.specs.Moves.{Cheapest}
use Rattle.definition_laws.specs.Search.{cheapest-none, cheapest-some}
use Rattle.definition_laws.specs.Sound.{Sound}
use Rattle.theory_row.specs.Cheapest.{◌⊑◌}
use Rattle.theory_pair.specs.Coded.{coded}
use Rattle.theory_pair.specs.Cells.{total, answer}
use Rattle.theory_pair.proofs.Cells.{answer-below}
use Rattle.theory_bridge.specs.Paired.{site_of, pair_job}
use Rattle.theory_bridge.specs.Poses.{placement-size, placement-pose}
use Rattle.theory_bridge.proofs.Offers.{wide_positive}
use Rattle.theory_bridge.proofs.Row.{Gives}
use Rattle.theory_bridge.proofs.Legal.{legal-pair}
use Rattle.theory_bridge.proofs.Total.{cost-total}
use Rattle.theory_bridge.specs.Small.{bound}
use Rattle.theory_bridge.proofs.Reached.{reached}
use Rattle.theory_bridge.proofs.Small.{cost-small}
use Rattle.theory_bridge.specs.Answer.{placement_by, PairLegal}

-- a legal placement that no legal one undercuts
pub cheapest : (j : Job) → Sound j → (P : Placement) → Legal j P → ((Q : Placement) → Legal j Q → cost j P ≤ cost j Q)
    → Cheapest j (some P)
cheapest j sound P l least = let r = reached j sound P l in cheapest-some j P r.0 r.1 l least

coded-below : (B x : ℕ) (o : Option ℕ) → o ⊑ x → coded B o ≤ x
unfolding coded
coded-below B x none h = absurd h
coded-below B x (some v) h = omega arith

-- what the tables come to, as a number up to the bound
abbrev pub tables : (j : Job) → Sound j → ℕ
tables j sound = coded bound (answer j.header.reordering site_of (pair_job j) (wide_positive j sound))

-- what Place may answer on a job
pub record Answers (j : Job) (sound : Sound j) : Type 0 where
  pub none_when : tables j sound ≡ bound → Cheapest j none
  pub some_when : (f : ℕ → Pose) → PairLegal j f → total site_of (pair_job j) f ≡ tables j sound
      → Cheapest j (some (placement_by j f))
  pub stated : (f : ℕ → Pose) → cost j (placement_by j f) ≡ total site_of (pair_job j) f

module _ (j : Job) (sound : Sound j) where
  tables-low : (Q : Placement) → Legal j Q → tables j sound ≤ cost j Q
  tables-low Q l =
      let p = (legal-pair j sound Q (pose_at Q) (λ k h. refl) l.each).0 l in
      let b = coded-below bound (total site_of (pair_job j) (pose_at Q))
      (answer j.header.reordering site_of (pair_job j) (wide_positive j sound))
      (answer-below j.header.reordering site_of (pair_job j) (wide_positive j sound) (pose_at Q) p)
      in
      let e = cost-total j sound Q (pose_at Q) (λ k h. refl) in
      omega arith

  pub gives : (f : ℕ → Pose) → Gives (placement_by j f) (length j.cells) f
  gives f k h = placement-pose f (length j.cells) k h

  cost-by : (f : ℕ → Pose) → cost j (placement_by j f) ≡ total site_of (pair_job j) f
  cost-by f = cost-total j sound (placement_by j f) f (gives f)

  legal-by : (f : ℕ → Pose) → PairLegal j f → Legal j (placement_by j f)
  legal-by f p = (legal-pair j sound (placement_by j f) f (gives f) (placement-size f (length j.cells))).1 p

  pub place-answer : Answers j sound
  place-answer = record {
    none_when = λ e. cheapest-none j (λ Q l. let a = tables-low Q l in let b = cost-small j sound Q l in omega arith);
    some_when = λ f p e. cheapest j sound (placement_by j f) (legal-by f p)
        (λ Q l. let a = tables-low Q l in let b = cost-by f in omega arith);
    stated = cost-by;
  }
