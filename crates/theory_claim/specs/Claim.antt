-- What a search of both rows of a job finds is what Place may answer. This is the theorem that Place cites: from what
-- is found of the pair of rows to the claim over lists of moves.
use Rattle.std.specs.Prelude.{◌≡◌, Bool, true, false, ℕ}
use Rattle.std.proofs.Common.{◌∙◌}
use Rattle.std.proofs.Math.Option.{none, some}
use Rattle.definition.specs.Job.{Job}
use Rattle.definition.specs.Placement.{Placement}
use Rattle.definition.specs.Cost.{cost}
use Rattle.definition.specs.Moves.{Cheapest}
use Rattle.definition_laws.specs.Sound.{Sound}
use Rattle.theory_traceback.specs.Found.{PairFound}
use Rattle.theory_bridge.specs.Paired.{site_of, pair_job, pose_number}
use Rattle.theory_bridge.proofs.Offers.{wide_positive}
use Rattle.theory_bridge.specs.Answer.{placement_by}
use Rattle.theory_bridge.proofs.Answer.{place-answer}

abbrev pub reorder : Job → ℕ
reorder j = j.header.reordering

-- pose numbers, cell by cell, as a placement
abbrev pub placement_by_numbers : Job → (ℕ → ℕ) → Placement
placement_by_numbers j out_of = placement_by j (λ k. pose_number j k (out_of k))

module _ (j : Job) (sound : Sound j) (found : Bool) (x : ℕ) (out_of : ℕ → ℕ)
    (f : PairFound (reorder j) site_of (pair_job j) (wide_positive j sound) (pose_number j) found x out_of) where
  -- no way through the tables: no list of moves ends legally
  pub claim_none : found ≡ false → Cheapest j none
  claim_none e = (place-answer j sound).none_when (f.none_when e)

  -- otherwise the placement by these numbers
  pub claim_some : found ≡ true → Cheapest j (some (placement_by_numbers j out_of))
  claim_some e =
      (place-answer j sound).some_when (λ k. pose_number j k (out_of k)) (f.some_when e) (f.stated e ∙ f.least e)

  pub claim_stated : found ≡ true → cost j (placement_by_numbers j out_of) ≡ x
  claim_stated e = (place-answer j sound).stated (λ k. pose_number j k (out_of k)) ∙ f.stated e
