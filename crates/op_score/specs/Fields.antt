-- The fields that the program pushes are the definition's: of a broken rule, and of a legal placement.
use Rattle.std.specs.Prelude.{ℕ, ◌≤◌, ◌≡◌, ◌∷◌, take}
use Rattle.std.proofs.Common.{ap, ne_eqb, eq-eqb}
use Rattle.std.proofs.Math.IntN.{pos}
use Rattle.definition.specs.Job.{Job}
use Rattle.definition.specs.Placement.{Placement}
use Rattle.definition.specs.Rules.{Verdict}
use Rattle.definition.specs.Outcome.{score_fields}
use Rattle.results.specs.Fields.{zeros_listed}
use Rattle.score_numbers.specs.declared.Numbers.{Numbers}
use Rattle.score_numbers.specs.Counted.{no_numbers, numbers_in, Counted, numbers-listed}

module _ (count : ℕ) (j : Job) (P : Placement) (v : Verdict) where
  pub broken-fields : count ≤ 7 → (v.rule ≡ 0 → ⊥)
      → pos v.rule ∷ pos v.cell ∷ take count (numbers_in no_numbers) ≡ score_fields count j P v
  unfolding score_fields
  broken-fields h n =
      rw (ne_eqb v.rule 0 n) (ap (λ l. pos v.rule ∷ pos v.cell ∷ l) (zeros_listed count 7 h))

  pub legal-fields : (n : Numbers) → v.rule ≡ 0 → Counted j P n
      → pos v.rule ∷ pos v.cell ∷ take count (numbers_in n) ≡ score_fields count j P v
  unfolding score_fields
  legal-fields n e c =
      rw (eq-eqb v.rule 0 e) (ap (λ l. pos v.rule ∷ pos v.cell ∷ l) (numbers-listed count j P n c))
