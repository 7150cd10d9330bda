-- A verdict is of small numbers: a rule that there is, and a cell that the job has. Theorems on the definition.
use Rattle.std.specs.Prelude.{ℕ, zero, suc, ◌+◌, ◌≤◌, Bool, List, [], ◌∷◌, length}
use Rattle.std.proofs.Common.{arith}
use Rattle.definition.specs.Lists.{from}
use Rattle.definition.specs.Job.{Job}
use Rattle.definition.specs.Placement.{Placement}
use Rattle.definition.specs.Rules.{lowest, Verdict, first_broken, verdict, rules}
use Rattle.score_cell_rules.specs.Lowest.{lowest-small}

pub record VerdictSmall (r n : ℕ) (v : Verdict) : Type 0 where
  pub rule : v.rule ≤ r
  pub cell : v.cell ≤ n

broken-small : (r n : ℕ) (fs : List (ℕ → Bool)) → VerdictSmall (r + length fs) n (first_broken (suc r) fs (from 0 n))
unfolding first_broken
broken-small r n [] = record { rule = omega arith; cell = omega arith }
broken-small r n (f ∷ fs) = go (lowest f (from 0 n)) (lowest-small f 0 n) (broken-small (suc r) n fs)
  where
    go : (m : ℕ) → m ≤ 0 + n → VerdictSmall (suc r + length fs) n (first_broken (suc (suc r)) fs (from 0 n))
        → VerdictSmall (r + suc (length fs)) n
        (elim m [ zero ↦ first_broken (suc (suc r)) fs (from 0 n) | suc k ↦ record { rule = suc r; cell = suc k } ])
    go zero h s = record { rule = omega (arith, s.rule); cell = s.cell }
    go (suc k) h s = record { rule = omega arith; cell = omega arith }

pub verdict-small : (j : Job) (P : Placement) → VerdictSmall (length (rules j P)) (length j.cells) (verdict j P)
unfolding verdict
verdict-small j P = broken-small 0 (length j.cells) (rules j P)
