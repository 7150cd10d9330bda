-- The rules by their number. Nothing here is about a program.
use Rattle.std.specs.Prelude.{ℕ, zero, suc, ◌≤◌, ◌<◌, ◌≡◌, refl, Bool, false, [], ◌∷◌, length, get_or, drop}
use Rattle.std.proofs.Common.{ap, arith, drop-cons}
use Rattle.std.proofs.Math.Decide.{dec_lt}
use Rattle.std.proofs.Math.ListN.{get_or-eq_default}
use Rattle.definition.specs.Job as paper
use Rattle.definition.specs.Placement as text
use Rattle.definition.specs.Rules.{rules, never, rule_of}
use Rattle.job.specs.Value.{job_of, empty_job}

-- how many rules there are, of any job
abbrev pub rule_count : ℕ
rule_count = length (rules (job_of empty_job) [])

module _ (j : paper.Job) (P : text.Placement) where
  -- a number that no rule has
  pub no-rule : (rule k : ℕ) → (1 ≤ rule → rule ≤ length (rules j P) → ⊥) → rule_of j P rule k ≡ false
  no-rule zero k h = refl
  no-rule (suc i) k h = go (dec_lt i (length (rules j P)))
    where
      go : Dec (i < length (rules j P)) → get_or (rules j P) i never k ≡ false
      go (yes g) = absurd (h (omega arith) (omega arith))
      go (no g) =
          ap (λ (f : ℕ → Bool). f k) (get_or-eq_default (rules j P) never {n = i} (omega arith))

  -- the rules from one on: that one, and those from the next on
  pub rules-from : (i rule : ℕ) → rule ≡ suc i → i < length (rules j P)
      → drop i (rules j P) ≡ rule_of j P rule ∷ drop rule (rules j P)
  rules-from i rule e h = rw e (drop-cons (rules j P) i never h)
