-- A job text has six numbers or seven, and an answer has as many (A7).
use Rattle.std.specs.Prelude.{ℕ, ◌≡◌, refl, Bool, true, false, ◌&&◌, cond, length, get_or, eqb}
use Rattle.definition.specs.Texts.{Text, comma}
use Rattle.definition.specs.Job.{Job, filled_lead}
use Rattle.definition.specs.Placement.{Placement}
use Rattle.definition.specs.Outcome.{number_count, numbers}

-- what is so of six and of seven is so of every job text
pub of-count : (T : ℕ → Type 0) → T 6 → T 7 → (job : Text) → T (number_count job)
unfolding number_count
of-count T six seven job = go (eqb (get_or job 0 0) filled_lead && eqb (get_or job 1 0) comma)
  where
    go : (t : Bool) → T (cond t 7 6)
    go true = seven
    go false = six

pub counted : (job : Text) (j : Job) (P : Placement) → length (numbers (number_count job) j P) ≡ number_count job
unfolding numbers
counted job j P = of-count (λ n. length (numbers n j P) ≡ n) refl refl job
