-- The numbers of a placement as the program has them, and that they are the definition's.
use Rattle.std.specs.Prelude.{ℕ, ◌+◌, ◌≤◌, ◌<◌, ◌^◌, ◌≡◌, refl, Bool, false, ◌&&◌, cond, List, [], ◌∷◌, ◌++◌, length, get_or, take, eqb, ℤ, pos}
use Rattle.std.proofs.Common.{sym, ap, arith}
use Rattle.std.proofs.Math.Bool.{and-false}
use Rattle.definition.specs.Texts.{Text, comma}
use Rattle.definition.specs.Job.{filled_lead}
use Rattle.definition.specs.Job as paper
use Rattle.definition.specs.Placement as text
use Rattle.definition.specs.Cost as definition
use Rattle.definition.specs.Outcome.{number_count, numbers}
use Rattle.definition_laws.specs.Counts.{of-count}
use Rattle.results.specs.declared.Fields.{Fields}
use Rattle.results.specs.Fields.{max_fields}
use Rattle.score_numbers.specs.declared.Numbers.{Numbers}

-- each is a signed number of 32 bits
pub record NumbersSmall (r : Numbers) : Type 0 where
  pub steps : r.steps < 2 ^ 31
  pub shifted : r.shifted < 2 ^ 31
  pub mirrored : r.mirrored < 2 ^ 31
  pub changed : r.changed < 2 ^ 31
  pub cost : r.cost < 2 ^ 31
  pub filled : r.filled < 2 ^ 31

-- as many numbers as a job text may have
pub record SixOrSeven (n : ℕ) : Type 0 where
  pub six : 6 ≤ n
  pub seven : n ≤ 7

-- such numbers, and fields with room for so many of them
pub record Pushable (f : Fields) (n : Numbers) (count : ℕ) : Type 0 where
  pub many : SixOrSeven count
  pub room : f.count + count ≤ max_fields
  pub small : NumbersSmall n

-- the numbers are the definition's
pub record Counted (j : paper.Job) (P : text.Placement) (r : Numbers) : Type 0 where
  pub steps : r.steps ≡ definition.steps j P
  pub shifted : r.shifted ≡ definition.shifted j P
  pub mirrored : r.mirrored ≡ definition.mirrored j P
  pub changed : r.changed ≡ definition.changed j P
  pub cost : r.cost ≡ definition.cost j P
  pub drift : r.drift ≡ definition.drift j P
  pub filled : r.filled ≡ definition.filled_steps j P
  pub small : NumbersSmall r

-- as the definition lists them: those of every job text, and all
abbrev pub first_in : Numbers → List ℤ
first_in r = pos r.steps ∷ pos r.shifted ∷ pos r.mirrored ∷ pos r.changed ∷ pos r.cost ∷ r.drift ∷ []

abbrev pub numbers_in : Numbers → List ℤ
numbers_in r = first_in r ++ (pos r.filled ∷ [])

abbrev pub no_numbers : Numbers
no_numbers = record { steps = 0; shifted = 0; mirrored = 0; changed = 0; cost = 0; drift = pos 0; filled = 0 }

pub numbers-listed : (n : ℕ) (j : paper.Job) (P : text.Placement) (r : Numbers) → Counted j P r
    → take n (numbers_in r) ≡ numbers n j P
unfolding numbers
numbers-listed n j P r c = rw (c.steps, c.shifted, c.mirrored, c.changed, c.cost, c.drift, c.filled)

-- ---- how many numbers a job text has

pub count-known : (job : Text) → SixOrSeven (number_count job)
count-known job =
    of-count SixOrSeven (record { six = omega arith; seven = omega arith })
    (record { six = omega arith; seven = omega arith }) job

pub by_bytes : (job : Text) (t : Bool) → (eqb (get_or job 0 0) filled_lead && eqb (get_or job 1 0) comma) ≡ t
    → cond t 7 6 ≡ number_count job
unfolding number_count
by_bytes job t e = ap (λ t. cond t 7 6) (sym e)

-- a text of one byte or none has no comma there
pub short-six : (job : Text) → length job < 2 → 6 ≡ number_count job
short-six [] h = by_bytes [] false refl
short-six (b ∷ []) h = by_bytes (b ∷ []) false (and-false (eqb b filled_lead))
short-six (b ∷ c ∷ l) h = absurd (omega arith)
