-- A refusal by its number and line, and what signed numbers can tell.
use Rattle.std.specs.Prelude.{ℕ, ◌^◌, ◌≤◌, ◌<◌}
use Rattle.std.proofs.Common.{arith}
use Rattle.definition.specs.Outcome as paper
use Rattle.results.specs.declared.Refusal.{Refusal}
use Rattle.results.specs.declared.Refusal.TheVariants.{Form, Range, Count, Order, Placement, Store}
use Rattle.results.specs.declared.Refusal.TheVariants.{Output, NoLegal, LoadCount, LoadOutput, ReasonsOutput}
use Rattle.results.specs.declared.Fields.{Fields}
use Rattle.results.specs.Fields.{max_fields}

-- its number in document 01
abbrev pub number_of : Refusal → ℕ
number_of (Form line) = 1
number_of (Range line) = 2
number_of (Count line) = 3
number_of (Order line) = 4
number_of (Placement line) = 5
number_of Store = 6
number_of Output = 7
number_of NoLegal = 8
number_of LoadCount = 9
number_of LoadOutput = 10
number_of ReasonsOutput = 11

-- the line at fault, or 0
abbrev pub line_of : Refusal → ℕ
line_of (Form line) = line
line_of (Range line) = line
line_of (Count line) = line
line_of (Order line) = line
line_of (Placement line) = line
line_of Store = 0
line_of Output = 0
line_of NoLegal = 0
line_of LoadCount = 0
line_of LoadOutput = 0
line_of ReasonsOutput = 0

-- the refusal of document 01 that it stands for
abbrev pub refusal_of : Refusal → paper.Refusal
refusal_of r = record { number = number_of r; line = line_of r }

-- every refusal has a number, from 1 to 11
pub record Numbered (r : Refusal) : Type 0 where
  pub some : 0 < number_of r
  pub few : number_of r ≤ 11

pub numbered : (r : Refusal) → Numbered r
numbered (Form line) = record { some = omega arith; few = omega arith }
numbered (Range line) = record { some = omega arith; few = omega arith }
numbered (Count line) = record { some = omega arith; few = omega arith }
numbered (Order line) = record { some = omega arith; few = omega arith }
numbered (Placement line) = record { some = omega arith; few = omega arith }
numbered Store = record { some = omega arith; few = omega arith }
numbered Output = record { some = omega arith; few = omega arith }
numbered NoLegal = record { some = omega arith; few = omega arith }
numbered LoadCount = record { some = omega arith; few = omega arith }
numbered LoadOutput = record { some = omega arith; few = omega arith }
numbered ReasonsOutput = record { some = omega arith; few = omega arith }

-- number and line as signed numbers of 32 bits, and fields that a result has room for
pub record Writable (n l : ℕ) (f : Fields) : Type 0 where
  pub number : n < 2 ^ 31
  pub line : l < 2 ^ 31
  pub few : f.count ≤ max_fields

-- such a number and line, with so many fields of zero
pub record Refusable (n l : ℕ) (count : ℕ) : Type 0 where
  pub number : n < 2 ^ 31
  pub line : l < 2 ^ 31
  pub few : count ≤ max_fields

-- a refusal at such a line, with so many fields of zero
pub record ToRefuse (r : Refusal) (count : ℕ) : Type 0 where
  pub line : line_of r < 2 ^ 31
  pub few : count ≤ max_fields
