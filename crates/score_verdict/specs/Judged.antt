-- A verdict of the program: that it is the definition's, and what is left marked.
use Rattle.std.specs.Prelude.{◌≡◌, ℕ, ◌<◌, Bool, List, length, Option, None, Some, Result, Ok, Err}
use Rattle.definition.specs.Lists.{from}
use Rattle.definition.specs.Job as paper
use Rattle.definition.specs.Placement as text
use Rattle.definition.specs.Rules as definition
use Rattle.definition.specs.Rules.{rule_of, lowest, verdict}
use Rattle.score_cell_rules.specs.Marks.{marked_in}
use Rattle.score_verdict.specs.declared.Breach.{Breach}

-- the numbers that are told of a breach, or of none
abbrev pub rule_in : Option Breach → ℕ
rule_in None = 0
rule_in (Some b) = b.rule

abbrev pub cell_in : Option Breach → ℕ
cell_in None = 0
cell_in (Some b) = b.cell

-- they are the definition's, and a breach is of a rule that there is
abbrev pub Broken : Option Breach → Type 0
Broken None = Unit {0}
Broken (Some b) = 0 < b.rule

pub record Judged (v : definition.Verdict) (r : Option Breach) : Type 0 where
  pub rule : rule_in r ≡ v.rule
  pub cell : cell_in r ≡ v.cell
  pub broken : Broken r

-- the marks are those of the rule that is told
pub record VerdictMarked (j : paper.Job) (P : text.Placement) (r : Option Breach) (marks : List Bool) : Type 0 where
  pub judged : Judged (verdict j P) r
  pub marked : (k : ℕ) → k < length marks → marked_in marks k ≡ rule_of j P (rule_in r) k

-- no cell is marked, or the lowest that is is told
abbrev pub LowestTold : ℕ → List Bool → Result (Unit {0}) Breach → Type 0
LowestTold rule marks (Ok _) = lowest (marked_in marks) (from 0 (length marks)) ≡ 0
LowestTold rule marks (Err b) = (b.rule ≡ rule) × (b.cell ≡ lowest (marked_in marks) (from 0 (length marks))) × (0 < b.cell)
