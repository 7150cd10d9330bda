-- A reason as the program has it, and that it is the definition's.
use Rattle.std.specs.Prelude.{ℕ, suc, ◌≤◌, ◌≡◌, Bool, List, map, length, take, Option}
use Rattle.std.proofs.Common.{sym, ap, ◌∙◌, arith}
use Rattle.definition.specs.Lists.{from, keep}
use Rattle.definition.specs.Job as paper
use Rattle.definition.specs.Job.{max_cells}
use Rattle.definition.specs.Placement as text
use Rattle.definition.specs.Rules.{rule_of}
use Rattle.definition.specs.Reasons as definition
use Rattle.definition.specs.Reasons.{breakers_of, reason_of}
use Rattle.score_cell_rules.specs.Lowest.{keep_same}
use Rattle.score_cell_rules.specs.Marks.{marked_in, CellsListed}
use Rattle.score_verdict.specs.declared.Breach.{Breach}
use Rattle.score_verdict.specs.Judged.{rule_in, VerdictMarked}
use Rattle.score_reason.specs.declared.Reason.{Reason}

pub record ReasonIs (v : definition.Reason) (r : Reason) : Type 0 where
  pub rule : r.rule ≡ v.rule
  pub few : r.count ≤ max_cells
  pub long : length r.cells ≡ max_cells
  pub cells : take r.count r.cells ≡ v.cells

-- the marked cells, listed, are those that break the rule that is told
pub listed_reason : {j : paper.Job} {P : text.Placement} {b : Option Breach} {marks : List Bool}
    → VerdictMarked j P b marks → length j.cells ≡ length marks → {rule count : ℕ} {cells : List ℕ} → rule ≡ rule_in b
    → CellsListed (map suc (keep (marked_in marks) (from 0 (length marks)))) count cells
    → ReasonIs (reason_of j P) (record { rule = rule; count = count; cells = cells })
unfolding reason_of
listed_reason {j} {P} {b} {marks} told many e l = record {
  rule = e ∙ told.judged.rule;
  few = l.few;
  long = l.long;
  cells = l.entries
      ∙ ap (map suc) (keep_same (marked_in marks) (rule_of j P (rule_in b)) 0 (length marks) (λ k _ h. told.marked k (omega arith)))
      ∙ ap (λ (m : ℕ). map suc (keep (rule_of j P (rule_in b)) (from 0 m))) (sym many)
      ∙ ap (breakers_of j P) told.judged.rule;
}
