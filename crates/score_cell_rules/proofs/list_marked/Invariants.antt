-- Invariant: the marked cells below k are listed, and those from k on follow.
use Rattle.std.proofs.Common.{ℕ, suc, ◌-◌, ◌≤◌, ◌≡◌, Bool, List, ◌++◌, map, length, take}
use Rattle.definition.specs.Job.{max_cells}
use Rattle.definition.specs.Lists.{from, keep}
use Rattle.score_cell_rules.specs.Marks.{marked_in}
use Rattle.score_cell_rules.proofs.list_marked.Given as goal

pub record Listing (marks : List Bool) (list : List ℕ) (n k : ℕ) : Type 0 where
  pub few : n ≤ k
  pub long : length list ≡ max_cells
  pub entries : map suc (keep (marked_in marks) (from 0 (length marks))) ≡ take n list ++ map suc (keep (marked_in marks) (from k (length marks - k)))

abbrev pub invariant-loop-k : goal.invariant-loop-k
invariant-loop-k l = Listing l.marks l.list l.n l.k
