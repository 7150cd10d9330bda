-- Power staples: which placements may carry them, how many a placement has, and the most. Document 02, A10.
use Rattle.std.specs.Prelude.{ℕ, ◌≤◌, ◌<◌, ◌≡◌, ◌↔◌, Bool, not, ◌&&◌, List, length, leb, ltb, eqb}
use Rattle.std.proofs.Math.Option.{Option, none, some}
use Rattle.definition.specs.Lists.{from, any, keep}
use Rattle.definition.specs.Job.{Job, is_tall}
use Rattle.definition.specs.Placement.{Placement}
use Rattle.definition.specs.Rules.{Legal, pose_at, site_at, end_at, cells_of}
use Rattle.definition.specs.Moves.{Move, after}

-- "R taken as 0"
abbrev pub in_file_order : Job → Job
in_file_order j = record {
  header = record {
    rows = j.header.rows;
    sites = j.header.sites;
    displacement = j.header.displacement;
    reordering = 0;
    step_weight = j.header.step_weight;
    shift_weight = j.header.shift_weight;
    mirror_weight = j.header.mirror_weight;
    swap_weight = j.header.swap_weight;
    filled_weight = j.header.filled_weight;
  };
  cells = j.cells;
}

-- "a placement of a two-row job"; "13 when the job has one row or a tall cell": it has neither
abbrev pub stapleable : Job → Bool
stapleable j = eqb j.header.rows 2 && not (any is_tall j.cells)

-- "layout 0, unmirrored, R taken as 0, legal by the eight rules"
pub record Plain (j : Job) (P : Placement) : Type 0 where
  pub legal : Legal (in_file_order j) P
  pub layout : (k : ℕ) → k < length j.cells → (pose_at P k).layout ≡ 0
  pub mark : (k : ℕ) → k < length j.cells → (pose_at P k).mark ≡ 0

-- cell k stands on site s
abbrev pub stands_on : Job → Placement → ℕ → ℕ → Bool
stands_on j P s k = leb (site_at P k) s && ltb s (end_at j P k)

-- "a staple in each site that is empty in both rows"
unfoldable pub staples : Job → Placement → ℕ
staples j P = length (keep (λ s. not (any (stands_on j P s) (cells_of j))) (from 0 j.header.sites))

-- An answer with staples on a job, some placement or none: one claim over whole lists of moves.
pub record MostStaples (j : Job) (answer : Option Placement) : Type 0 where
  -- "a placement of a two-row job, layout 0, unmirrored, R taken as 0, legal by the eight rules"
  pub plain : (P : Placement) → answer ≡ some P → Plain j P
  -- "with as many such sites as any of its kind"
  pub most : (P : Placement) → answer ≡ some P → (ms : List Move) → Plain j (after j ms)
      → staples j (after j ms) ≤ staples j P
  -- "8 means that no placement of this kind exists"
  pub none_when : answer ≡ none ↔ ((ms : List Move) → ¬ Plain j (after j ms))
