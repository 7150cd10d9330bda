-- What the functions that count steps are given and answer, and the laws of the sum over the neighbours of a list.
use Rattle.std.specs.Prelude.{ℕ, suc, ◌+◌, ◌*◌, ◌≤◌, ◌<◌, ◌≡◌, refl, List, length, get_or, drop}
use Rattle.std.proofs.Common.{arith, add-zero, drop-cons}
use Rattle.lists.specs.Tails.{tail_cons, tail-last}
use Rattle.definition.specs.Job.{max_cells}
use Rattle.definition.specs.Lists.{sum_next}
use Rattle.definition.specs.Job as paper
use Rattle.definition.specs.Placement as text
use Rattle.definition.specs.Cost.{touching, filled}
use Rattle.job.specs.declared.Job.{Job}
use Rattle.job.specs.declared.Placement.{Placement}
use Rattle.job.specs.Value.{cell_of, pose_of, job_of, placement_of}
use Rattle.job.specs.Parts.{height_in}
use Rattle.score_order.specs.declared.Stand.{Stand}
use Rattle.score_words.specs.Flat.{Flat}
use Rattle.score_steps.specs.declared.Placed.{Placed}
use Rattle.score_steps.specs.declared.Steps.{Steps}
use Rattle.score_steps.specs.Heights.{left_of, right_of, unlike, differing_of}

-- ---- what is given

-- a job and a placement of it, how the cells stand, and cells as those of row r from left to right
pub record PlacedRow (job : Job) (P : Placement) (stands : List Stand) (order : List ℕ) (r : ℕ) : Type 0 where
  pub row : r ≤ 1
  pub few : job.count ≤ max_cells
  pub each : P.count ≡ job.count
  pub flat : Flat (job_of job) (placement_of P) stands
  pub count : length stands ≡ job.count
  pub most : length order ≤ max_cells
  pub cells : (i : ℕ) → i < length order → get_or order i 0 < job.count

-- ---- what is answered

-- the differing heights of two placed cells
abbrev pub differing_in : Placed → Placed → ℕ → ℕ
differing_in a b row = differing_of (cell_of a.cell) (pose_of a.pose) (cell_of b.cell) (pose_of b.pose) row

-- the steps of two neighbours, n of whose heights differ, at a gap: at most 2 in all
pub record AtGap (gap n : ℕ) (r : Steps) : Type 0 where
  pub touching : r.touching ≡ touching gap * n
  pub filled : r.filled ≡ filled gap * n
  pub most : r.touching + r.filled ≤ 2

-- the steps of a row, as often as a charge says of their gaps: it has at most 63 pairs of neighbours
pub record RowSteps (by : (ℕ → ℕ) → ℕ) (r : Steps) : Type 0 where
  pub touching : r.touching ≡ by touching
  pub filled : r.filled ≡ by filled
  pub most : r.touching + r.filled ≤ 126

-- ---- the heights

-- the two pairs of heights
pub differing-two : (c : paper.Cell) (p : text.Pose) (d : paper.Cell) (q : text.Pose) (row x y : ℕ)
    → x ≡ right_of c.row p.mark row → y ≡ left_of d.row q.mark row
    → unlike (height_in c p.layout x) (height_in d q.layout y)
    + unlike (height_in c p.layout (x + 1)) (height_in d q.layout (y + 1))
    ≡ differing_of c p d q row
unfolding differing_of
differing-two c p d q row x y e f = rw (← e, ← f, add-zero x, add-zero y) (omega arith)

-- ---- the sum over the neighbours of a list

module _ (f : ℕ → ℕ → ℕ) (l : List ℕ) where
  pub sum-last : (i : ℕ) → length l ≤ suc i → sum_next f (drop i l) ≡ 0
  sum-last i h = tail-last (sum_next f) 0 refl (λ x. refl) l i h

  pub sum_more : (i n : ℕ) → n ≡ suc i → n < length l
      → sum_next f (drop i l) ≡ f (get_or l i 0) (get_or l n 0) + sum_next f (drop n l)
  sum_more i n e h = rw (tail_cons l i n 0 e (omega arith), drop-cons l n 0 h)
