-- The steps between two placed cells, from the cells and their poses alone. It is the definition's: see
-- `differing-of` of proofs/Heights.
use Rattle.std.specs.Prelude.{ℕ, ◌+◌, ◌≤◌, ◌≡◌, Bool, true, false, cond, [], ◌∷◌, eqb}
use Rattle.std.proofs.Common.{arith}
use Rattle.definition.specs.Lists.{sum}
use Rattle.definition.specs.Job as paper
use Rattle.definition.specs.Placement as text
use Rattle.job.specs.Value.{height_count}
use Rattle.job.specs.Parts.{height_in, first_of}
use Rattle.score_steps.specs.declared.Side.{Side}
use Rattle.score_steps.specs.declared.Side.TheVariants.{Left, Right}

-- where the left and the right two of a row's heights begin, of a cell of row number `of` with a mark
abbrev pub left_of : ℕ → ℕ → ℕ → ℕ
left_of of mark row = first_of of row + cond (eqb mark 1) 2 0

abbrev pub right_of : ℕ → ℕ → ℕ → ℕ
right_of of mark row = first_of of row + cond (eqb mark 1) 0 2

abbrev pub edge_of : Side → ℕ → ℕ → ℕ → ℕ
edge_of Left = left_of
edge_of Right = right_of

-- 1 if two heights differ
abbrev pub unlike : ℕ → ℕ → ℕ
unlike x y = cond (eqb x y) 0 1

pub unlike-small : (x y : ℕ) → unlike x y ≤ 1
unlike-small x y = go (eqb x y)
  where
    go : (t : Bool) → cond t 0 1 ≤ 1
    go true = omega arith
    go false = omega arith

unfoldable pub differing_of : paper.Cell → text.Pose → paper.Cell → text.Pose → ℕ → ℕ
differing_of c p d q row =
    sum (λ type. unlike
    (height_in c p.layout (right_of c.row p.mark row + type))
    (height_in d q.layout (left_of d.row q.mark row + type)))
    (0 ∷ 1 ∷ [])

-- ---- what is answered

-- where two heights of a cell of row number `of` begin: at x, and both are there
pub record EdgeAt (x of r : ℕ) : Type 0 where
  pub same : r ≡ x
  pub there : r + 2 ≤ height_count of

-- x differing heights of two neighbours, who face each other with two
pub record Unlike (x r : ℕ) : Type 0 where
  pub same : r ≡ x
  pub most : r ≤ 2
