-- The largest given site so far: a cell that is given no less in its rows falls in none.
use Rattle.std.specs.Prelude.{ℕ, zero, suc, ◌+◌, ◌≤◌, ◌≡◌, refl, Bool, true, false, not, ◌||◌, cond, List, [], ◌∷◌, ◌++◌, leb, eqb}
use Rattle.std.proofs.Common.{sym, ◌∙◌, arith, le-leb}
use Rattle.std.proofs.lemmas.Bool.{false≢true}
use Rattle.definition.specs.Job.{Cell, in_row, not_falling}
use Rattle.definition.specs.Load.{largest_in, largest}
use Rattle.text_laws.specs.Numbers.{also}
use Rattle.job_laws.specs.Rising.{largest-more, rises-cells}

-- in each of its rows a cell is given no less than the largest
pub record Above (cells : List Cell) (c : Cell) : Type 0 where
  pub row0 : in_row 0 c ≡ true → largest_in 0 cells ≤ c.given
  pub row1 : in_row 1 c ≡ true → largest_in 1 cells ≤ c.given

pub not_falling_lem : (cells : List Cell) (c : Cell) → Above cells c → not_falling cells c ≡ true
not_falling_lem cells c h =
    sym (rises-cells cells c)
    ∙ also (not (in_row 0 c) || leb (largest_in 0 cells) c.given) _
    (passes (in_row 0 c) (largest_in 0 cells) h.row0) (passes (in_row 1 c) (largest_in 1 cells) h.row1)
  where
    passes : (t : Bool) (m : ℕ) → (t ≡ true → m ≤ c.given) → (not t || leb m c.given) ≡ true
    passes true m f = le-leb m c.given (f refl)
    passes false m f = refl

-- one cell more
pub largest-low : (row n : ℕ) (cells : List Cell) (c : Cell) → largest_in row cells ≤ n → c.given ≤ n
    → largest_in row (cells ++ (c ∷ [])) ≤ n
largest-low row n cells c h g = omega (arith, largest-more row cells c, go (in_row row c))
  where
    go : (t : Bool) → cond t c.given 0 ≤ n
    go true = g
    go false = omega arith

-- ---- the largest of a cell's rows

pub largest-above : (i row : ℕ) (cells : List Cell) → i ≤ 1 → row ≤ 2 → (eqb row 2 || eqb row i) ≡ true
    → largest_in i cells ≤ largest row cells
unfolding largest
largest-above zero zero cells h l e = omega arith
largest-above zero (suc zero) cells h l e = absurd (false≢true e)
largest-above zero (suc (suc zero)) cells h l e = omega arith
largest-above zero (suc (suc (suc row))) cells h l e = absurd (omega arith)
largest-above (suc zero) zero cells h l e = absurd (false≢true e)
largest-above (suc zero) (suc zero) cells h l e = omega arith
largest-above (suc zero) (suc (suc zero)) cells h l e = omega arith
largest-above (suc zero) (suc (suc (suc row))) cells h l e = absurd (omega arith)
largest-above (suc (suc i)) row cells h l e = absurd (omega arith)

pub largest-below : (row m : ℕ) (cells : List Cell) → row ≤ 2 → largest_in 0 cells ≤ m → largest_in 1 cells ≤ m
    → largest row cells ≤ m
unfolding largest
largest-below zero m cells h a b = a
largest-below (suc zero) m cells h a b = b
largest-below (suc (suc zero)) m cells h a b = omega arith
largest-below (suc (suc (suc row))) m cells h a b = absurd (omega arith)
