-- A line's refusal as the first of its tests that fails, and what a reading does with it.
use Rattle.std.specs.Prelude.{ℕ, zero, suc, ◌≡◌, refl, Bool, true, false, List, [], ◌∷◌}
use Rattle.std.proofs.Common.{arith}
use Rattle.definition.specs.Texts.{Text}
use Rattle.definition.specs.Job.{Job, Reading, refused, accepted, first_failing, line_header, line_cell}
use Rattle.definition.specs.Job.{header_refusal, cell_refusal, with_cell, read_cells, read_lines}

pub test-passed : (k : ℕ) (a : Bool) (ts : List (ℕ × Bool)) → first_failing ((suc k, a) ∷ ts) ≡ 0
    → (a ≡ true) × (first_failing ts ≡ 0)
unfolding first_failing
test-passed k true ts e = (refl, e)
test-passed k false ts e = absurd (omega arith)

-- a refusal other than 0 at a line, or else what follows it
unfoldable pub choose : ℕ → ℕ → Reading → Reading
choose n at r = elim n [ zero ↦ r | suc m ↦ refused (suc m) at ]

-- what is accepted was not refused
pub chosen : (n at : ℕ) (r : Reading) (j : Job) → choose n at r ≡ accepted j → (n ≡ 0) × (r ≡ accepted j)
unfolding choose
chosen zero at r j e = (refl, e)
chosen (suc n) at r j e = let z : ◌≡◌ {A = ℕ} 0 1 = cc in absurd (omega arith)

pub read-cell-line : (j : Job) (at : ℕ) (l : Text) (ls : List Text)
    → read_cells j at (l ∷ ls) ≡ choose (cell_refusal j l) at (read_cells (with_cell j (line_cell l)) (suc at) ls)
unfolding read_cells choose
read-cell-line j at l ls = refl

pub read-header-line : (l : Text) (ls : List Text)
    → read_lines (l ∷ ls)
    ≡ choose (header_refusal l) 1 (read_cells (record { header = line_header l; cells = [] }) 2 ls)
unfolding read_lines choose
read-header-line l ls = refl
