-- A refused job text: its refusal is 1 to 4, at a line from 1 on.
use Rattle.std.specs.Prelude.{ℕ, zero, suc, ◌≤◌, ◌<◌, ◌≡◌, Bool, true, false, List, [], ◌∷◌}
use Rattle.std.proofs.Common.{sym, ◌∙◌, arith}
use Rattle.definition.specs.Texts.{Text, lines_of}
use Rattle.definition.specs.Job.{Job, Reading, refused, first_failing, header_refusal, cell_refusal, line_header}
use Rattle.definition.specs.Job.{line_cell, with_cell, read_cells, read_lines, read_job}
use Rattle.job_laws.specs.Tests.{choose, read-cell-line, read-header-line}

-- ---- the tests of a line are numbered 1 to 4

no_test : first_failing [] ≤ 4
unfolding first_failing
no_test = omega arith

one-test : (n : ℕ) (a : Bool) (ts : List (ℕ × Bool)) → n ≤ 4 → first_failing ts ≤ 4 → first_failing ((n, a) ∷ ts) ≤ 4
unfolding first_failing
one-test n true ts h g = g
one-test n false ts h g = h

header-few : (l : Text) → header_refusal l ≤ 4
unfolding header_refusal
header-few l = one-test 1 _ _ (omega arith) (one-test 2 _ _ (omega arith) no_test)

cell-few : (j : Job) (l : Text) → cell_refusal j l ≤ 4
unfolding cell_refusal
cell-few j l =
    one-test 1 _ _ (omega arith) (one-test 2 _ _ (omega arith) (one-test 1 _ _ (omega arith)
    (one-test 2 _ _ (omega arith) (one-test 3 _ _ (omega arith) (one-test 4 _ _ (omega arith) no_test)))))

-- ---- the lines

pub record Refused (n line : ℕ) : Type 0 where
  pub some : 0 < n
  pub few : n ≤ 4
  pub located : 0 < line

unchosen : (m at : ℕ) (r : Reading) (n line : ℕ) → m ≤ 4 → 0 < at → choose m at r ≡ refused n line
    → (r ≡ refused n line → Refused n line) → Refused n line
unfolding choose
unchosen zero at r n line h g e f = f e
unchosen (suc m) at r n line h g e f =
    let p : suc m ≡ n = cc in let q : at ≡ line = cc in
    record { some = omega arith; few = omega arith; located = omega arith }

cells-refused : (ls : List Text) (at : ℕ) (j : Job) (n line : ℕ) → 0 < at → read_cells j at ls ≡ refused n line
    → Refused n line
unfolding read_cells
cells-refused [] at j n line g e = let z : ◌≡◌ {A = ℕ} 0 1 = cc in absurd (omega arith)
cells-refused (l ∷ ls) at j n line g e =
    unchosen (cell_refusal j l) at (read_cells (with_cell j (line_cell l)) (suc at) ls) n line (cell-few j l) g
    (sym (read-cell-line j at l ls) ∙ e)
    (cells-refused ls (suc at) (with_cell j (line_cell l)) n line (omega arith))

lines-refused : (ls : List Text) (n line : ℕ) → read_lines ls ≡ refused n line → Refused n line
unfolding read_lines
lines-refused [] n line e =
    let p : 1 ≡ n = cc in let q : 1 ≡ line = cc in
    record { some = omega arith; few = omega arith; located = omega arith }
lines-refused (l ∷ ls) n line e =
    let begun : Job = record { header = line_header l; cells = [] } in
    unchosen (header_refusal l) 1 (read_cells begun 2 ls) n line (header-few l) (omega arith)
    (sym (read-header-line l ls) ∙ e) (cells-refused ls 2 begun n line (omega arith))

pub job-refused : (text : Text) (n line : ℕ) → read_job text ≡ refused n line → Refused n line
unfolding read_job
job-refused text n line e = lines-refused (lines_of text) n line e
