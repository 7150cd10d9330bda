-- One cell line more: a text that was accepted, ends with a line feed and goes on with a line that is not refused is
-- accepted, with the cell of that line.
use Rattle.std.specs.Prelude.{ℕ, suc, ◌≡◌, true, List, [], ◌∷◌, ◌++◌}
use Rattle.std.proofs.Common.{sym, ap, ◌∙◌, arith}
use Rattle.definition.specs.Texts.{Text, lines_of, ended}
use Rattle.definition.specs.Job.{Job, Reading, accepted, line_header, line_cell, header_refusal, cell_refusal}
use Rattle.definition.specs.Job.{with_cell, read_cells, read_lines, read_job}
use Rattle.text_laws.specs.Lines.{lines_more}
use Rattle.job_laws.specs.Tests.{choose, chosen, read-cell-line, read-header-line}

-- nothing refuses
passed : (n at : ℕ) (r s : Reading) → n ≡ 0 → r ≡ s → choose n at r ≡ s
unfolding choose
passed n at r s z e = rw z e

cells-more : (ls : List Text) (l : Text) (at : ℕ) (j k : Job) → read_cells j at ls ≡ accepted k → cell_refusal k l ≡ 0
    → read_cells j at (ls ++ (l ∷ [])) ≡ accepted (with_cell k (line_cell l))
unfolding read_cells
cells-more [] l at j k e z =
    let q : j ≡ k = cc in
    let y : cell_refusal j l ≡ 0 = rw (sym q) at z in
    read-cell-line j at l []
    ∙ passed (cell_refusal j l) at _ _ y (ap (λ (i : Job). accepted (with_cell i (line_cell l))) q)
cells-more (m ∷ ls) l at j k e z =
    let more : Job = with_cell j (line_cell m) in
    let c = chosen (cell_refusal j m) at (read_cells more (suc at) ls) k (sym (read-cell-line j at m ls) ∙ e) in
    read-cell-line j at m (ls ++ (l ∷ []))
    ∙ passed (cell_refusal j m) at _ _ c.0 (cells-more ls l (suc at) more k c.1 z)

lines-read : (ls : List Text) (l : Text) (k : Job) → read_lines ls ≡ accepted k → cell_refusal k l ≡ 0
    → read_lines (ls ++ (l ∷ [])) ≡ accepted (with_cell k (line_cell l))
unfolding read_lines
lines-read [] l k e z = let y : ◌≡◌ {A = ℕ} 0 1 = cc in absurd (omega arith)
lines-read (m ∷ ls) l k e z =
    let begun : Job = record { header = line_header m; cells = [] } in
    let c = chosen (header_refusal m) 1 (read_cells begun 2 ls) k (sym (read-header-line m ls) ∙ e) in
    read-header-line m (ls ++ (l ∷ []))
    ∙ passed (header_refusal m) 1 _ _ c.0 (cells-more ls l 2 begun k c.1 z)

pub read_more : (t line : Text) (k : Job) → ended t ≡ true → read_job t ≡ accepted k → lines_of line ≡ line ∷ []
    → cell_refusal k line ≡ 0 → read_job (t ++ line) ≡ accepted (with_cell k (line_cell line))
unfolding read_job
read_more t line k e r o z =
    ap read_lines (lines_more t line e ∙ ap (λ (ls : List Text). lines_of t ++ ls) o)
    ∙ lines-read (lines_of t) line k r z
