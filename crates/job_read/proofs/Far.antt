-- The cell lines as far as byte at: the cells read are the job's, their tally is kept, and the lines from there on decide.
use Prim.Native.Nat.{ℕ, suc, ◌+◌, ◌≤◌, ◌<◌}
use mathlib.Core.Path.{◌≡◌, refl, sym, ap, ◌∙◌}
use mathlib.Core.List.{List, [], ◌∷◌, map, map-append}
use native.Mathlib.Omega.{arith}
use native.Mathlib.Numerals.{add-one}
use lib.ListN.{length, get_or, take, drop, set, length-set, drop_of_length-le}
use lib.Seq.{drop-cons, take-suc-set}
use Rattle.definition.specs.Texts.{Text, lines_of}
use Rattle.definition.specs.Job as paper
use Rattle.job.specs.declared.Cell.{Cell}
use Rattle.job.specs.declared.Header.{Header}
use Rattle.job.specs.Value.{cell_of, header_of, job_of}
use Rattle.job.specs.Cells.{cell-count}
use Rattle.definition_laws.specs.Sound.{SoundHeader}
use Rattle.job_laws.specs.Tests.{choose, read-cell-line, read-header-line}
use Rattle.job_laws.specs.Lists.{keep-few}
use Rattle.job_laws.specs.Line.{header-line-sound}
use Rattle.job_laws.specs.Whole.{begun-sound, cells-sound}
use Rattle.std.specs.Prelude.{Ok, Err}
use Rattle.results.specs.declared.Refusal.TheVariants as refusal
use Rattle.text_scan.specs.Line.{first_line, after_line, lines-first}
use Rattle.job_tally.specs.declared.Tally.{Tally}
use Rattle.job_read.specs.declared.Fault.{Fault}
use Rattle.job_read.specs.declared.Fault.TheVariants.{Form, Range, Count, Order}
use Rattle.job_read.specs.declared.Head.{Head}
use Rattle.job_read.specs.declared.Line.{Line}
use Rattle.job_tally.specs.Tallies.{Tallies, tally_with, tallies-more}
use Rattle.job_read.specs.Lines.{fault_number, refusal_at, line_at}
use Rattle.job_read.specs.Reads.{HeadTo, CellTo, CellNumber, sofar, begun, reading_of, Refuses, Reads}

pub record Far (text : Text) (from : ℕ) (h : Header) (cells : List Cell) (t : Tally) (at line : ℕ) : Type 0 where
  pub within : at ≤ length text
  pub long : length cells ≡ paper.max_cells
  pub few : t.count ≤ paper.max_cells
  pub number : line ≡ t.count + 2
  pub tallies : Tallies (sofar h t.count cells) t
  pub same : paper.read_cells (begun h) 2 (lines_of (drop from text)) ≡ paper.read_cells (sofar h t.count cells) line (lines_of (drop at text))

pub far_none : (text : Text) (from : ℕ) (h : Header) (cells : List Cell) → from ≤ length text → length cells ≡ paper.max_cells
    → Far text from h cells (record { rows = h.rows; count = 0; tall = 0; first = 0; second = 0 }) from 2
unfolding header_of
far_none text from h cells w l = record {
  within = w;
  long = l;
  few = omega arith;
  number = refl;
  tallies = record { rows = refl; count = refl; tall = refl; first = refl; second = refl };
  same = refl;
}

-- ---- one line of the definition

refused : (f : Fault) (line : ℕ) (r : paper.Reading) → reading_of (Err (refusal_at f line)) ≡ choose (fault_number f) line r
unfolding choose
refused Form line r = refl
refused Range line r = refl
refused Count line r = refl
refused Order line r = refl

refuses : (f : Fault) (line : ℕ) → line ≤ paper.max_cells + 2 → Refuses (refusal_at f line)
refuses Form line h = record { some = omega arith; few = omega arith; line = h }
refuses Range line h = record { some = omega arith; few = omega arith; line = h }
refuses Count line h = record { some = omega arith; few = omega arith; line = h }
refuses Order line h = record { some = omega arith; few = omega arith; line = h }

-- of what is read as a fault's refusal at a line
refused-reads : (f : Fault) (line : ℕ) (o r : paper.Reading) → line ≤ paper.max_cells + 2 → o ≡ choose (fault_number f) line r
    → Reads o (Err (refusal_at f line))
refused-reads f line o r h e = record { same = refused f line r ∙ sym e; accepted = tt; refused = refuses f line h }

-- one more cell
grown : (h : Header) (n : ℕ) (cells : List Cell) (x : Cell) → n < length cells → sofar h (n + 1) (set cells n x) ≡ paper.with_cell (sofar h n cells) (cell_of x)
grown h n cells x k =
    ap (λ (l : List Cell). record { header = header_of h; cells = map cell_of l }) (ap (λ (m : ℕ). take m (set cells n x)) (add-one n) ∙ take-suc-set cells n x k)
    ∙ ap (λ (l : List paper.Cell). record { header = header_of h; cells = l }) (map-append cell_of (take n cells) (x ∷ []))

module _ {text : Text} {from : ℕ} {h : Header} {cells : List Cell} {t : Tally} {at line : ℕ} (s : Far text from h cells t at line) where
  -- the lines from at on
  lines : at < length text → lines_of (drop at text) ≡ line_at text at ∷ lines_of (after_line (drop at text))
  lines k =
      let e = drop-cons text at 0 k in
      ap lines_of e ∙ lines-first (get_or text at 0) (drop (suc at) text) ∙ ap (λ (l : Text). first_line l ∷ lines_of (after_line l)) (sym e)

  pub far-tall : t.tall ≤ t.count
  far-tall = let a = s.tallies.tall in let b = s.tallies.count in omega (arith, keep-few paper.is_tall (map cell_of (take t.count cells)))

  pub far-more : at < length text → (l : Line) → CellTo text at t l
      → Far text from h (set cells t.count l.cell) (tally_with t l.cell.row l.cell.given) l.next (line + 1)
  unfolding cell_of choose
  far-more k l to =
      let n = t.count in
      let j = sofar h n cells in
      let ls = lines_of (after_line (drop at text)) in
      let g = grown h n cells l.cell (omega (arith, s.long, to.room)) in
      record {
        within = to.within;
        long = simp length-set s.long;
        few = omega (arith, to.room);
        number = omega (arith, s.number);
        tallies = rw g (tallies-more s.tallies (cell_of l.cell));
        same =
            s.same
            ∙ ap (paper.read_cells j line) (lines k)
            ∙ read-cell-line j line (line_at text at) ls
            ∙ ap (λ (m : ℕ). choose m line (paper.read_cells (paper.with_cell j (paper.line_cell (line_at text at))) (suc line) ls))
            (sym (to.passed j s.tallies))
            ∙ ap (λ (x : paper.Cell). paper.read_cells (paper.with_cell j x) (suc line) ls) (sym to.cell)
            ∙ ap (λ (x : paper.Job). paper.read_cells x (suc line) ls) (sym g)
            ∙ ap (λ (m : ℕ). paper.read_cells (sofar h (n + 1) (set cells n l.cell)) m ls) (sym (add-one line))
            ∙ ap (λ (m : Text). paper.read_cells (sofar h (n + 1) (set cells n l.cell)) (line + 1) (lines_of m)) to.rest;
      }

  -- a line is refused
  pub far-refused : at < length text → (f : Fault) → CellNumber text at t (fault_number f)
      → Reads (paper.read_cells (begun h) 2 (lines_of (drop from text))) (Err (refusal_at f line))
  far-refused k f n =
      let j = sofar h t.count cells in
      let ls = lines_of (after_line (drop at text)) in
      let more = paper.read_cells (paper.with_cell j (paper.line_cell (line_at text at))) (suc line) ls in
      refused-reads f line _ more (omega (arith, s.few, s.number))
      (s.same
      ∙ ap (paper.read_cells j line) (lines k)
      ∙ read-cell-line j line (line_at text at) ls
      ∙ ap (λ (m : ℕ). choose m line more) (sym (n j s.tallies)))

  -- the text ends
  pub far-out : length text ≤ at → SoundHeader (header_of h)
      → Reads (paper.read_cells (begun h) 2 (lines_of (drop from text)))
      (Ok (record { header = h; count = t.count; cells = cells }))
  unfolding job_of lines_of paper.read_cells
  far-out k g = record {
    same = sym all;
    refused = tt;
    accepted = record {
      sound = cells-sound (lines_of (drop from text)) 2 (begun h) (sofar h t.count cells) (begun-sound (header_of h) g) all;
      few = s.few;
      many = cell-count (record { header = h; count = t.count; cells = cells }) s.long s.few;
    };
  }
    where
      all : paper.read_cells (begun h) 2 (lines_of (drop from text)) ≡ paper.accepted (sofar h t.count cells)
      all = s.same ∙ ap (λ (l : Text). paper.read_cells (sofar h t.count cells) line (lines_of l)) (drop_of_length-le text k)

-- ---- the whole text

pub no_text : (text : Text) → length text ≡ 0 → Reads (paper.read_job text) (Err (refusal.Form 1))
unfolding lines_of paper.read_job paper.read_lines choose
no_text [] e = refused-reads Form 1 (paper.read_job []) (paper.refused 1 1) (omega arith) refl
no_text (b ∷ text) e = absurd (omega arith)

module _ (text : Text) (some : 0 < length text) where
  head : paper.read_job text
      ≡ choose (paper.header_refusal (first_line text)) 1
      (paper.read_cells (record { header = paper.line_header (first_line text); cells = [] }) 2 (lines_of (after_line text)))
  unfolding paper.read_job
  head = ap paper.read_lines (all_lines text some) ∙ read-header-line (first_line text) (lines_of (after_line text))
    where
      all_lines : (text : Text) → 0 < length text → lines_of text ≡ first_line text ∷ lines_of (after_line text)
      all_lines [] k = absurd (omega arith)
      all_lines (b ∷ text) k = lines-first b text

  pub head-refused : (f : Fault) → fault_number f ≡ paper.header_refusal (first_line text)
      → Reads (paper.read_job text) (Err (refusal_at f 1))
  head-refused f n =
      let more = paper.read_cells (record { header = paper.line_header (first_line text); cells = [] }) 2 (lines_of (after_line text)) in
      refused-reads f 1 _ more (omega arith) (head ∙ ap (λ (n : ℕ). choose n 1 more) (sym n))

  pub head-sound : (h : Head) → HeadTo text h → SoundHeader (header_of h.header)
  head-sound h to = rw to.header (header-line-sound (first_line text) to.passed)

  pub head-on : (h : Head) → HeadTo text h → paper.read_cells (begun h.header) 2 (lines_of (drop h.next text)) ≡ paper.read_job text
  unfolding choose
  head-on h to =
      let cells : paper.Header → Text → paper.Reading = λ x l. paper.read_cells (record { header = x; cells = [] }) 2 (lines_of l) in
      ap (λ (x : paper.Header). cells x (drop h.next text)) to.header
      ∙ ap (cells (paper.line_header (first_line text))) (sym to.rest)
      ∙ sym (head ∙ ap (λ (n : ℕ). choose n 1 (cells (paper.line_header (first_line text)) (after_line text))) to.passed)
