-- A load for the farm: the job that is written from a seed and a count of cells, and its operation. Document 02, A3.
use Rattle.std.specs.Prelude.{ℕ, zero, suc, ◌+◌, ◌-◌, ◌≤◌, max, cond, false, List, [], ◌∷◌, ◌++◌, ◌≡◌, length, replicate, leb, ltb, eqb}
use Rattle.definition.specs.Lists.{keep}
use Rattle.definition.specs.Texts.{Text, bytes, comma, line_feed, digits}
use Rattle.definition.specs.Job.{Cell, Job, max_cells, max_tall, is_tall, in_row, cell_lead, layout_size, cell_of}
use Rattle.definition.specs.Job.{accepted, read_job, first_failing}
use Rattle.definition.specs.Outcome.{Outcome, without_line, text_field_count, text_answer, outcome_of, Buffers, over}
use Rattle.definition.specs.Draws.{Generator, Range, ◌to◌, seeded, drawn, draws, drawn_all}

-- "The header is `J,2,1024,7,1,100,1,100,50`."
abbrev pub load_header : Text
load_header = bytes "J,2,1024,7,1,100,1,100,50\n"

-- ---- the fields of a cell line

-- "row 0 to 2 (0 to 1 once 24 are tall)": after these cells
abbrev pub row_range : List Cell → Range
row_range cells = 0 to cond (ltb (length (keep is_tall cells)) max_tall) 2 1

-- "given, the largest so far in its rows, or 0": of a tall cell the larger of both rows'
abbrev pub largest_in : ℕ → List Cell → ℕ
largest_in row [] = 0
largest_in row (c ∷ cells) = max (cond (in_row row c) c.given 0) (largest_in row cells)

unfoldable pub largest : ℕ → List Cell → ℕ
largest row cells = cond (eqb row 2) (max (largest_in 0 cells) (largest_in 1 cells)) (largest_in row cells)

-- "widths 1 to 16; heights 1 to 4": one layout, and so many
abbrev pub layout_ranges : ℕ → List Range
layout_ranges row = (1 to 16) ∷ replicate (layout_size row - 1) (1 to 4)

abbrev pub repeated : ℕ → List Range → List Range
repeated zero ranges = []
repeated (suc n) ranges = ranges ++ repeated n ranges

-- "Fields are drawn in line order": the first draw is the row's, the fourth that of how many layouts there are
abbrev pub row_drawn : List Cell → Generator → ℕ
row_drawn cells g = drawn (row_range cells) (draws 1 g)

abbrev pub layouts_drawn : Generator → ℕ
layouts_drawn g = drawn (1 to 2) (draws 4 g)

-- "row [..]; given [..] plus 0 to 12; mirrorable; layouts; widths [..]; heights [..]": mirrorable is 0 or 1 and
-- layouts are 1 or 2, as in every job
unfoldable pub numbers_drawn : List Cell → Generator → List ℕ
numbers_drawn cells g =
    row_drawn cells g
    ∷ (largest (row_drawn cells g) cells + drawn (0 to 12) (draws 2 g))
    ∷ drawn (0 to 1) (draws 3 g)
    ∷ layouts_drawn g
    ∷ drawn_all (repeated (layouts_drawn g) (layout_ranges (row_drawn cells g))) (draws 4 g)

-- ---- the text

-- numbers, each after a comma; a line that is led by `C`
unfoldable pub listed : List ℕ → Text
listed [] = []
listed (n ∷ ns) = comma ∷ (digits n ++ listed ns)

abbrev pub numbers_line : List ℕ → Text
numbers_line ns = cell_lead ∷ (listed ns ++ (line_feed ∷ []))

-- a load as far as it is written: its text, its cells, and the generator, from which each number was one draw
pub record Load : Type 0 where
  pub text : Text
  pub cells : List Cell
  pub generator : Generator

abbrev pub with_numbers : Load → List ℕ → Load
with_numbers l ns = record {
  text = l.text ++ numbers_line ns;
  cells = l.cells ++ (cell_of false ns ∷ []);
  generator = draws (length ns) l.generator;
}

-- "From a 32-bit seed [..] and a count of cells, write a job."
unfoldable pub load_of : ℕ → ℕ → Load
load_of seed zero = record { text = load_header; cells = []; generator = seeded seed }
load_of seed (suc n) = with_numbers (load_of seed n) (numbers_drawn (load_of seed n).cells (load_of seed n).generator)

-- ---- the operation

-- "9 when the count is over 64; 10 when the output has under 8,192 bytes, [..] in that order"
abbrev pub load_room : ℕ
load_room = 8192

unfoldable pub load_refusal : ℕ → ℕ → ℕ
load_refusal cells room = first_failing ((9, leb cells max_cells) ∷ (10, leb load_room room) ∷ [])

-- a load of so many cells, for an output of so many bytes
unfoldable pub load : ℕ → ℕ → ℕ → Outcome
load seed cells room =
    outcome_of text_field_count (without_line (load_refusal cells room) ∷ []) (text_answer (load_of seed cells).text)

-- ---- "The reader accepts each job written."

-- a text that is read as a job of so many cells
pub record ReadWith (cells : ℕ) (text : Text) : Type 0 where
  pub job : Job
  pub accepts : read_job text ≡ accepted job
  pub many : length job.cells ≡ cells

-- of a call, by what its caller can see: such a text stands at the output's start
pub record Loaded (cells : ℕ) (before end : Buffers) : Type 0 where
  pub text : Text
  pub fits : length text ≤ length before.output
  pub written : end.output ≡ over text before.output
  pub reads : ReadWith cells text

abbrev pub LoadedOf : ℕ → ℕ → Buffers → Buffers → Type 0
LoadedOf cells returned before end = returned ≡ 0 → Loaded cells before end
