-- A part of one of two texts, as the code has it.
use Rattle.std.specs.Prelude.{ℕ, ◌+◌, ◌≤◌, ◌≡◌, [], length, get_or, drop}
use Rattle.definition.specs.Texts.{Text, lines_of}
use Rattle.definition.specs.FaultLine.{Part, of_job, of_placement, line_start, line_length}
use Rattle.op_fault.specs.declared.Span.{Span}
use Rattle.op_fault.specs.declared.Which.{Which}
use Rattle.op_fault.specs.declared.Which.TheVariants.{Job, Placement}
use Rattle.op_fault.specs.declared.Piece.{Piece}

-- the byte after the line from at on, or the text's end if there is no line
pub record NextLine (text : Text) (at r : ℕ) : Type 0 where
  pub past : r ≡ at + length (get_or (lines_of (drop at text)) 0 [])
  pub within : r ≤ length text
  pub rest : lines_of (drop r text) ≡ drop 1 (lines_of (drop at text))

-- where a line is
pub record LineAt (text : Text) (n : ℕ) (r : Span) : Type 0 where
  pub start : r.start ≡ line_start text n
  pub size : r.size ≡ line_length text n
  pub within : r.start + r.size ≤ length text

-- which of the two texts, and its number: 0 is the job text, 1 the placement text
abbrev pub text_in : Which → Text → Text → Text
text_in Job job placement = job
text_in Placement job placement = placement

abbrev pub number_of : Which → ℕ
number_of Job = 0
number_of Placement = 1

-- the part that a piece names
abbrev pub part_in : Which → Span → Part
part_in Job s = of_job s.start s.size
part_in Placement s = of_placement s.start s.size

abbrev pub part_of : Piece → Part
part_of p = part_in p.which p.span

pub record PieceOf (part : Part) (job placement : Text) (p : Piece) : Type 0 where
  pub names : part_of p ≡ part
  pub within : p.span.start + p.span.size ≤ length (text_in p.which job placement)
