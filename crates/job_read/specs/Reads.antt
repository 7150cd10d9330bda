-- What the functions of this crate answer: the header line, a cell line, and the whole text.
use Rattle.std.specs.Prelude.{Result, Ok, Err, IfOk, IfErr, MatchResult}
use Rattle.std.specs.Prelude.{ℕ, ◌+◌, ◌≤◌, ◌<◌, ◌≡◌, List, [], map, length, take, drop}
use Rattle.std.proofs.Common.{sym}
use Rattle.definition.specs.Texts.{Text}
use Rattle.definition.specs.Job as paper
use Rattle.definition_laws.specs.Sound.{SoundHeader}
use Rattle.job.specs.declared.Cell.{Cell}
use Rattle.job.specs.declared.Header.{Header}
use Rattle.job.specs.declared.Job.{Job}
use Rattle.job.specs.Value.{cell_of, header_of, job_of}
use Rattle.job.specs.Accepted.{Accepted}
use Rattle.results.specs.declared.Refusal.{Refusal}
use Rattle.results.specs.Refusals.{number_of, line_of}
use Rattle.text_scan.specs.Line.{first_line, after_line}
use Rattle.job_tally.specs.declared.Tally.{Tally}
use Rattle.job_tally.specs.Tallies.{Tallies}
use Rattle.job_read.specs.declared.Fault.{Fault}
use Rattle.job_read.specs.declared.Head.{Head}
use Rattle.job_read.specs.declared.Line.{Line}
use Rattle.job_read.specs.Lines.{fault_number, line_at}

-- a line that is not refused, and where the next begins
pub record HeadTo (text : Text) (r : Head) : Type 0 where
  pub passed : paper.header_refusal (first_line text) ≡ 0
  pub within : r.next ≤ length text
  pub rest : after_line text ≡ drop r.next text
  pub header : header_of r.header ≡ paper.line_header (first_line text)

-- such a line, or why it is refused
abbrev pub HeadLine : Text → Result Head Fault → Type 0
HeadLine text r = MatchResult r (λ h. HeadTo text h) (λ f. fault_number f ≡ paper.header_refusal (first_line text))

-- of any job with that tally
abbrev pub CellNumber : Text → ℕ → Tally → ℕ → Type 0
CellNumber text at t n = (j : paper.Job) → Tallies j t → n ≡ paper.cell_refusal j (line_at text at)

pub record CellTo (text : Text) (at : ℕ) (t : Tally) (r : Line) : Type 0 where
  pub passed : CellNumber text at t 0
  pub past : at < r.next
  pub within : r.next ≤ length text
  pub rest : after_line (drop at text) ≡ drop r.next text
  pub cell : cell_of r.cell ≡ paper.line_cell (line_at text at)
  pub room : t.count < paper.max_cells

abbrev pub CellLine : Text → ℕ → Tally → Result Line Fault → Type 0
CellLine text at t r = MatchResult r (λ l. CellTo text at t l) (λ f. CellNumber text at t (fault_number f))

-- ---- the whole text

-- where the cell lines begin, after a header that is in range
pub record CellsFrom (text : Text) (from : ℕ) (h : Header) : Type 0 where
  pub within : from ≤ length text
  pub sound : SoundHeader (header_of h)

-- a job with its first n cells, and with none
abbrev pub sofar : Header → ℕ → List Cell → paper.Job
sofar h n cells = record { header = header_of h; cells = map cell_of (take n cells) }

abbrev pub begun : Header → paper.Job
begun h = record { header = header_of h; cells = [] }

-- what the answer stands for: a job, or a refusal at a line
abbrev pub reading_of : Result Job Refusal → paper.Reading
reading_of (Ok j) = paper.accepted (job_of j)
reading_of (Err f) = paper.refused (number_of f) (line_of f)

-- 1 to 4, at a line of the text or after its last: the 66th line is the 65th cell's
pub record Refuses (f : Refusal) : Type 0 where
  pub some : 0 < number_of f
  pub few : number_of f ≤ 4
  pub line : line_of f ≤ paper.max_cells + 2

pub record Reads (o : paper.Reading) (r : Result Job Refusal) : Type 0 where
  pub same : reading_of r ≡ o
  pub accepted : IfOk r (λ j. Accepted j)
  pub refused : IfErr r (λ f. Refuses f)

pub reads-accepted : {o : paper.Reading} {j : Job} → Reads o (Ok j) → o ≡ paper.accepted (job_of j)
reads-accepted s = sym s.same

pub reads-refused : {o : paper.Reading} {f : Refusal} → Reads o (Err f) → o ≡ paper.refused (number_of f) (line_of f)
reads-refused s = sym s.same
