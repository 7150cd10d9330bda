-- "The reader accepts each job written": for every seed and every count up to 64, with that many cells; and the text is
-- shorter than the output that a call asks for.
use Rattle.std.specs.Prelude.{ℕ, zero, suc, ◌+◌, ◌*◌, ◌≤◌, ◌<◌, ◌≡◌, refl, true, [], length}
use Rattle.std.proofs.Common.{ap, ◌∙◌, arith, length-append}
use Rattle.definition.specs.Texts.{ended}
use Rattle.definition.specs.Job.{Header, Job, Cell, max_cells, accepted, read_job, with_cell}
use Rattle.definition.specs.Load.{Load, ReadWith, load_header, load_of, load_room, numbers_drawn, numbers_line}
use Rattle.definition.specs.EdgesComputed.{opened}
use Rattle.job_laws.specs.More.{read_more}
use Rattle.load_laws.specs.Lines.{line_bytes, header_bytes, line-alone, line-ended, line-cell}
use Rattle.load_laws.specs.Lines.{line_taken, line-long}
use Rattle.load_laws.specs.Cells.{SoFar, cell-taken, so_far, numbers-printable}
use Rattle.load_laws.specs.Cells.{numbers-some, numbers-few}

-- the header's numbers
abbrev header : Header
header = record {
  rows = 2;
  sites = 1024;
  displacement = 7;
  reordering = 1;
  step_weight = 100;
  shift_weight = 1;
  mirror_weight = 100;
  swap_weight = 50;
  filled_weight = 100;
}

-- the job that a load is read as
abbrev pub job_from : Load → Job
job_from l = record { header = header; cells = l.cells }

header_read : read_job load_header ≡ accepted (record { header = header; cells = [] })
unfolding opened
header_read = refl

-- a load of n cells
pub record LoadSound (seed n : ℕ) : Type 0 where
  pub cells : SoFar n (load_of seed n).cells
  pub reads : read_job (load_of seed n).text ≡ accepted (job_from (load_of seed n))
  pub ends : ended (load_of seed n).text ≡ true
  pub long : length (load_of seed n).text ≤ header_bytes + line_bytes * n

none-sound : (seed : ℕ) → LoadSound seed 0
unfolding load_of opened
none-sound seed = record {
  cells = record { many = refl; low0 = omega arith; low1 = omega arith };
  reads = header_read;
  ends = refl;
  long = omega arith;
}

more-sound : (seed n : ℕ) → n < max_cells → LoadSound seed n → LoadSound seed (suc n)
unfolding load_of
more-sound seed n few s =
    let l = load_of seed n in
    let ns = numbers_drawn l.cells l.generator in
    let printed = numbers-printable n l.cells l.generator few s.cells in
    let many = numbers-few n l.cells l.generator few s.cells in
    let some = numbers-some n l.cells l.generator few s.cells in
    let taken = cell-taken n l.cells l.generator few s.cells header refl in
    record {
      cells = so_far n l.cells l.generator few s.cells;
      reads =
          read_more l.text (numbers_line ns) (job_from l) s.ends s.reads (line-alone ns)
          (line_taken (job_from l) ns printed some taken)
          ∙ ap (λ (c : Cell). accepted (with_cell (job_from l) c)) (line-cell ns);
      ends = line-ended l.text ns;
      long = omega (arith, s.long, length-append l.text (numbers_line ns), line-long ns printed);
    }

pub load-sound : (seed n : ℕ) → n ≤ max_cells → LoadSound seed n
load-sound seed zero h = none-sound seed
load-sound seed (suc n) h = more-sound seed n (omega arith) (load-sound seed n (omega arith))

-- ---- what a caller relies on

pub load-accepted : (seed cells : ℕ) → cells ≤ max_cells → ReadWith cells (load_of seed cells).text
load-accepted seed cells h =
    let s = load-sound seed cells h in
    record { job = job_from (load_of seed cells); accepts = s.reads; many = s.cells.many }

pub load-short : (seed cells : ℕ) → cells ≤ max_cells → length (load_of seed cells).text < load_room
load-short seed cells h = omega (arith, (load-sound seed cells h).long)
