-- The line that Score reports, as a part of one of its two texts. Document 01,
-- "Operations and their refusals", Fault line.
use Rattle.std.specs.Prelude.{ℕ, ◌+◌, ◌-◌, ◌≤◌, ◌≡◌, cond, List, [], ◌∷◌, eqb, length, get_or, take, drop}
use Rattle.std.specs.Borrow.{Bor}
use Rattle.definition.specs.Lists.{sum}
use Rattle.definition.specs.Texts.{Text, lines_of}
use Rattle.definition.specs.Outcome.{score, over}

-- a part of one of the two texts: its first byte and its length
pub data Part : Type 0 where
  of_job : ℕ → ℕ → Part
  of_placement : ℕ → ℕ → Part

-- ---- which part it is

-- where line number n begins, and how long it is; at the text's end, and 0, if it is missing
abbrev pub line_start : Text → ℕ → ℕ
line_start text n = sum (λ l. length l) (take (n - 1) (lines_of text))

abbrev pub line_length : Text → ℕ → ℕ
line_length text n = length (get_or (lines_of text) (n - 1) [])

-- "the line that Score reports [..] of the job text or of the placement text, with its line feed
-- if it has one. A missing line, or no fault, gives the empty part at the placement's end. A
-- missing first job line gives the empty job text."
unfoldable pub part_at : ℕ → ℕ → Text → Text → Part
part_at number line job placement =
    cond (eqb number 0) (of_placement (length placement) 0)
    (cond (eqb number 5) (of_placement (line_start placement line) (line_length placement line))
    (of_job (line_start job line) (line_length job line)))

unfoldable pub fault_line : Text → Text → Part
fault_line job placement = part_at (score job placement).number (score job placement).line job placement

-- the bytes of a part
abbrev pub shown : Text → Text → Part → Text
shown job placement (of_job i n) = take n (drop i job)
shown job placement (of_placement i n) = take n (drop i placement)

-- ---- "as that very part of the job text or of the placement text"

-- r is that very part of s: it points i bytes into s's own block, and shows the n bytes there
pub record PartOf (s : Bor (List ℕ)) (i n : ℕ) (r : Bor (List ℕ)) : Type 0 where
  pub inside : i + n ≤ length s.now
  pub shows : r.now ≡ take n (drop i s.now)
  pub block : r.ref_ptr.0 ≡ s.ref_ptr.0
  pub offset : r.ref_ptr.1 ≡ s.ref_ptr.1 + i

abbrev pub Very : Part → Bor (List ℕ) → Bor (List ℕ) → Bor (List ℕ) → Type 0
Very (of_job i n) job placement r = PartOf job i n r
Very (of_placement i n) job placement r = PartOf placement i n r

-- ---- for the host, which is handed numbers

-- a part in three numbers: which text (0 the job, 1 the placement), its first byte and its length
abbrev pub words_of : Part → List ℕ
words_of (of_job i n) = 0 ∷ i ∷ n ∷ []
words_of (of_placement i n) = 1 ∷ i ∷ n ∷ []

-- what a call returns, which is Score's number, and its results before and after it
pub record ToldFault (job placement : Text) (returned : ℕ) (results results' : List ℕ) : Type 0 where
  pub number : returned ≡ (score job placement).number
  pub array : results' ≡ over (words_of (fault_line job placement)) results

-- the same with the line itself copied to an output, "as far as it reaches"; the bytes after it are untouched
pub record CopiedFault (job placement : Text) (returned : ℕ) (output output' part part' : List ℕ) : Type 0 where
  pub told : ToldFault job placement returned part part'
  pub copied : output' ≡ over (shown job placement (fault_line job placement)) output
