-- Reasons in words: all cells that break the first broken rule, the sentence that says so, what can be had back from
-- it, and the operation. Document 02, A4.
use Rattle.std.specs.Prelude.{ℕ, suc, ◌≤◌, ◌<◌, ◌≡◌, Bool, true, false, not, ◌&&◌, cond, List, [], ◌∷◌, ◌++◌, map, length, get_or, leb, eqb, pos}
use Rattle.definition.specs.Lists.{keep}
use Rattle.definition.specs.Texts.{Text, bytes, onto, is_digit, value, digits, parted}
use Rattle.definition.specs.Job.{Job, accepted, read_job, max_cells, first_failing}
use Rattle.definition.specs.Placement.{Placement, poses, read_placement}
use Rattle.definition.specs.Rules.{cells_of, rule_of, verdict}
use Rattle.definition.specs.Outcome.{Outcome, Refusal, without_line, text_field_count, text_answer, as_score, score}
use Rattle.definition.specs.Outcome.{Buffers, over}

-- ---- which cells

-- the cells that break a rule, counted from 1, "in rising order"
abbrev pub breakers_of : Job → Placement → ℕ → List ℕ
breakers_of j P rule = map suc (keep (rule_of j P rule) (cells_of j))

-- "Editors want all cells that break the first broken rule": rule 0 and no cell when legal
pub record Reason : Type 0 where
  pub rule : ℕ
  pub cells : List ℕ

unfoldable pub reason_of : Job → Placement → Reason
reason_of j P = record { rule = (verdict j P).rule; cells = breakers_of j P (verdict j P).rule }

-- Score and the sentence can never disagree: the verdict's cell is the first of these
abbrev pub FirstNamed : Job → Placement → Type 0
FirstNamed j P = (verdict j P).cell ≡ get_or (reason_of j P).cells 0 0

-- ---- the sentence

-- "Phrases by rule"
abbrev pub phrases : List Text
phrases =
    bytes "choice not offered"
    ∷ bytes "outside row"
    ∷ bytes "shifted too far"
    ∷ bytes "overlap"
    ∷ bytes "one-site gap"
    ∷ bytes "order moved too far"
    ∷ bytes "tall order changed"
    ∷ bytes "one-site row end"
    ∷ []

abbrev pub phrase_of : ℕ → Text
phrase_of rule = get_or ([] ∷ phrases) rule []

-- "`cell N` for each such cell in rising order parted by a comma and a space"
abbrev pub cell_named : ℕ → Text
cell_named n = bytes "cell " ++ digits n

unfoldable pub cells_named : List ℕ → Text
cells_named cells = parted (bytes ", ") (map cell_named cells)

-- "The text is the rule's phrase, a colon, a space, [the cells], and a full stop." "A legal placement gives `legal.`"
unfoldable pub sentence : Reason → Text
sentence r =
    cond (eqb r.rule 0) (bytes "legal.") (phrase_of r.rule ++ (bytes ": " ++ (cells_named r.cells ++ bytes ".")))

-- ---- "From the text the rule and the cells can be had back"

-- the parts of a text between the bytes that pass a test
unfoldable pub split_by : (ℕ → Bool) → Text → List Text
split_by between [] = [] ∷ []
split_by between (b ∷ bs) = cond (between b) ([] ∷ split_by between bs) (onto b (split_by between bs))

unfoldable pub same_text : Text → Text → Bool
same_text [] [] = true
same_text (a ∷ s) (b ∷ t) = eqb a b && same_text s t
same_text [] (b ∷ t) = false
same_text (a ∷ s) [] = false

-- the number of the first of some texts that is this one, where they are numbered from n on; 0 if none is
unfoldable pub number_among : Text → ℕ → List Text → ℕ
number_among text n [] = 0
number_among text n (t ∷ ts) = cond (same_text text t) n (number_among text (suc n) ts)

-- the rule by the phrase before the first colon, 0 if no rule has it; the cells by the numbers that stand in the text
abbrev pub colon : ℕ
colon = 58

unfoldable pub rule_said : Text → ℕ
rule_said text = number_among (get_or (split_by (eqb colon) text) 0 []) 1 phrases

unfoldable pub cells_said : Text → List ℕ
cells_said text = map value (keep (λ t. leb 1 (length t)) (split_by (λ b. not (is_digit b)) text))

unfoldable pub read_reason : Text → Reason
read_reason text = record { rule = rule_said text; cells = cells_said text }

-- numbers that rise, the first at least a, up to as many as a job may have cells
abbrev pub CellsRise : ℕ → List ℕ → Type 0
CellsRise a [] = Unit {0}
CellsRise a (c ∷ cs) = (a ≤ c) × (c ≤ max_cells) × CellsRise (suc c) cs

-- legal and no cells, or a rule that there is and cells from 1 on, rising, at least one
pub record IsReason (r : Reason) : Type 0 where
  pub known : r.rule ≤ length phrases
  pub none : r.rule ≡ 0 → r.cells ≡ []
  pub some : ¬ (r.rule ≡ 0) → 0 < length r.cells
  pub rising : CellsRise 1 r.cells

-- ---- the operation

-- "11 when the output has under 1,024 bytes, tried after the refusals of Score"
abbrev pub reasons_room : ℕ
reasons_room = 1024

unfoldable pub room_refusal : ℕ → ℕ
room_refusal room = first_failing ((11, leb reasons_room room) ∷ [])

abbrev pub reasons_refusals : ℕ → Job → Placement → List Refusal
reasons_refusals room j P = without_line (room_refusal room) ∷ []

abbrev pub reasons_answer : Job → Placement → Outcome
reasons_answer j P = text_answer (sentence (reason_of j P))

-- the reasons of a job text and a placement text, for an output of so many bytes
unfoldable pub reasons : Text → Text → ℕ → Outcome
reasons job placement room =
    as_score text_field_count (reasons_refusals room) reasons_answer (read_job job) placement

-- ---- what can be relied on

-- "so different verdicts never share a text"; every sentence fits where 11 is not given; and what is said of any
-- placement of an accepted job is such a reason
pub record Sentences : Type 0 where
  pub reads-back : (r : Reason) → IsReason r → read_reason (sentence r) ≡ r
  pub one_reason : (r s : Reason) → IsReason r → IsReason s → sentence r ≡ sentence s → r ≡ s
  pub fits : (r : Reason) → IsReason r → length (sentence r) ≤ reasons_room
  pub of-job : (job : Text) (j : Job) → read_job job ≡ accepted j → (P : Placement) → IsReason (reason_of j P)

-- of a call, by what its caller can see: a sentence stands at the output's start, of the stated length where the array
-- reaches it; a job and a placement were read, and what is had back from the sentence is their reason; Score's rule and
-- cell are its rule and the first of its cells
pub record Reasoned (job placement : Text) (before end : Buffers) : Type 0 where
  pub text : Text
  pub fits : length text ≤ length before.output
  pub written : end.output ≡ over text before.output
  pub stated : 2 < length before.results → get_or end.results 2 (pos 0) ≡ pos (length text)
  pub job_read : Job
  pub placement_read : Placement
  pub accepts : read_job job ≡ accepted job_read
  pub posed : read_placement (length job_read.cells) placement ≡ poses placement_read
  pub reads : read_reason text ≡ reason_of job_read placement_read
  pub rule : get_or (score job placement).fields 0 (pos 0) ≡ pos (read_reason text).rule
  pub cell : get_or (score job placement).fields 1 (pos 0) ≡ pos (get_or (read_reason text).cells 0 0)

abbrev pub ReasonedOf : Text → Text → ℕ → Buffers → Buffers → Type 0
ReasonedOf job placement returned before end = returned ≡ 0 → Reasoned job placement before end
