-- The demands that every operation serves, each as one statement about what a caller can see. Demand 3 stands with
-- Place, in Outcome. Crate `demand_laws` proves each of what the operations give.
use Rattle.std.specs.Prelude.{ℕ, ◌-◌, ◌≤◌, ◌<◌, ◌≡◌, ◌↔◌, Bool, true, false, cond, List, [], ◌∷◌, ◌++◌, map, length, replicate, ltb, eqb, ℤ, pos}
use Rattle.definition.specs.Lists.{from, any}
use Rattle.definition.specs.Texts.{Text}
use Rattle.definition.specs.Job.{Job, read_job, accepted}
use Rattle.definition.specs.Placement.{Placement, Printable, poses, read_placement, text_of}
use Rattle.definition.specs.Rules.{pose_at, Legal, rules, rule_of}
use Rattle.definition.specs.Outcome.{Outcome, numbers, number_count, score, Buffers, lent, over}
use Rattle.definition.specs.Outcome.{read_field_count, score_field_count, place_field_count, text_field_count}

-- ---- Demand 1: "the call ends, stays within [its buffers], and answers or gives a numbered refusal with its line"

abbrev pub is_one_of : List ℕ → ℕ → Bool
is_one_of l n = any (eqb n) l

-- What is known of an operation beforehand: the numbers that it answers with, the refusals that it may give, those of
-- all these that name a line, and those that it returns after a search; whether number and line lead its results, and
-- how many fields it has.
pub record Shape : Type 0 where
  pub answers : List ℕ
  pub refusals : List ℕ
  pub lined : List ℕ
  pub searched : List ℕ
  pub led : Bool
  pub field_count : ℕ

-- "1 to 4"; "1 to 4 as Read does, then 5": each of these names a line
abbrev pub by_read : List ℕ
by_read = 1 ∷ 2 ∷ 3 ∷ 4 ∷ []

abbrev pub by_score : List ℕ
by_score = by_read ++ (5 ∷ [])

abbrev pub read_shape : Shape
read_shape = record {
  answers = 0 ∷ [];
  refusals = by_read;
  lined = by_read;
  searched = [];
  led = true;
  field_count = read_field_count;
}

-- Score and Place have so many numbers as the job text says (A7).
abbrev pub score_shape : ℕ → Shape
score_shape n = record {
  answers = 0 ∷ [];
  refusals = by_score;
  lined = by_score;
  searched = [];
  led = true;
  field_count = score_field_count n;
}

-- Fault line refuses nothing: a number of Score's is its answer, and three numbers say where the line is.
abbrev pub fault_shape : Shape
fault_shape = record {
  answers = 0 ∷ by_score;
  refusals = [];
  lined = by_score;
  searched = [];
  led = false;
  field_count = 3;
}

-- "1 to 4; then 6 [..]; then 7 [..]; then 8". "Line is 0 for 6, 7 and 8." "After 8 or an answer the whole store is
-- zero."
abbrev pub place_shape : ℕ → Shape
place_shape n = record {
  answers = 0 ∷ [];
  refusals = by_read ++ (6 ∷ 7 ∷ 8 ∷ []);
  lined = by_read;
  searched = 0 ∷ 8 ∷ [];
  led = true;
  field_count = place_field_count n;
}

-- A load: "9 when the count is over 64; 10 when the output has under 8,192 bytes" (A3)
abbrev pub load_shape : Shape
load_shape = record {
  answers = 0 ∷ [];
  refusals = 9 ∷ 10 ∷ [];
  lined = [];
  searched = [];
  led = true;
  field_count = text_field_count;
}

-- Reasons: "11 when the output has under 1,024 bytes, tried after the refusals of Score" (A4)
abbrev pub reasons_shape : Shape
reasons_shape = record {
  answers = 0 ∷ [];
  refusals = by_score ++ (11 ∷ []);
  lined = by_score;
  searched = [];
  led = true;
  field_count = text_field_count;
}

-- "Demand 1's eight refusals are from here on those and each number that a request adds" (A3): every operation, on a
-- job text with n numbers, and every number that one of them refuses by
abbrev pub shapes : ℕ → List Shape
shapes n = read_shape ∷ score_shape n ∷ fault_shape ∷ place_shape n ∷ load_shape ∷ reasons_shape ∷ []

abbrev pub refusal_numbers : List ℕ
refusal_numbers = from 1 11

abbrev pub is_refusal : Shape → ℕ → Bool
is_refusal shape n = is_one_of shape.refusals n

-- "number, line (0 if no line is at fault) and then the fields in the order named"; Fault line has fields alone
abbrev pub entries_of : Shape → ℕ → ℕ → List ℤ → List ℤ
entries_of shape number line fields = cond shape.led (pos number ∷ pos line ∷ fields) fields

-- A call of an operation, by the number that it returns and its buffers before and after it; one that takes no store or
-- no output is seen with empty ones. That the call ends, and reads and writes nothing else, is part of every proof.
pub record Demand1 (shape : Shape) (returned : ℕ) (before end : Buffers) : Type 0 where
  pub line : ℕ
  pub fields : List ℤ
  pub text : Text
  -- "answers or gives a numbered refusal with its line": an answer or a refusal of the operation's own
  pub numbered : is_one_of (shape.answers ++ shape.refusals) returned ≡ true
  -- "line (0 if no line is at fault)"
  pub located : is_one_of shape.lined returned ≡ ltb 0 line
  -- number, line and fields as far as the array reaches, and nothing after them
  pub counted : length fields ≡ shape.field_count
  pub array : end.results ≡ over (entries_of shape returned line fields) before.results
  -- a text that fits, and nothing after it
  pub fits : length text ≤ length before.output
  pub written : end.output ≡ over text before.output
  -- "A refused call writes nothing into the output and leaves zero in every result field but number and line"
  pub no_fields : is_refusal shape returned ≡ true → fields ≡ replicate shape.field_count (pos 0)
  pub no_text : is_refusal shape returned ≡ true → text ≡ []
  -- "the store is untouched, or all zero if a search was made"
  pub stored : end.store
      ≡ cond (is_one_of shape.searched returned) (replicate (length before.store) 0) before.store

-- an operation that is lent results alone
abbrev pub alone : List ℤ → Buffers
alone results = lent [] [] results

-- Fault line is lent results without signs, and perhaps an output
abbrev pub unsigned : List ℕ → List ℕ → Buffers
unsigned output part = lent [] output (map pos part)

-- ---- Demand 2: "Scoring says legal just when the rules hold; otherwise the first broken rule and its lowest cell."

-- a cell breaks a rule, both counted from 1
abbrev pub broken : Job → Placement → ℕ → ℕ → Bool
broken j P rule cell = rule_of j P rule (cell - 1)

-- Score's outcome, with n numbers, on an accepted job and a placement that was read
pub record Demand2 (n : ℕ) (j : Job) (P : Placement) (o : Outcome) : Type 0 where
  pub rule : ℕ
  pub cell : ℕ
  pub legal_when : rule ≡ 0 ↔ Legal j P
  -- "rule and cell, both 0 when legal"
  pub no_cell : rule ≡ 0 → cell ≡ 0
  -- that cell breaks that rule; no cell breaks an earlier one, and no lower cell this one
  pub breaks : ¬ (rule ≡ 0) → (rule ≤ length (rules j P)) × (0 < cell) × (cell ≤ length j.cells)
      × (broken j P rule cell ≡ true)
  pub first : (r k : ℕ) → 0 < r → r < rule → 0 < k → k ≤ length j.cells → broken j P r k ≡ false
  pub lowest : ¬ (rule ≡ 0) → (k : ℕ) → 0 < k → k < cell → broken j P rule k ≡ false
  -- "Steps, sites shifted, mirrorings, layout changes, cost are the definition's", "all 0 unless legal"
  pub number : o.number ≡ 0
  pub fields : o.fields ≡ pos rule ∷ pos cell ∷ cond (eqb rule 0) (numbers n j P) (replicate n (pos 0))

abbrev pub Demand2Of : Text → Text → Type 0
Demand2Of job placement =
    (j : Job) → read_job job ≡ accepted j
    → (P : Placement) → read_placement (length j.cells) placement ≡ poses P
    → Demand2 (number_count job) j P (score job placement)

-- "A placement written as text reads back unchanged, and each placement has one text."
pub record OneText : Type 0 where
  pub reads-back : (P : Placement) → ((k : ℕ) → k < length P → Printable (pose_at P k))
      → read_placement (length P) (text_of P) ≡ poses P
  pub one-text : (n : ℕ) (text : Text) (P : Placement) → read_placement n text ≡ poses P → text_of P ≡ text
  pub in_range : (n : ℕ) (text : Text) (P : Placement) → read_placement n text ≡ poses P
      → (k : ℕ) → k < length P → Printable (pose_at P k)

-- What Place writes, Score reads as legal, with the very numbers that Place gave.
pub record Rescored (job : Text) (before end : Buffers) : Type 0 where
  pub text : Text
  pub given : List ℤ
  pub fits : length text ≤ length before.output
  pub written : end.output ≡ over text before.output
  pub array : end.results ≡ over (pos 0 ∷ pos 0 ∷ given ++ (pos (length text) ∷ [])) before.results
  pub number : (score job text).number ≡ 0
  pub fields : (score job text).fields ≡ pos 0 ∷ pos 0 ∷ given

abbrev pub RescoredOf : Text → ℕ → Buffers → Buffers → Type 0
RescoredOf job returned before end = returned ≡ 0 → Rescored job before end
