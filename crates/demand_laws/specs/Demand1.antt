-- Demand 1 of Read, Score, Place and Fault line.
use Rattle.std.specs.Prelude.{ℕ, zero, suc, ◌+◌, ◌≤◌, ◌<◌, ◌≡◌, refl, ◌⊎◌, Bool, true, false, cond, List, [], ◌∷◌, ◌++◌, map, length, replicate, take, leb, ltb, eqb, ℤ, pos}
use Rattle.std.proofs.Common.{sym, ap, ap₂, ◌∙◌, subst, inl, inr, arith, lt-ltb, leb-true, length-take, length-append}
use Rattle.std.proofs.lemmas.Bool.{false≢true}
use Rattle.std.proofs.Math.Option.{Option, none, some}
use Rattle.std.proofs.lemmas.List.{length-replicate}
use Rattle.definition.specs.Texts.{Text}
use Rattle.definition.specs.Job.{Job, Reading, refused, accepted, read_job, first_failing}
use Rattle.definition.specs.Placement.{Placement, Poses, fault, poses, read_placement, text_of}
use Rattle.definition.specs.Rules.{Verdict, verdict}
use Rattle.definition.specs.Moves.{Cheapest}
use Rattle.definition.specs.Outcome.{Outcome, Refusal, without_line, refused_by, outcome_of, read, numbers, number_count}
use Rattle.definition.specs.Outcome.{as_score, score_field_count, score_fields, score_answer, score}
use Rattle.definition.specs.Outcome.{place_outcome, place_answer, place_field_count, PlaceGives, buffer_refusal}
use Rattle.definition.specs.Outcome.{store_needed, output_needed, Told, Buffers, Placed, over}
use Rattle.definition.specs.FaultLine.{ToldFault, CopiedFault, Part, of_job, of_placement, words_of, fault_line, shown}
use Rattle.definition.specs.Demands.{is_one_of, is_refusal, Shape, read_shape, score_shape, fault_shape, place_shape, Demand1}
use Rattle.definition.specs.Demands.{by_read, by_score}
use Rattle.definition.specs.Demands.{alone, unsigned}
use Rattle.definition_laws.specs.Sound.{Sound}
use Rattle.definition_laws.specs.Counts.{counted}
use Rattle.definition_laws.specs.Outcomes.{none-refuses, job-refuses, poses-refuse, poses_pass}
use Rattle.definition_laws.specs.Outcomes.{read-refused, read-accepted}
use Rattle.definition_laws.specs.Outcomes.{place-refused, place-buffers, place-accepted}
use Rattle.job_laws.specs.Refused.{Refused, job-refused}
use Rattle.job_laws.specs.Whole.{accepted-sound}
use Rattle.text_laws.proofs.Poses.{fault-within}
use Rattle.text_laws.proofs.Room.{legal-room}
use Rattle.demand_laws.specs.Fair.{Fair, fair_demand1, refusal-fair}

-- ---- the refusals of a job text

-- what is so of 1 to 4 is so of every refusal of Read
of-read : (T : ℕ → Type 0) {n line : ℕ} → Refused n line → T 1 → T 2 → T 3 → T 4 → T n
of-read T {n} r a b c d = go n r.some r.few
  where
    go : (n : ℕ) → 0 < n → n ≤ 4 → T n
    go zero h g = absurd (omega arith)
    go (suc zero) h g = a
    go (suc (suc zero)) h g = b
    go (suc (suc (suc zero))) h g = c
    go (suc (suc (suc (suc zero)))) h g = d
    go (suc (suc (suc (suc (suc n))))) h g = absurd (omega arith)

refused-some : (job : Text) {n line : ℕ} → read_job job ≡ refused n line → n ≡ 0 → ⊥
refused-some job {n} {line} e z = let s = (job-refused job n line e).some in omega arith

-- a refusal of the operation's own, at its line and before any search
pub record Known (shape : Shape) (n : ℕ) : Type 0 where
  pub own : is_one_of (shape.answers ++ shape.refusals) n ≡ true
  pub lined : is_one_of shape.lined n ≡ true
  pub unsearched : is_one_of shape.searched n ≡ false

pub known : {shape : Shape} {n : ℕ} → is_one_of (shape.answers ++ shape.refusals) n ≡ true
    → is_one_of shape.lined n ≡ true → is_one_of shape.searched n ≡ false → Known shape n
known o l u = record { own = o; lined = l; unsearched = u }

known-fair : (shape : Shape) → shape.led ≡ true → (room n line : ℕ) → Known shape n → 1 ≤ line
    → Fair shape room (refused_by shape.field_count (record { number = n; line = line }))
known-fair shape led room n line k h =
    refusal-fair shape room (record { number = n; line = line }) led k.own (k.lined ∙ sym (lt-ltb 0 line h))
    k.unsearched

-- an operation that refuses as Read does, and one that refuses as Score does
pub record AsRead (shape : Shape) : Type 0 where
  pub led : shape.led ≡ true
  pub knows : (n line : ℕ) → Refused n line → Known shape n

pub record AsScore (shape : Shape) : Type 0 where
  pub reads : AsRead shape
  pub fifth : Known shape 5

read-fair : (shape : Shape) → AsRead shape → (room : ℕ) (job : Text) (n line : ℕ) → read_job job ≡ refused n line
    → Fair shape room (refused_by shape.field_count (record { number = n; line = line }))
read-fair shape s room job n line e =
    let r = job-refused job n line e in
    known-fair shape s.led room n line (s.knows n line r) r.located

pub as_read : (shape : Shape) → shape.led ≡ true
    → Known shape 1 → Known shape 2 → Known shape 3 → Known shape 4 → AsRead shape
as_read shape l a b c d = record { led = l; knows = λ n line r. of-read (Known shape) r a b c d }

read_as_read : AsRead read_shape
read_as_read =
    as_read read_shape refl
    (known refl refl refl) (known refl refl refl) (known refl refl refl) (known refl refl refl)

score_as_score : (n : ℕ) → AsScore (score_shape n)
score_as_score n = record {
  reads = as_read (score_shape n) refl
      (known refl refl refl) (known refl refl refl) (known refl refl refl) (known refl refl refl);
  fifth = known refl refl refl;
}

place_as_read : (n : ℕ) → AsRead (place_shape n)
place_as_read n =
    as_read (place_shape n) refl
    (known refl refl refl) (known refl refl refl) (known refl refl refl) (known refl refl refl)

-- ---- Read and Score

read_keeps : (job : Text) → Fair read_shape 0 (read job)
read_keeps job = go (read_job job) refl
  where
    go : (r : Reading) → read_job job ≡ r → Fair read_shape 0 (read job)
    go (refused n line) e =
        subst (Fair read_shape 0) (sym (read-refused job e (refused-some job e)))
        (read-fair read_shape read_as_read 0 job n line e)
    go (accepted j) e = subst (Fair read_shape 0) (sym (read-accepted job e)) (record {
      led = refl;
      numbered = refl;
      located = refl;
      counted = refl;
      fits = omega arith;
      no_fields = λ z. absurd (false≢true z);
      no_text = λ z. refl;
      searches = refl;
    })

score-counted : (job : Text) (j : Job) (P : Placement) (v : Verdict)
    → length (score_fields (number_count job) j P v) ≡ score_field_count (number_count job)
unfolding score_fields
score-counted job j P v = let e = go (eqb v.rule 0) in omega arith
  where
    go : (t : Bool)
        → length (cond t (numbers (number_count job) j P) (replicate (number_count job) (pos 0))) ≡ number_count job
    go true = counted job j P
    go false = length-replicate (number_count job) (pos 0)

-- what such an operation gives keeps the demand, if it does so once both texts are read
pub as_score-fair : (shape : Shape) → AsScore shape → (room : ℕ) (more : Job → Placement → List Refusal)
    → (answer : Job → Placement → Outcome) (job placement : Text)
    → ((j : Job) → read_job job ≡ accepted j → (P : Placement) → read_placement (length j.cells) placement ≡ poses P
    → Fair shape room (outcome_of shape.field_count (more j P) (answer j P)))
    → Fair shape room (as_score shape.field_count more answer (read_job job) placement)
as_score-fair shape s room more answer job placement after = go (read_job job) refl
  where
    n : ℕ
    n = shape.field_count

    posed : (j : Job) → read_job job ≡ accepted j → (p : Poses) → read_placement (length j.cells) placement ≡ p
        → Fair shape room (as_score n more answer (read_job job) placement)
    posed j r (fault line) e =
        let w = fault-within (length j.cells) placement line e in
        subst (Fair shape room) (sym (poses-refuse n more answer job r placement e))
        (known-fair shape s.reads.led room 5 line s.fifth (omega (arith, w.0)))
    posed j r (poses P) e =
        subst (Fair shape room) (sym (poses_pass n more answer job r placement e)) (after j r P e)

    go : (x : Reading) → read_job job ≡ x → Fair shape room (as_score n more answer (read_job job) placement)
    go (refused number line) e =
        subst (Fair shape room) (sym (job-refuses n more answer job e (refused-some job e) placement))
        (read-fair shape s.reads room job number line e)
    go (accepted j) e = posed j e (read_placement (length j.cells) placement) refl

score-keeps : (job placement : Text) → Fair (score_shape (number_count job)) 0 (score job placement)
unfolding score
score-keeps job placement =
    as_score-fair shape (score_as_score n) 0 (λ j P. []) (score_answer n) job placement
    (λ j r P e. subst (Fair shape 0) (sym (none-refuses (score_field_count n) (score_answer n j P))) (record {
      led = refl;
      numbered = refl;
      located = refl;
      counted = score-counted job j P (verdict j P);
      fits = omega arith;
      no_fields = λ z. absurd (false≢true z);
      no_text = λ z. refl;
      searches = refl;
    }))
  where
    n : ℕ
    n = number_count job

    shape : Shape
    shape = score_shape n

told_demand1 : {shape : Shape} {o : Outcome} {returned : ℕ} {results results' : List ℤ} → shape.searched ≡ []
    → Fair shape 0 o → Told o returned results results' → Demand1 shape returned (alone results) (alone results')
unfolding over
told_demand1 {shape} {o} s f t = fair_demand1 f (record {
  told = t;
  written = sym (ap (λ x. over x []) (empty o.text f.fits));
  stored = sym (ap (λ x. cond x [] []) (f.searches ∙ ap (λ l. is_one_of l o.number) s));
})
  where
    empty : (l : Text) → length l ≤ 0 → l ≡ []
    empty [] h = refl
    empty (x ∷ l) h = absurd (omega arith)

pub read_demand1 : (job : Text) {returned : ℕ} {results results' : List ℤ} → Told (read job) returned results results'
    → Demand1 read_shape returned (alone results) (alone results')
read_demand1 job t = told_demand1 refl (read_keeps job) t

pub score_demand1 : (job placement : Text) {returned : ℕ} {results results' : List ℤ}
    → Told (score job placement) returned results results'
    → Demand1 (score_shape (number_count job)) returned (alone results) (alone results')
score_demand1 job placement t = told_demand1 refl (score-keeps job placement) t

-- ---- Fault line

-- what a list is written over by, number by number
map-over : (xs l : List ℕ) → map pos (over xs l) ≡ over (map pos xs) (map pos l)
unfolding over
map-over [] l = refl
map-over (x ∷ xs) [] = refl
map-over (x ∷ xs) (y ∷ l) = ap (λ z. pos x ∷ z) (map-over xs l)

-- as much of a text as fits is what is written
over-fits : (text l : List ℕ) → over text l ≡ over (take (length l) text) l
unfolding over
over-fits [] [] = refl
over-fits [] (y ∷ l) = refl
over-fits (x ∷ xs) [] = refl
over-fits (x ∷ xs) (y ∷ l) = ap (λ z. x ∷ z) (over-fits xs l)

over-empty : (l : List ℕ) → [] ≡ over l []
unfolding over
over-empty [] = refl
over-empty (x ∷ l) = refl

-- the line is Score's, and so is the number
pub line_demand1 : {job placement : Text} {returned : ℕ} {output output' part part' : List ℕ}
    → CopiedFault job placement returned output output' part part'
    → Demand1 fault_shape returned (unsigned output part) (unsigned output' part')
line_demand1 {job} {placement} {returned} {output} {output'} {part} {part'} c =
    let e = c.told.number in
    let s = score-keeps job placement in
    record {
      line = (score job placement).line;
      fields = map pos words;
      text = take (length output) line;
      numbered = ap (is_one_of (0 ∷ by_score)) e ∙ s.numbered;
      located = ap (is_one_of by_score) e ∙ s.located;
      counted = three (fault_line job placement);
      array = ap (map pos) c.told.array ∙ map-over words part;
      fits = simp length-take (omega arith);
      written = c.copied ∙ over-fits line output;
      no_fields = λ z. absurd (false≢true z);
      no_text = λ z. absurd (false≢true z);
      stored = refl;
    }
  where
    words : List ℕ
    words = words_of (fault_line job placement)

    line : Text
    line = shown job placement (fault_line job placement)

    three : (p : Part) → length (map pos (words_of p)) ≡ 3
    three (of_job i n) = refl
    three (of_placement i n) = refl

-- no output is an empty one
pub fault_demand1 : {job placement : Text} {returned : ℕ} {part part' : List ℕ}
    → ToldFault job placement returned part part' → Demand1 fault_shape returned (unsigned [] part) (unsigned [] part')
fault_demand1 {job} {placement} t =
    line_demand1 (record { told = t; copied = over-empty (shown job placement (fault_line job placement)) })

-- ---- Place

place-counted : (job : Text) (j : Job) (P : Placement)
    → length (place_answer (number_count job) j (some P)).fields ≡ place_field_count (number_count job)
place-counted job j P =
    length-append (numbers (number_count job) j P) (pos (length (text_of P)) ∷ [])
    ∙ ap (λ n. n + 1) (counted job j P)

-- 6, 7 or neither
pub record Lent (j : Job) (words room n : ℕ) : Type 0 where
  pub either : (n ≡ 0) ⊎ (n ≡ 6) ⊎ (n ≡ 7)
  pub enough : n ≡ 0 → output_needed j ≤ room

pub buffers : (j : Job) (words room : ℕ) → Lent j words room (buffer_refusal j words room)
unfolding buffer_refusal first_failing
buffers j words room =
    go (leb (store_needed j) words) (leb (output_needed j) room) (leb-true (output_needed j) room)
  where
    go : (s t : Bool) → (t ≡ true → output_needed j ≤ room)
        → Lent j words room (cond s (cond t 0 7) 6)
    go true true h = record { either = inl refl; enough = λ z. h refl }
    go true false h = record { either = inr (inr refl); enough = λ z. absurd (omega arith) }
    go false t h = record { either = inr (inl refl); enough = λ z. absurd (omega arith) }

-- a text of a legal placement of an accepted job fits where 7 was not given
place-keeps : {job : Text} {words room : ℕ} {o : Outcome} → PlaceGives job words room o
    → Fair (place_shape (number_count job)) room o
place-keeps {job} {words} {room} {o} g = subst (Fair shape room) (sym g.outcome) (go (read_job job) refl)
  where
    count : ℕ
    count = number_count job

    shape : Shape
    shape = place_shape count

    answer : (j : Job) → Sound j → output_needed j ≤ room → (a : Option Placement) → Cheapest j a
        → Fair shape room (place_answer count j a)
    answer j s h none c = record {
      led = refl;
      numbered = refl;
      located = refl;
      counted = length-replicate (place_field_count count) (pos 0);
      fits = omega arith;
      no_fields = λ z. refl;
      no_text = λ z. refl;
      searches = refl;
    }
    answer j s h (some P) c = record {
      led = refl;
      numbered = refl;
      located = refl;
      counted = place-counted job j P;
      fits = omega (arith, legal-room j P s (c.legal P refl));
      no_fields = λ z. absurd (false≢true z);
      no_text = λ z. absurd (false≢true z);
      searches = refl;
    }

    short : (n : ℕ) → (n ≡ 0) ⊎ (n ≡ 6) ⊎ (n ≡ 7) → (n ≡ 0 → ⊥)
        → Fair shape room (refused_by (place_field_count count) (without_line n))
    short n (inl e) z = absurd (z e)
    short n (inr (inl e)) z =
        subst (λ m. Fair shape room (refused_by (place_field_count count) (without_line m))) (sym e)
        (refusal-fair shape room (without_line 6) refl refl refl refl)
    short n (inr (inr e)) z =
        subst (λ m. Fair shape room (refused_by (place_field_count count) (without_line m))) (sym e)
        (refusal-fair shape room (without_line 7) refl refl refl refl)

    lent-enough : (j : Job) → read_job job ≡ accepted j → (n : ℕ) → buffer_refusal j words room ≡ n
        → Fair shape room (place_outcome count (read_job job) words room g.answer)
    lent-enough j r zero e =
        subst (Fair shape room) (sym (place-accepted job r count words room g.answer e))
        (answer j (accepted-sound job j r) ((buffers j words room).enough e) g.answer (g.cheapest j r e))
    lent-enough j r (suc n) e =
        let z : buffer_refusal j words room ≡ 0 → ⊥ = λ y. omega arith in
        subst (Fair shape room) (sym (place-buffers job r count words room g.answer z))
        (short (buffer_refusal j words room) (buffers j words room).either z)

    go : (r : Reading) → read_job job ≡ r → Fair shape room (place_outcome count (read_job job) words room g.answer)
    go (refused n line) e =
        subst (Fair shape room) (sym (place-refused job e (refused-some job e) count words room g.answer))
        (read-fair shape (place_as_read count) room job n line e)
    go (accepted j) e = lent-enough j e (buffer_refusal j words room) refl

pub place_demand1 : {job : Text} {returned : ℕ} {before end : Buffers} → Placed job returned before end
    → Demand1 (place_shape (number_count job)) returned before end
place_demand1 p = fair_demand1 (place-keeps p.gives) p.met

-- ---- the demand at work: what a caller of Place who believes it learns of refusal 7

pub short-output : (n : ℕ) {returned : ℕ} {before end : Buffers} → Demand1 (place_shape n) returned before end
    → returned ≡ 7
    → (end.results ≡ over (pos 7 ∷ pos 0 ∷ replicate (place_field_count n) (pos 0)) before.results)
    × (end.output ≡ before.output) × (end.store ≡ before.store)
unfolding over
short-output n {returned} {before} {end} d e =
    let refuses = ap (is_refusal (place_shape n)) e in
    let nowhere = ap (is_one_of by_read) (sym e) ∙ d.located in (
      d.array ∙ ap₂ (λ n x. over (pos n ∷ x) before.results) e
          (ap₂ (λ n x. pos n ∷ x) (no_line d.line nowhere) (d.no_fields refuses)),
      d.written ∙ ap (λ x. over x before.output) (d.no_text refuses),
      d.stored ∙ ap (λ m. cond (is_one_of (0 ∷ 8 ∷ []) m) (replicate (length before.store) 0)
          before.store) e,
    )
  where
    no_line : (n : ℕ) → false ≡ ltb 0 n → n ≡ 0
    no_line zero h = refl
    no_line (suc n) h = absurd (false≢true (h ∙ lt-ltb 0 (suc n) (omega arith)))
