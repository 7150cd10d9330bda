-- What Read, Score and Place give, case by case: the first that refuses, or the answer; and what any operation gives
-- that refuses as Score does. Theorems, nothing to believe.
use Rattle.std.specs.Prelude.{ℕ, ◌≡◌, Bool, true, false, cond, length, pos, eqb}
use Rattle.std.proofs.Math.Path.{refl, ap}
use Rattle.std.proofs.Common.{◌∙◌, arith}
use mathlib.Core.List.{List, [], ◌∷◌, ◌++◌}
use Rattle.std.proofs.Math.Option.{Option}
use borrow.Author.Tests.{eq-eqb, ne_eqb, eqb-true, eqb-false}
use Rattle.definition.specs.Texts.{Text}
use Rattle.definition.specs.Job.{Job, Reading, refused, accepted, read_job}
use Rattle.definition.specs.Placement.{Placement, Poses, fault, poses, read_placement}
use Rattle.definition.specs.Outcome.{Outcome, Refusal, without_line, first_of, refused_by, answered, outcome_of}
use Rattle.definition.specs.Outcome.{read_field_count, read_outcome, read, number_count}
use Rattle.definition.specs.Outcome.{score_field_count, poses_refusal, placement_in, as_score, score_answer, score}
use Rattle.definition.specs.Outcome.{place_field_count, place_answer, buffer_refusal, place_outcome}

-- ---- any list of refusals

module _ (n : ℕ) (r : Refusal) (rs : List Refusal) (answer : Outcome) where
  -- one that refuses stands, whatever follows it
  pub first-refuses : (r.number ≡ 0 → ⊥) → outcome_of n (r ∷ rs) answer ≡ refused_by n r
  unfolding first_of outcome_of
  first-refuses d = let e = ne_eqb r.number 0 d in rw (e, e)

  -- one that does not leaves the rest to decide
  pub first_passes : r.number ≡ 0 → outcome_of n (r ∷ rs) answer ≡ outcome_of n rs answer
  unfolding first_of outcome_of
  first_passes e = rw (eq-eqb r.number 0 e)

pub none-refuses : (n : ℕ) (answer : Outcome) → outcome_of n [] answer ≡ answer
unfolding first_of outcome_of
none-refuses n answer = refl

-- a list that refuses decides, whatever follows it
pub list-refuses : (n : ℕ) (rs more : List Refusal) (answer : Outcome) → ((first_of rs).number ≡ 0 → ⊥)
    → outcome_of n (rs ++ more) answer ≡ refused_by n (first_of rs)
unfolding first_of
list-refuses n [] more answer d = absurd (d refl)
list-refuses n (r ∷ rs) more answer d =
    go (eqb r.number 0) (eqb-true r.number 0) (eqb-false r.number 0) (list-refuses n rs more answer) d
  where
    go : (t : Bool) → (t ≡ true → r.number ≡ 0) → (t ≡ false → r.number ≡ 0 → ⊥)
        → (((first_of rs).number ≡ 0 → ⊥) → outcome_of n (rs ++ more) answer ≡ refused_by n (first_of rs))
        → ((cond t (first_of rs) r).number ≡ 0 → ⊥)
        → outcome_of n (r ∷ (rs ++ more)) answer ≡ refused_by n (cond t (first_of rs) r)
    go true e f h d = first_passes n r (rs ++ more) answer (e refl) ∙ h d
    go false e f h d = first-refuses n r (rs ++ more) answer (f refl)

-- ---- an operation that refuses as Score does

module _ (n : ℕ) (more : Job → Placement → List Refusal) (answer : Job → Placement → Outcome) where
  pub job-refuses : (job : Text) {number line : ℕ} → read_job job ≡ refused number line → (number ≡ 0 → ⊥)
      → (placement : Text)
      → as_score n more answer (read_job job) placement ≡ refused_by n (record { number = number; line = line })
  job-refuses job {number} {line} e d placement =
      ap (λ (x : Reading). as_score n more answer x placement) e
      ∙ first-refuses n (record { number = number; line = line }) _ _ d

  -- by what the placement text of an accepted job is read as
  module _ (job : Text) {j : Job} (e : read_job job ≡ accepted j) (placement : Text) where
    by-poses : {ps : Poses} → read_placement (length j.cells) placement ≡ ps
        → as_score n more answer (read_job job) placement
        ≡ outcome_of n (poses_refusal ps ∷ more j (placement_in ps)) (answer j (placement_in ps))
    by-poses p =
        ap (λ (x : Reading). as_score n more answer x placement) e
        ∙ first_passes n (without_line 0) _ _ refl
        ∙ ap (λ (x : Poses). outcome_of n (poses_refusal x ∷ more j (placement_in x)) (answer j (placement_in x))) p

    pub poses-refuse : {line : ℕ} → read_placement (length j.cells) placement ≡ fault line
        → as_score n more answer (read_job job) placement ≡ refused_by n (record { number = 5; line = line })
    poses-refuse {line} p =
        by-poses p ∙ first-refuses n (record { number = 5; line = line }) _ _ (λ z. omega arith)

    pub poses_pass : {P : Placement} → read_placement (length j.cells) placement ≡ poses P
        → as_score n more answer (read_job job) placement ≡ outcome_of n (more j P) (answer j P)
    poses_pass p = by-poses p ∙ first_passes n (without_line 0) _ _ refl

-- ---- a job text that is refused

module _ (job : Text) {number line : ℕ} (e : read_job job ≡ refused number line) (d : number ≡ 0 → ⊥) where
  abbrev r : Refusal
  r = record { number = number; line = line }

  pub read-refused : read job ≡ refused_by read_field_count r
  unfolding read
  read-refused = ap read_outcome e ∙ first-refuses read_field_count r _ _ d

  pub score-refused : (placement : Text) → score job placement ≡ refused_by (score_field_count (number_count job)) r
  unfolding score
  score-refused placement =
      job-refuses (score_field_count (number_count job)) (λ j P. []) (score_answer (number_count job)) job e d placement

  pub place-refused : (n words room : ℕ) (a : Option Placement)
      → place_outcome n (read_job job) words room a ≡ refused_by (place_field_count n) r
  unfolding place_outcome
  place-refused n words room a =
      ap (λ (x : Reading). place_outcome n x words room a) e ∙ first-refuses (place_field_count n) r _ _ d

-- ---- one that is accepted

module _ (job : Text) {j : Job} (e : read_job job ≡ accepted j) where
  pub read-accepted : read job ≡ answered (pos (length j.cells) ∷ [])
  unfolding read
  read-accepted =
      ap read_outcome e ∙ first_passes read_field_count (without_line 0) [] _ refl ∙ none-refuses read_field_count _

  pub score-fault : (placement : Text) {line : ℕ} → read_placement (length j.cells) placement ≡ fault line
      → score job placement ≡ refused_by (score_field_count (number_count job)) (record { number = 5; line = line })
  unfolding score
  score-fault placement p =
      poses-refuse (score_field_count (number_count job)) (λ j P. []) (score_answer (number_count job)) job e placement p

  pub score-accepted : (placement : Text) {P : Placement} → read_placement (length j.cells) placement ≡ poses P
      → score job placement ≡ score_answer (number_count job) j P
  unfolding score
  score-accepted placement p =
      poses_pass (score_field_count (number_count job)) (λ j P. []) (score_answer (number_count job)) job e placement p
      ∙ none-refuses (score_field_count (number_count job)) _

  -- Place with n numbers, by its buffers
  module _ (n words room : ℕ) (a : Option Placement) where
    place-by : place_outcome n (read_job job) words room a
        ≡ outcome_of (place_field_count n) (without_line (buffer_refusal j words room) ∷ []) (place_answer n j a)
    unfolding place_outcome
    place-by =
        ap (λ (x : Reading). place_outcome n x words room a) e ∙ first_passes (place_field_count n) (without_line 0) _ _ refl

    pub place-buffers : (buffer_refusal j words room ≡ 0 → ⊥)
        → place_outcome n (read_job job) words room a
        ≡ refused_by (place_field_count n) (without_line (buffer_refusal j words room))
    place-buffers d = place-by ∙ first-refuses (place_field_count n) (without_line (buffer_refusal j words room)) [] _ d

    pub place-accepted : buffer_refusal j words room ≡ 0
        → place_outcome n (read_job job) words room a ≡ place_answer n j a
    place-accepted z =
        place-by ∙ first_passes (place_field_count n) (without_line (buffer_refusal j words room)) [] _ z
        ∙ none-refuses (place_field_count n) _
