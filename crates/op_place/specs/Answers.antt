-- From what the search finds, and from what is written, to what Place's contract says.
use Rattle.std.specs.Prelude.{ℕ, ◌*◌, ◌^◌, ◌≤◌, ◌<◌, ◌≡◌, List, ◌∷◌, length, replicate, ℤ, pos}
use Rattle.std.proofs.Math.Path.{refl, sym}
use Rattle.std.proofs.Common.{ap, ◌∙◌, arith}
use Rattle.std.proofs.Math.Option.{Option, none, some}
use borrow.Author.Tests.{le-leb, lt-leb}
use Rattle.definition.specs.Texts.{Text}
use Rattle.definition.specs.Job as paper
use Rattle.definition.specs.Job.{refused, accepted, read_job, first_failing}
use Rattle.definition.specs.Placement as text
use Rattle.definition.specs.Placement.{text_of}
use Rattle.definition.specs.Moves.{Cheapest}
use Rattle.definition.specs.Outcome as told
use Rattle.definition.specs.Outcome.{store_needed, output_needed, number_count}
use Rattle.definition.specs.Outcome.{without_line, refused_by, over, place_field_count, place_answer, place_outcome}
use Rattle.definition.specs.Outcome.{buffer_refusal, Buffers, lent, Placed}
use Rattle.definition_laws.specs.Outcomes.{place-refused, place-buffers, place-accepted}
use Rattle.text_laws.specs.Poses.{Each}
use Rattle.text_laws.specs.Room.{Narrow, at_each}
use Rattle.text_laws.proofs.Room.{legal-room, legal-narrow}
use Rattle.job.specs.declared.Job.{Job}
use Rattle.job.specs.declared.Placement.{Placement}
use Rattle.job.specs.Value.{job_of, placement_of}
use Rattle.job.specs.Ready.{Ready}
use Rattle.job.specs.Cells.{pose-there}
use Rattle.op_place.specs.Accepted.{Answered, placement_in, Chosen}
use Rattle.op_place.specs.Poses.{Numbered}
use Rattle.op_place.specs.Fields.{WroteAnswer}
use Rattle.op_place.specs.Buffers.{JobFits, PlaceRefused}
use Rattle.results.specs.declared.Refusal.{Refusal}
use Rattle.results.specs.declared.Refusal.TheVariants.{Store, Output}
use Rattle.results.specs.Refusals.{number_of, line_of, refusal_of}

-- ---- the placement made of legal pose numbers

module _ (job : Job) (poses : List ℕ) (room : ℕ) (t : Chosen job poses room) (P : Placement)
    (n : Numbered job poses P) where
  pub text-room : length (text_of (placement_of P)) ≤ room
  text-room =
      rw n.same
      (omega (
        arith,
        legal-room (job_of job) (placement_in job poses) t.taken.sound t.legal,
        t.taken.many,
        t.output,
      ))

  pub text-short : length (text_of (placement_of P)) ≤ 9 * paper.max_cells
  text-short =
      rw n.same
      (omega (
        arith,
        legal-room (job_of job) (placement_in job poses) t.taken.sound t.legal,
        t.taken.many,
        t.taken.few,
      ))

  pub ready : Ready job P
  ready = record {
    accepted = t.taken;
    each = n.count;
    site = λ k h.
        let all : Each Narrow (placement_of P) =
        rw n.same (legal-narrow (job_of job) (placement_in job poses) t.taken.sound t.legal) in
        let long : length (placement_of P) ≡ job.count = rw n.same (t.legal.each ∙ t.taken.many) in
        let low = (at_each Narrow (placement_of P) all k (omega arith)).site in
        rw (pose-there P k (omega (arith, n.count))) at low;
  }

accepted-same : {j k : paper.Job} → accepted j ≡ accepted k → j ≡ k
accepted-same e = cc

-- ---- what is found

module _ (store output : List ℕ) (results : List ℤ) where
  -- 8: nothing is written to the output, and the store is zero
  pub answered-none : (count : ℕ) {j : paper.Job} {store' : List ℕ} {results' : List ℤ} → Cheapest j none
      → store' ≡ replicate (length store) 0
      → results' ≡ over (pos 8 ∷ pos 0 ∷ replicate (place_field_count count) (pos 0)) results
      → Answered count j 8 (lent store output results) (lent store' output results')
  unfolding over
  answered-none count c s r = record {
    answer = none;
    cheapest = c;
    met = record { told = record { number = refl; array = r }; written = refl; stored = s };
  }

  pub answered-some : (job : Job) (count : ℕ) (poses : List ℕ) {store' output' : List ℕ} {results' : List ℤ}
      → Cheapest (job_of job) (some (placement_in job poses))
      → store' ≡ replicate (length store) 0 → WroteAnswer job count poses output output' results results'
      → Answered count (job_of job) 0 (lent store output results) (lent store' output' results')
  answered-some job count poses c s w = record {
    answer = some (placement_in job poses);
    cheapest = c;
    met = record { told = record { number = refl; array = w.array }; written = w.text; stored = s };
  }

  -- ---- refusals: only the results are written

  -- the count of numbers is the job text's
  module _ (source : Text) (count : ℕ) (known : count ≡ number_count source) where
    by-text : (a : Option text.Placement)
        → place_outcome count (read_job source) (length store) (length output) a
        ≡ place_outcome (number_count source) (read_job source) (length store) (length output) a
    by-text a = ap (λ n. place_outcome n (read_job source) (length store) (length output) a) known

    refused_as : (r : told.Refusal) {results' : List ℤ}
        → ((j : paper.Job) → read_job source ≡ accepted j → buffer_refusal j (length store) (length output) ≡ 0 → ⊥)
        → place_outcome count (read_job source) (length store) (length output) none
        ≡ refused_by (place_field_count count) r
        → results' ≡ over (pos r.number ∷ pos r.line ∷ replicate (place_field_count count) (pos 0)) results
        → Placed source r.number (lent store output results) (lent store output results')
    unfolding over
    refused_as r z e w = record {
      outcome = refused_by (place_field_count count) r;
      gives = record { answer = none; cheapest = λ j a b. absurd (z j a b); outcome = sym e ∙ by-text none };
      met = record { told = record { number = refl; array = w }; written = refl; stored = refl };
    }

    -- 1 to 4
    pub placed-refused : {n line : ℕ} {results' : List ℤ} → read_job source ≡ refused n line → (n ≡ 0 → ⊥)
        → results' ≡ over (pos n ∷ pos line ∷ replicate (place_field_count count) (pos 0)) results
        → Placed source n (lent store output results) (lent store output results')
    placed-refused {n} {line} e d w = refused_as (record { number = n; line = line })
        (λ j a b. let z : ◌≡◌ {A = ℕ} 0 1 = cc in omega arith)
        (place-refused source e d count (length store) (length output) none)
        w

    -- 1 to 4, 6 and 7, by a kind of refusal
    pub placed-refused-by : {r : Refusal} {returned : ℕ} {results' : List ℤ}
        → PlaceRefused source (length store) (length output) r → returned ≡ number_of r
        → results' ≡ over (pos (number_of r) ∷ pos (line_of r) ∷ replicate (place_field_count count) (pos 0)) results
        → Placed source returned (lent store output results) (lent store output results')
    placed-refused-by {r} d n w = rw n (refused_as (refusal_of r) d.none_taken (d.outcome count) w)

    -- 6 and 7
    module _ (j : paper.Job) (e : read_job source ≡ accepted j) where
      placed-by-buffers : (n : ℕ) {results' : List ℤ} → buffer_refusal j (length store) (length output) ≡ n
          → (n ≡ 0 → ⊥)
          → results' ≡ over (pos n ∷ pos 0 ∷ replicate (place_field_count count) (pos 0)) results
          → Placed source n (lent store output results) (lent store output results')
      placed-by-buffers n b d w =
          refused_as (without_line n) (λ k a g. let q : k ≡ j = cc in d (sym b ∙ (rw q at g)))
          (place-buffers source e count (length store) (length output) none (λ z. d (sym b ∙ z))
          ∙ ap (λ (m : ℕ). refused_by (place_field_count count) (without_line m)) b) w

      pub placed-small : {results' : List ℤ} → length store < store_needed j
          → results' ≡ over (pos 6 ∷ pos 0 ∷ replicate (place_field_count count) (pos 0)) results
          → Placed source 6 (lent store output results) (lent store output results')
      unfolding buffer_refusal first_failing
      placed-small h w = placed-by-buffers 6 (rw (lt-leb (store_needed j) (length store) h)) (λ z. omega arith) w

      pub placed-narrow : {results' : List ℤ} → store_needed j ≤ length store → length output < output_needed j
          → results' ≡ over (pos 7 ∷ pos 0 ∷ replicate (place_field_count count) (pos 0)) results
          → Placed source 7 (lent store output results) (lent store output results')
      unfolding buffer_refusal first_failing
      placed-narrow h g w =
          placed-by-buffers 7
          (rw (le-leb (store_needed j) (length store) h, lt-leb (output_needed j) (length output) g))
          (λ z. omega arith) w

      -- an answer
      pub placed-answered : {returned : ℕ} {end : Buffers} → store_needed j ≤ length store
          → output_needed j ≤ length output
          → Answered count j returned (lent store output results) end
          → Placed source returned (lent store output results) end
      unfolding buffer_refusal first_failing
      placed-answered h g a = record {
        outcome = place_answer count j a.answer;
        gives = record {
          answer = a.answer;
          cheapest = λ k r b. let q : j ≡ k = cc in rw q at a.cheapest;
          outcome = sym (place-accepted source e count (length store) (length output) a.answer enough)
              ∙ by-text a.answer;
        };
        met = a.met;
      }
        where
          enough : buffer_refusal j (length store) (length output) ≡ 0
          enough = rw (le-leb (store_needed j) (length store) h, le-leb (output_needed j) (length output) g)

    -- an answer to a job that was read, for which the buffers are enough
    pub placed-answered-of : {job : Job} {returned : ℕ} {end : Buffers}
        → JobFits source (length store) (length output) job
        → Answered count (job_of job) returned (lent store output results) end
        → Placed source returned (lent store output results) end
    placed-answered-of {job} f a = placed-answered (job_of job) f.read f.store f.output a

-- ---- what refuses

module _ (source : Text) (words room : ℕ) where
  -- 1 to 4
  pub text-refused : {r : Refusal} → line_of r < 2 ^ 31 → read_job source ≡ refused (number_of r) (line_of r)
      → 0 < number_of r → PlaceRefused source words room r
  text-refused {r} l e z = record {
    line = l;
    none_taken = λ j a b. let x : refused (number_of r) (line_of r) ≡ accepted j = sym e ∙ a in cc;
    outcome = λ count. place-refused source e (λ y. omega arith) count words room none;
  }

  -- 6 and 7
  module _ (job : Job) (e : read_job source ≡ accepted (job_of job)) where
    by-buffers : (r : Refusal) → line_of r ≡ 0 → 0 < number_of r
        → buffer_refusal (job_of job) words room ≡ number_of r → PlaceRefused source words room r
    by-buffers r l z b = record {
      line = omega arith;
      none_taken = λ k a g. let q : job_of job ≡ k = accepted-same (sym e ∙ a) in
          let y : buffer_refusal (job_of job) words room ≡ 0 = rw q g in omega arith;
      outcome = λ count.
          place-buffers source e count words room none (λ y. omega arith)
          ∙ ap (λ (m : ℕ). refused_by (place_field_count count) (without_line m)) b
          ∙ ap (λ (m : ℕ). refused_by (place_field_count count) (record { number = number_of r; line = m })) (sym l);
    }

    pub store-small : words < store_needed (job_of job) → PlaceRefused source words room Store
    unfolding buffer_refusal first_failing
    store-small h = by-buffers Store refl (omega arith) (rw (lt-leb (store_needed (job_of job)) words h) refl)

    pub output-small : store_needed (job_of job) ≤ words → room < output_needed (job_of job)
        → PlaceRefused source words room Output
    unfolding buffer_refusal first_failing
    output-small h g = by-buffers Output refl (omega arith)
        (rw (le-leb (store_needed (job_of job)) words h, lt-leb (output_needed (job_of job)) room g) refl)
