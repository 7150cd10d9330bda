-- What a call gives, case by case: 9, 10 or the text.
use Rattle.std.specs.Prelude.{ℕ, zero, suc, ◌≤◌, ◌<◌, ◌≡◌, refl, Bool, true, false, cond, ◌⊎◌, leb}
use Rattle.std.proofs.Common.{sym, ap, ◌∙◌, inl, inr, arith, leb-true, le-leb}
use mathlib.Core.List.{[]}
use Rattle.std.proofs.lemmas.Bool.{lt-leb}
use Rattle.definition.specs.Job.{max_cells, first_failing}
use Rattle.definition.specs.Outcome.{Outcome, without_line, refused_by, text_field_count, text_answer}
use Rattle.definition.specs.Load.{load_room, load_refusal, load_of, load}
use Rattle.definition_laws.specs.Outcomes.{first-refuses, first_passes, none-refuses}

-- ---- the number, by the count and by the output

pub over-count : (cells room : ℕ) → max_cells < cells → load_refusal cells room ≡ 9
unfolding load_refusal first_failing
over-count cells room h = rw (lt-leb cells max_cells h)

pub short-of-room : (cells room : ℕ) → cells ≤ max_cells → room < load_room → load_refusal cells room ≡ 10
unfolding load_refusal first_failing
short-of-room cells room h g = rw (le-leb cells max_cells h, lt-leb load_room room g)

pub none-of-both : (cells room : ℕ) → cells ≤ max_cells → load_room ≤ room → load_refusal cells room ≡ 0
unfolding load_refusal first_failing
none-of-both cells room h g = rw (le-leb cells max_cells h, le-leb load_room room g)

-- one of the three, and what 0 says
pub record LoadTried (cells room n : ℕ) : Type 0 where
  pub either : (n ≡ 0) ⊎ (n ≡ 9) ⊎ (n ≡ 10)
  pub low : n ≤ 10
  pub few : n ≡ 0 → cells ≤ max_cells
  pub enough : n ≡ 0 → load_room ≤ room

pub load-tried : (cells room : ℕ) → LoadTried cells room (load_refusal cells room)
unfolding load_refusal first_failing
load-tried cells room = go (leb cells max_cells) (leb load_room room) (leb-true cells max_cells) (leb-true load_room room)
  where
    go : (s t : Bool) → (s ≡ true → cells ≤ max_cells) → (t ≡ true → load_room ≤ room)
        → LoadTried cells room (cond s (cond t 0 10) 9)
    go true true f g = record { either = inl refl; low = omega arith; few = λ z. f refl; enough = λ z. g refl }
    go true false f g = record {
      either = inr (inr refl);
      low = omega arith;
      few = λ z. absurd (omega arith);
      enough = λ z. absurd (omega arith);
    }
    go false t f g = record {
      either = inr (inl refl);
      low = omega arith;
      few = λ z. absurd (omega arith);
      enough = λ z. absurd (omega arith);
    }

-- ---- the outcome

module _ (seed cells room : ℕ) where
  pub load-refused : (load_refusal cells room ≡ 0 → ⊥)
      → load seed cells room ≡ refused_by text_field_count (without_line (load_refusal cells room))
  unfolding load
  load-refused d = first-refuses text_field_count (without_line (load_refusal cells room)) [] _ d

  pub load-answered : load_refusal cells room ≡ 0 → load seed cells room ≡ text_answer (load_of seed cells).text
  unfolding load
  load-answered z =
      first_passes text_field_count (without_line (load_refusal cells room)) [] _ z ∙ none-refuses text_field_count _

  -- its number is the refusal's, which is 0 if nothing refuses
  pub load-number : (load seed cells room).number ≡ load_refusal cells room
  load-number = go (load_refusal cells room) refl
    where
      go : (n : ℕ) → load_refusal cells room ≡ n → (load seed cells room).number ≡ load_refusal cells room
      go zero e = ap (λ (o : Outcome). o.number) (load-answered e) ∙ sym e
      go (suc n) e = ap (λ (o : Outcome). o.number) (load-refused (λ z. omega arith))
