-- A load keeps demand 1; and the reader accepts what a call wrote.
use Rattle.std.specs.Prelude.{ℕ, ◌≡◌, refl, ◌⊎◌, length}
use Rattle.std.proofs.Common.{sym, ap, subst, ◌∙◌, inl, inr, arith}
use Rattle.std.proofs.lemmas.Bool.{false≢true}
use Rattle.definition.specs.Outcome.{Outcome, without_line, refused_by, text_field_count, Buffers, Met, over}
use Rattle.definition.specs.Load.{load_refusal, load_of, load, LoadedOf}
use Rattle.definition.specs.Demands.{load_shape, Demand1}
use Rattle.load_laws.specs.Accepted.{load-accepted, load-short}
use Rattle.load_laws.specs.Outcomes.{load-tried, load-refused, load-answered, load-number}
use Rattle.demand_laws.specs.Fair.{Fair, fair_demand1, refusal-fair}

load-keeps : (seed cells room : ℕ) → Fair load_shape room (load seed cells room)
load-keeps seed cells room = go (load-tried cells room).either
  where
    refuses : (n : ℕ) → load_refusal cells room ≡ n → (n ≡ 0 → ⊥)
        → Fair load_shape room (refused_by text_field_count (without_line n)) → Fair load_shape room (load seed cells room)
    refuses n e d f =
        subst (Fair load_shape room)
        (sym (load-refused seed cells room (λ z. d (sym e ∙ z))
        ∙ ap (λ (k : ℕ). refused_by text_field_count (without_line k)) e)) f

    go : (load_refusal cells room ≡ 0) ⊎ (load_refusal cells room ≡ 9) ⊎ (load_refusal cells room ≡ 10)
        → Fair load_shape room (load seed cells room)
    go (inl z) =
        let t = load-tried cells room in
        subst (Fair load_shape room) (sym (load-answered seed cells room z)) (record {
          led = refl;
          numbered = refl;
          located = refl;
          counted = refl;
          fits = omega (arith, load-short seed cells (t.few z), t.enough z);
          no_fields = λ y. absurd (false≢true y);
          no_text = λ y. absurd (false≢true y);
          searches = refl;
        })
    go (inr (inl e)) = refuses 9 e (λ z. omega arith) (refusal-fair load_shape room (without_line 9) refl refl refl refl)
    go (inr (inr e)) = refuses 10 e (λ z. omega arith) (refusal-fair load_shape room (without_line 10) refl refl refl refl)

pub load_demand1 : (seed cells : ℕ) {returned : ℕ} {before end : Buffers}
    → Met (load seed cells (length before.output)) returned before end → Demand1 load_shape returned before end
load_demand1 seed cells {before = before} m = fair_demand1 (load-keeps seed cells (length before.output)) m

-- "The reader accepts each job written."
pub load-reads : (seed cells : ℕ) {returned : ℕ} {before end : Buffers}
    → Met (load seed cells (length before.output)) returned before end → LoadedOf cells returned before end
load-reads seed cells {returned} {before} m z =
    let room = length before.output in
    let t = load-tried cells room in
    let e : load_refusal cells room ≡ 0 = sym (load-number seed cells room) ∙ sym m.told.number ∙ z in
    record {
      text = (load_of seed cells).text;
      fits = omega (arith, load-short seed cells (t.few e), t.enough e);
      written = m.written ∙ ap (λ (o : Outcome). over o.text before.output) (load-answered seed cells room e);
      reads = load-accepted seed cells (t.few e);
    }
