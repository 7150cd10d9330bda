-- An outcome that keeps demand 1, whatever the buffers: a call that meets such an outcome meets the demand.
use Rattle.std.specs.Prelude.{ℕ, ◌≤◌, ◌≡◌, refl, true, false, cond, [], ◌++◌, length, replicate, ltb, pos}
use Rattle.std.proofs.Common.{sym, ap, ◌∙◌, arith}
use Rattle.std.proofs.lemmas.List.{length-replicate}
use Rattle.definition.specs.Outcome.{Outcome, Refusal, refused_by, Buffers, Met}
use Rattle.definition.specs.Demands.{is_one_of, Shape, is_refusal, Demand1}

pub record Fair (shape : Shape) (room : ℕ) (o : Outcome) : Type 0 where
  pub led : shape.led ≡ true
  pub numbered : is_one_of (shape.answers ++ shape.refusals) o.number ≡ true
  pub located : is_one_of shape.lined o.number ≡ ltb 0 o.line
  pub counted : length o.fields ≡ shape.field_count
  pub fits : length o.text ≤ room
  pub no_fields : is_refusal shape o.number ≡ true → o.fields ≡ replicate shape.field_count (pos 0)
  pub no_text : is_refusal shape o.number ≡ true → o.text ≡ []
  pub searches : o.zeroed ≡ is_one_of shape.searched o.number

pub fair_demand1 : {shape : Shape} {o : Outcome} {returned : ℕ} {before end : Buffers}
    → Fair shape (length before.output) o → Met o returned before end → Demand1 shape returned before end
fair_demand1 {shape} {o} {returned} {before} {end} f m =
    let e = m.told.number in record {
      line = o.line;
      fields = o.fields;
      text = o.text;
      numbered = ap (is_one_of (shape.answers ++ shape.refusals)) e ∙ f.numbered;
      located = ap (is_one_of shape.lined) e ∙ f.located;
      counted = f.counted;
      array = rw (e, f.led) m.told.array;
      fits = f.fits;
      written = m.written;
      no_fields = λ z. f.no_fields (ap (is_refusal shape) (sym e) ∙ z);
      no_text = λ z. f.no_text (ap (is_refusal shape) (sym e) ∙ z);
      stored = m.stored
          ∙ ap (λ t. cond t (replicate (length before.store) 0) before.store)
          (f.searches ∙ sym (ap (is_one_of shape.searched) e));
    }

-- a refusal of the operation's own that comes before a search
pub refusal-fair : (shape : Shape) (room : ℕ) (r : Refusal) → shape.led ≡ true
    → is_one_of (shape.answers ++ shape.refusals) r.number ≡ true
    → is_one_of shape.lined r.number ≡ ltb 0 r.line → is_one_of shape.searched r.number ≡ false
    → Fair shape room (refused_by shape.field_count r)
refusal-fair shape room r l a b c = record {
  led = l;
  numbered = a;
  located = b;
  counted = simp length-replicate;
  fits = omega arith;
  no_fields = λ z. refl;
  no_text = λ z. refl;
  searches = sym c;
}
