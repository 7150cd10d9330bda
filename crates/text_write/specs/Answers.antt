-- A call that is refused before anything is written, and one that leaves a text and its length, meet their outcomes.
use Rattle.std.specs.Prelude.{ℕ, ◌≡◌, replicate, ℤ, pos}
use Rattle.std.proofs.Math.Path.{refl, subst}
use Rattle.std.proofs.Common.{sym, ap, ◌∙◌}
use mathlib.Core.List.{List, [], ◌∷◌}
use Rattle.definition.specs.Texts.{Text}
use Rattle.definition.specs.Outcome.{Outcome, Refusal, refused_by, text_answer, over, lent, Met}
use Rattle.text_write.specs.Put.{Wrote}
use Rattle.text_write.specs.Puts.{wrote_over}

module _ {o : Outcome} {output : List ℕ} {results results' : List ℤ} where
  pub met-refused : (n : ℕ) (r : Refusal) {k : ℕ} → o ≡ refused_by n r → k ≡ r.number
      → results' ≡ over (pos r.number ∷ pos r.line ∷ replicate n (pos 0)) results
      → Met o k (lent [] output results) (lent [] output results')
  unfolding over
  met-refused n r {k} e f told =
      subst (λ (o : Outcome). Met o k (lent [] output results) (lent [] output results')) (sym e)
      (record { told = record { number = f; array = told }; written = refl; stored = refl })

  pub met-text : {text : Text} {output' : List ℕ} {k : ℕ} → o ≡ text_answer text → Wrote text output 0 output' k
      → results' ≡ over (pos 0 ∷ pos 0 ∷ pos k ∷ []) results
      → Met o 0 (lent [] output results) (lent [] output' results')
  met-text {output' = output'} e w told =
      let v = wrote_over w in
      subst (λ (o : Outcome). Met o 0 (lent [] output results) (lent [] output' results')) (sym e)
      (record {
        told = record {
          number = refl;
          array = told ∙ ap (λ (n : ℕ). over (pos 0 ∷ pos 0 ∷ pos n ∷ []) results) v.1;
        };
        written = v.0;
        stored = refl;
      })
