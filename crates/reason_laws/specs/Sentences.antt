-- What is said can be had back: the rule by its phrase, the cells by the numbers that stand in the sentence.
use Rattle.std.specs.Prelude.{ℕ, zero, suc, ◌≤◌, ◌≡◌, refl, Bool, true, false, not, List, [], ◌∷◌, ◌++◌, map, length}
use Rattle.std.proofs.Common.{sym, ap, ◌∙◌, append_assoc, arith, le-leb}
use Rattle.std.proofs.Math.Bool.{and-eq-true_iff}
use Rattle.definition.specs.Lists.{all}
use Rattle.definition.specs.Texts.{Text, bytes, is_digit, digits, parted}
use Rattle.definition.specs.Reasons.{Reason, cell_named, cells_named, sentence, split_by, same_text, number_among}
use Rattle.definition.specs.Reasons.{rule_said, cells_said, read_reason, IsReason, Sentences}
use Rattle.text_laws.proofs.Numbers.{digits-each, digits-some, value-digits}
use Rattle.job_laws.specs.Whole.{accepted-sound}
use Rattle.reason_laws.specs.Breakers.{is_reason}
use Rattle.reason_laws.specs.Lengths.{sentence-short}

-- ---- the cells

abbrev is_no_digit : ℕ → Bool
is_no_digit b = not (is_digit b)

-- digits before a byte that is none are a part
digits-part : (d : Text) (b : ℕ) (t : Text) → all is_digit d ≡ true → is_digit b ≡ false
    → split_by is_no_digit (d ++ (b ∷ t)) ≡ d ∷ split_by is_no_digit t
unfolding split_by
digits-part [] b t e f = rw f
digits-part (x ∷ d) b t e f =
    let p = (and-eq-true_iff (is_digit x) (all is_digit d)).0 e in
    rw (p.0, digits-part d b t p.1 f)

-- a number before such a byte is the first of those that are read
number-first : (n b : ℕ) (t : Text) → is_digit b ≡ false → cells_said (digits n ++ (b ∷ t)) ≡ n ∷ cells_said t
unfolding cells_said
number-first n b t f =
    rw (digits-part (digits n) b t (digits-each n) f, le-leb 1 (length (digits n)) (digits-some n), value-digits n)

cells-back : (cells : List ℕ) → cells_said (cells_named cells ++ bytes ".") ≡ cells
unfolding cells_named bytes split_by cells_said
cells-back [] = refl
cells-back (c ∷ []) = number-first c 46 [] refl
cells-back (c ∷ d ∷ cs) =
    let more : Text = parted (bytes ", ") (map cell_named (d ∷ cs)) in
    ap cells_said (append_assoc (digits c) (bytes ", " ++ more) (bytes "."))
    ∙ number-first c 44 _ refl
    ∙ ap (λ (l : List ℕ). c ∷ l) (cells-back (d ∷ cs))

-- ---- the rule and the cells

abbrev reason_with : ℕ → List ℕ → Reason
reason_with rule cells = record { rule = rule; cells = cells }

-- by the eight phrases, each of which is read as its rule and holds no digit
back : (rule : ℕ) (cells : List ℕ) → rule ≤ 8 → (rule ≡ 0 → cells ≡ [])
    → read_reason (sentence (reason_with rule cells)) ≡ reason_with rule cells
unfolding bytes sentence split_by same_text number_among rule_said cells_said read_reason
back zero cells h e = rw (e refl)
back (suc zero) cells h e = ap (reason_with 1) (cells-back cells)
back (suc (suc zero)) cells h e = ap (reason_with 2) (cells-back cells)
back (suc (suc (suc zero))) cells h e = ap (reason_with 3) (cells-back cells)
back (suc (suc (suc (suc zero)))) cells h e = ap (reason_with 4) (cells-back cells)
back (suc (suc (suc (suc (suc zero))))) cells h e = ap (reason_with 5) (cells-back cells)
back (suc (suc (suc (suc (suc (suc zero)))))) cells h e = ap (reason_with 6) (cells-back cells)
back (suc (suc (suc (suc (suc (suc (suc zero))))))) cells h e = ap (reason_with 7) (cells-back cells)
back (suc (suc (suc (suc (suc (suc (suc (suc zero)))))))) cells h e = ap (reason_with 8) (cells-back cells)
back (suc (suc (suc (suc (suc (suc (suc (suc (suc r))))))))) cells h e = absurd (omega arith)

reads-back : (r : Reason) → IsReason r → read_reason (sentence r) ≡ r
reads-back r h = back r.rule r.cells h.known h.none

pub sentences : Sentences
sentences = record {
  reads-back = reads-back;
  one_reason = λ r s h g e. sym (reads-back r h) ∙ ap read_reason e ∙ reads-back s g;
  fits = sentence-short;
  of-job = λ job j e P. is_reason j P (accepted-sound job j e).few;
}
