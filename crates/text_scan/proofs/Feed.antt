-- The first line feed of a text cuts off its first line.
use Prim.Native.Nat.{ℕ, zero, suc, ◌+◌, ◌-◌, ◌<◌, ◌≤◌}
use mathlib.Core.Path.{◌≡◌, refl, sym, ap, ◌∙◌}
use mathlib.Core.Bool.{true, false}
use mathlib.Core.List.{[], ◌∷◌}
use native.Mathlib.Omega.{arith}
use lib.ListN.{length, get_or, take, drop, length-drop}
use lib.Dec.{eqb}
use lib.Seq.{drop-cons, take-length}
use Rattle.definition.specs.Texts.{Text, line_feed, lines_of}
use Rattle.text_scan.specs.Line.{first_line, after_line, lines-first}
use Rattle.text_scan.specs.Found.{LineTo}
use Rattle.std.specs.Prelude.{Option, Some, None, ◌==◌}
use Rattle.std.specs.List.{position, position_or_len}
use Rattle.std.proofs.lemmas.List.{drop-drop}
use Rattle.std.proofs.lemmas.Grind.{common_steps}
use Rattle.std.proofs.lemmas.List.Quantifiers.{position-Some}
use Rattle.std.proofs.lemmas.List.Sums.{fails_before_first}

-- its first n bytes are the first line
record Cut (s : Text) (n : ℕ) : Type 0 where
  pub line : first_line s ≡ take n s
  pub rest : after_line s ≡ drop n s

cut_feed : (s : Text) (i : ℕ) → i < length s → eqb (get_or s i 0) line_feed ≡ true
    → ((k : ℕ) → k < i → eqb (get_or s k 0) line_feed ≡ false) → Cut s (suc i)
unfolding first_line after_line
cut_feed [] i h e n = absurd (omega arith)
cut_feed (b ∷ s) zero h e n = record { line = rw e; rest = rw e }
cut_feed (b ∷ s) (suc i) h e n =
    let q = cut_feed s i (omega arith) e (λ k l. n (suc k) (omega arith)) in
    let f = n 0 (omega arith) in
    record { line = rw f (ap (λ (l : Text). b ∷ l) q.line); rest = rw f q.rest }

cut_end : (s : Text) → ((k : ℕ) → k < length s → eqb (get_or s k 0) line_feed ≡ false) → Cut s (length s)
unfolding first_line after_line
cut_end [] n = record { line = refl; rest = refl }
cut_end (b ∷ s) n =
    let q = cut_end s (λ k l. n (suc k) (omega arith)) in
    let f = n 0 (omega arith) in
    record { line = rw f (ap (λ (l : Text). b ∷ l) q.line); rest = rw f q.rest }

module _ (text : Text) (at : ℕ) (h : at < length text) where
  -- the line goes to r
  line_to : (r : ℕ) → at < r → r ≤ length text → Cut (drop at text) (r - at) → LineTo text at r
  line_to r p w c =
      let rest : after_line (drop at text) ≡ drop r text =
      c.rest ∙ drop-drop (r - at) at text ∙ ap (λ (n : ℕ). drop n text) (let e : at + (r - at) ≡ r = omega arith in e) in
      record {
        past = p;
        within = w;
        line = c.line;
        rest = rest;
        lines =
            let e = drop-cons text at 0 h in
            ap lines_of e
            ∙ lines-first (get_or text at 0) (drop (suc at) text)
            ∙ ap (λ (l : Text). first_line l ∷ lines_of (after_line l)) (sym e)
            ∙ ap (λ (l : Text). first_line (drop at text) ∷ lines_of l) rest;
      }

  -- the rest of the text, as the code has it
  tail : take (length text - at) (drop at text) ≡ drop at text
  tail = rw (← length-drop at text) (take-length (drop at text))

  abbrev pub feed_in : Text → Option ℕ
  feed_in s = position (λ b. b == line_feed) s

  pub to_feed : (i : ℕ) → feed_in (take (length text - at) (drop at text)) ≡ Some i → LineTo text at (at + i + 1)
  to_feed i e' =
      let e = rw tail at e' in
      let q = position-Some (λ b. b == line_feed) (drop at text) i 0 e in
      let n = length-drop at text in
      let s : suc i ≡ at + i + 1 - at = omega arith in
      line_to (at + i + 1) (omega arith) (omega (arith, n, q.0)) (rw s at (cut_feed (drop at text) i q.0 q.1 q.2))

  pub to_end : feed_in (take (length text - at) (drop at text)) ≡ None → LineTo text at (length text)
  to_end e' =
      let e = rw tail at e' in
      let n = length-drop at text in
      let far : length (drop at text) ≤ position_or_len (λ b. b == line_feed) (drop at text) = grind (arith, common_steps) in
      line_to (length text) h (omega arith)
      (rw n at (cut_end (drop at text) (λ k l. fails_before_first (λ b. b == line_feed) (drop at text) k 0 (omega arith))))
