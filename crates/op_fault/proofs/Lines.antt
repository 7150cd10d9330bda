-- Where the lines of a text begin and how long they are, going from one to the next.
use Prim.Native.Nat.{ℕ, zero, suc, ◌+◌, ◌-◌, ◌≤◌}
use mathlib.Core.Path.{◌≡◌, ap, ◌∙◌}
use mathlib.Core.List.{List, [], ◌∷◌}
use native.Mathlib.Omega.{arith}
use native.Mathlib.Nat.{add-zero}
use lib.ListN.{length, get_or, take, drop, drop_of_length-le}
use lib.Seq.{drop-drop, get_or-drop}
use Rattle.definition.specs.Lists.{sum}
use Rattle.definition.specs.Texts.{Text, lines_of}
use Rattle.definition.specs.FaultLine.{line_start, line_length}
use Rattle.op_fault.specs.Part.{NextLine, LineAt}

pub no_line : (text : Text) (at : ℕ) → at ≤ length text → length text ≤ at → NextLine text at at
unfolding lines_of
no_line text at h k =
    let e : drop at text ≡ [] = drop_of_length-le text k in
    record { past = rw e (omega arith); within = h; rest = rw e }

-- the lines before one more
sum_more : (l : List Text) (k : ℕ) → sum (λ t. length t) (take (suc k) l) ≡ sum (λ t. length t) (take k l) + length (get_or l k [])
sum_more [] zero = omega arith
sum_more [] (suc k) = omega arith
sum_more (t ∷ l) zero = omega arith
sum_more (t ∷ l) (suc k) = omega (arith, sum_more l k)

-- line i, counted from 1, begins at the byte at
pub record From (text : Text) (i at : ℕ) : Type 0 where
  pub some : 1 ≤ i
  pub within : at ≤ length text
  pub start : at ≡ line_start text i
  pub rest : lines_of (drop at text) ≡ drop (i - 1) (lines_of text)

module _ {text : Text} {i at r : ℕ} (f : From text i at) (l : NextLine text at r) where
  this : length (get_or (lines_of (drop at text)) 0 []) ≡ line_length text i
  this =
      ap (λ (ls : List Text). length (get_or ls 0 [])) f.rest
      ∙ ap length (get_or-drop (i - 1) (lines_of text) 0 [])
      ∙ ap (λ (k : ℕ). length (get_or (lines_of text) k [])) (add-zero (i - 1))

  later : i + 1 - 1 ≡ suc (i - 1)
  later = omega (arith, f.some)

  same : i - 1 + 1 ≡ i + 1 - 1
  same = omega (arith, f.some)

  pub following : From text (i + 1) r
  following = record {
    some = omega arith;
    within = l.within;
    start = omega (arith, l.past, this, f.start, sum_more (lines_of text) (i - 1), ap (λ (k : ℕ). sum (λ t. length t) (take k (lines_of text))) later);
    rest = l.rest ∙ ap (λ (ls : List Text). drop 1 ls) f.rest ∙ drop-drop 1 (i - 1) (lines_of text) ∙ ap (λ (k : ℕ). drop k (lines_of text)) same;
  }

  pub line_at : (n : ℕ) → i - 1 ≡ n - 1 → LineAt text n (record { start = at; size = r - at })
  line_at n e = record {
    start = f.start ∙ ap (λ (k : ℕ). sum (λ t. length t) (take k (lines_of text))) e;
    size = omega (arith, l.past, this, ap (λ (k : ℕ). length (get_or (lines_of text) k [])) e);
    within = omega (arith, l.past, l.within);
  }
