-- A number read as far as byte i: digits so far, few enough, with no zero in front of others, and their value. One more digit keeps that; any
-- other byte says whether the field is a number.
use Prim.Native.Nat.{ℕ, ◌+◌, ◌*◌, ◌-◌, ◌^◌, ◌≤◌, ◌<◌}
use mathlib.Core.Path.{◌≡◌, refl, sym, ap, ◌∙◌}
use mathlib.Core.Bool.{Bool, true, false, and-eq-true_iff}
use mathlib.Core.Logic.{◌⊎◌, inl, inr}
use mathlib.Core.List.{[], ◌∷◌, ◌++◌}
use native.Mathlib.Omega.{arith}
use native.Mathlib.Numerals.{add-one}
use native.Mathlib.Nat.{pow-suc, pow-le-pow_right, add-zero}
use lib.ListN.{length, get_or, drop, length-append, get_or-append, drop_of_length-le}
use lib.Seq.{drop-cons, append_snoc, get_or-drop}
use borrow.Author.Tests.{ne_eqb}
use Rattle.std.proofs.Math.Decide.{ℕ_discrete}
use Rattle.std.proofs.lemmas.Bool.{cases_lt}
use Rattle.definition.specs.Lists.{all}
use Rattle.definition.specs.Texts.{Text, line_feed, comma, is_digit, is_number, value_from}
use Rattle.text_scan.specs.Line.{readable}
use Rattle.text_scan.specs.Field.{Digits, digit_high, form-number, no_field, no_digit, five-digits, leading_zero, unended, no-empty}
use Rattle.text_scan.specs.Found.{byte_of, NoEnd, MoreDigit, NumberTo}
use Rattle.text_scan.specs.declared.End.{End}
use Rattle.text_scan.specs.declared.End.TheVariants.{Comma, LineFeed}

pub record DigitsSofar (text : Text) (from i v : ℕ) : Type 0 where
  pub field : Text
  pub split : drop from text ≡ field ++ drop i text
  pub place : i ≡ from + length field
  pub within : i ≤ length text
  pub few : length field ≤ 4
  pub digits : Digits field
  pub lead : 2 ≤ length field → get_or text from 0 ≡ 48 → ⊥
  pub value : v ≡ value_from 0 field
  pub small : v < 10 ^ length field

pub sofar-none : (text : Text) (from : ℕ) → from ≤ length text → DigitsSofar text from from 0
unfolding value_from
sofar-none text from h = record {
  field = [];
  split = refl;
  place = omega arith;
  within = h;
  few = omega arith;
  digits = refl;
  lead = λ l. absurd (omega arith);
  value = refl;
  small = omega arith;
}

digits_more : (f : Text) (b : ℕ) → Digits f → is_digit b ≡ true → Digits (f ++ b ∷ [])
digits_more [] b d e = rw e
digits_more (x ∷ f) b d e =
    let a = (and-eq-true_iff (is_digit x) (all is_digit f)).0 d in
    rw a.0 (digits_more f b a.1 e)

value-more : (a : ℕ) (f : Text) (b : ℕ) → value_from a (f ++ b ∷ []) ≡ value_from a f * 10 + (b - 48)
unfolding value_from
value-more a [] b = refl
value-more a (x ∷ f) b = value-more (a * 10 + (x - 48)) f b

power : (m n : ℕ) → m ≤ n → 10 ^ m ≤ 10 ^ n
power m n h = pow-le-pow_right (omega arith) h

module _ {text : Text} {from i v : ℕ} (s : DigitsSofar text from i v) where
  -- the first byte of the field
  front : 1 ≤ length s.field → get_or s.field 0 0 ≡ get_or text from 0
  front h =
      sym (get_or-append s.field (drop i text) 0 0 h)
      ∙ ap (λ (l : Text). get_or l 0 0) (sym s.split)
      ∙ get_or-drop from text 0 0
      ∙ ap (λ (k : ℕ). get_or text k 0) (add-zero from)

  -- the byte at i stands next
  next : i < length text → drop from text ≡ s.field ++ get_or text i 0 ∷ drop (i + 1) text
  next h = s.split ∙ rw (drop-cons text i 0 h, add-one i)

  pub sofar-more : i < length text → MoreDigit text from i → DigitsSofar text from (i + 1) (v * 10 + (get_or text i 0 - 48))
  sofar-more h m =
      let b = get_or text i 0 in
      let f = s.field in
      let n : length (f ++ b ∷ []) ≡ length f + 1 = length-append f (b ∷ []) in
      let d = digit_high b m.digit in
      let p : 10 ^ (length f + 1) ≡ 10 ^ length f * 10 = rw (add-one (length f)) (pow-suc 10 (length f)) in
      record {
        field = f ++ b ∷ [];
        split = next h ∙ sym (append_snoc f b (drop (i + 1) text));
        place = omega (arith, n, s.place);
        within = omega arith;
        few = omega (arith, n, s.place, m.few);
        digits = digits_more f b s.digits m.digit;
        lead = λ l e. m.lead (omega (arith, n, s.place)) e;
        value = rw (value-more 0 f b, s.value);
        small = rw n (omega (arith, p, s.small, d));
      }

  -- ---- what ends the field

  pub sofar-end : (e : End) → i < length text → get_or text i 0 ≡ byte_of e → from < i
      → NumberTo text from (record { value = v; end = e; next = i + 1 })
  sofar-end e h b l = record {
    past = omega arith;
    within = omega arith;
    field = s.field;
    split = next h ∙ ap (λ (b : ℕ). s.field ++ b ∷ drop (i + 1) text) b;
    number = form-number s.field (record {
      some = omega (arith, s.place);
      few = s.few;
      digits = s.digits;
      lead = λ m z. s.lead m (sym (front (omega arith)) ∙ z);
    });
    value = s.value;
    small = omega (arith, s.small, power (length s.field) 4 s.few);
  }

  -- it ends without a byte
  pub sofar-empty : (e : End) → i < length text → get_or text i 0 ≡ byte_of e → i ≡ from → readable (drop from text) ≡ false
  sofar-empty e h b l =
      ap readable (next h ∙ ap (λ (b : ℕ). s.field ++ b ∷ drop (i + 1) text) b) ∙ empty s.field (omega (arith, s.place)) e
    where
      empty : (f : Text) → length f ≡ 0 → (e : End) → readable (f ++ byte_of e ∷ drop (i + 1) text) ≡ false
      empty [] n LineFeed = (no-empty (drop (i + 1) text)).1
      empty [] n Comma = (no-empty (drop (i + 1) text)).0
      empty (x ∷ f) n e = absurd (omega arith)

  -- any byte that no number has there
  out : i < length text → (get_or text i 0 ≡ line_feed → ⊥) → (get_or text i 0 ≡ comma → ⊥)
      → ((g : Text) → is_number (s.field ++ get_or text i 0 ∷ g) ≡ false) → readable (drop from text) ≡ false
  out h e k n =
      let b = get_or text i 0 in
      ap readable (next h) ∙ no_field s.field s.digits b (drop (i + 1) text) (ne_eqb b line_feed e) (ne_eqb b comma k) n

  -- it may be no digit of the number
  pub sofar-stop : i < length text → NoEnd (get_or text i 0) → (MoreDigit text from i → ⊥) → readable (drop from text) ≡ false
  sofar-stop h n m = go (is_digit b) refl (cases_lt i (from + 4)) (ℕ_discrete (get_or text from 0) 48)
    where
      b : ℕ
      b = get_or text i 0

      go : (t : Bool) → is_digit b ≡ t → (i < from + 4) ⊎ (from + 4 ≤ i) → Dec (get_or text from 0 ≡ 48) → readable (drop from text) ≡ false
      go false d _ _ = out h n.line_feed n.comma (λ g. no_digit s.field b g d)
      go true d (inr l) _ = out h n.line_feed n.comma (λ g. five-digits s.field b g (omega (arith, s.place)))
      go true d (inl l) (no z) = absurd (m (record { digit = d; few = l; lead = λ _ e. z e }))
      go true d (inl l) (yes z) = zero_lead (cases_lt from i)
        where
          zero_lead : (from < i) ⊎ (i ≤ from) → readable (drop from text) ≡ false
          zero_lead (inl k) =
              let n' : 1 ≤ length s.field = omega (arith, s.place) in
              out h n.line_feed n.comma (λ g. leading_zero s.field b g n' (front n' ∙ z))
          zero_lead (inr k) = absurd (m (record { digit = d; few = l; lead = λ q _. omega arith }))

  -- the text's end
  pub sofar-out : length text ≤ i → readable (drop from text) ≡ false
  sofar-out h = ap readable (s.split ∙ rw (drop_of_length-le text h)) ∙ unended s.field s.digits
