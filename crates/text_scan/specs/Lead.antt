-- A line with a lead: the byte that it begins with, and the comma after it.
use Rattle.std.specs.Prelude.{ℕ, suc, ◌≤◌, ◌<◌, ◌≡◌, Bool, ◌&&◌, ◌||◌, cond, length, get_or, drop, leb}
use Rattle.std.proofs.Math.Path.{refl}
use Rattle.std.proofs.Common.{sym, ap, ◌∙◌, arith}
use Rattle.std.proofs.Math.Bool.{true, false, and-false, or-true, or-false, and-eq-true_iff}
use mathlib.Core.List.{List, [], ◌∷◌}
use Rattle.std.proofs.Math.Dec.{eqb}
use borrow.Author.Tests.{eq-eqb, ne_eqb, le-leb}
use Rattle.definition.specs.Lists.{all, any}
use Rattle.definition.specs.Texts.{Text, line_feed, comma, onto, ended, fields_of, is_number}
use Rattle.definition.specs.Job.{formed, is_lead, led_by}
use Rattle.text_scan.specs.Line.{first_line, after_line, readable, fields-first, line_on, after_on, ended-on}

-- the first line has the lead, numbers after it, one at least, and an end
unfoldable pub led : ℕ → Text → Bool
led lead s = formed (lead ∷ []) (first_line s) && leb 2 (length (fields_of (first_line s)))

led-fields : (lead : ℕ) (s : Text)
    → led lead s
    ≡ ended (first_line s) && is_lead (lead ∷ []) (get_or (fields_of s) 0 []) && all is_number (drop 1 (fields_of s))
    && leb 2 (length (fields_of s))
unfolding led
led-fields lead s = rw (fields-first s)

-- a lead that is wrong, and a line with no field after it
led-no : (lead : ℕ) (s : Text) → is_lead (lead ∷ []) (get_or (fields_of s) 0 []) ≡ false → led lead s ≡ false
led-no lead s e = led-fields lead s ∙ rw (e, and-false (ended (first_line s)))

led-alone : (lead : ℕ) (s f : Text) → fields_of s ≡ f ∷ [] → led lead s ≡ false
led-alone lead s f e = led-fields lead s ∙ rw e (and-false (ended (first_line s) && is_lead (lead ∷ []) f && true))

pub some-field : (s : Text) → 1 ≤ length (fields_of s)
unfolding fields_of
some-field [] = omega arith
some-field (b ∷ s) = go (eqb b line_feed) (eqb b comma) (fields_of s)
  where
    go : (t u : Bool) (gs : List Text) → 1 ≤ length (cond t ([] ∷ []) (cond u ([] ∷ gs) (onto b gs)))
    go true u gs = omega arith
    go false true gs = omega arith
    go false false [] = omega arith
    go false false (g ∷ gs) = omega arith

pub led-other : (lead b : ℕ) (s : Text) → (b ≡ lead → ⊥) → led lead (b ∷ s) ≡ false
unfolding fields_of
led-other lead b s n = led-no lead (b ∷ s) (go (eqb b line_feed) (eqb b comma) (fields_of s))
  where
    go : (t u : Bool) (gs : List Text)
        → is_lead (lead ∷ []) (get_or (cond t ([] ∷ []) (cond u ([] ∷ gs) (onto b gs))) 0 []) ≡ false
    go true u gs = refl
    go false true gs = refl
    go false false [] = rw (ne_eqb b lead n)
    go false false ([] ∷ gs) = rw (ne_eqb b lead n)
    go false false ((x ∷ g) ∷ gs) = refl

module _ (lead : ℕ) (high : comma < lead) where
  no_feed : eqb lead line_feed ≡ false
  no_feed = ne_eqb lead line_feed (λ e. omega arith)

  no-comma : eqb lead comma ≡ false
  no-comma = ne_eqb lead comma (λ e. omega arith)

  pub led-end : led lead (lead ∷ []) ≡ false
  unfolding fields_of
  led-end = led-alone lead (lead ∷ []) (lead ∷ []) (rw (no_feed, no-comma))

  -- what follows the lead is no comma
  pub led-long : (b : ℕ) (s : Text) → (b ≡ comma → ⊥) → led lead (lead ∷ b ∷ s) ≡ false
  unfolding fields_of
  led-long b s n = go (eqb b line_feed) refl
    where
      first : (gs : List Text) → fields_of s ≡ gs → eqb b line_feed ≡ false
          → is_lead (lead ∷ []) (get_or (fields_of (lead ∷ b ∷ s)) 0 []) ≡ false
      first [] e f = rw (no_feed, no-comma, f, ne_eqb b comma n, e)
      first (g ∷ gs) e f = rw (no_feed, no-comma, f, ne_eqb b comma n, e)

      go : (t : Bool) → eqb b line_feed ≡ t → led lead (lead ∷ b ∷ s) ≡ false
      go true e = led-alone lead (lead ∷ b ∷ s) (lead ∷ []) (rw (no_feed, no-comma, e))
      go false e = led-no lead (lead ∷ b ∷ s) (first (fields_of s) refl e)

  pub fields-led : (s : Text) → fields_of (lead ∷ comma ∷ s) ≡ (lead ∷ []) ∷ fields_of s
  unfolding fields_of
  fields-led s = rw (no_feed, no-comma)

  pub after-led : (s : Text) → after_line (lead ∷ comma ∷ s) ≡ after_line s
  after-led s = after_on lead (comma ∷ s) no_feed ∙ after_on comma s refl

  pub led_on : (s : Text) → led lead (lead ∷ comma ∷ s) ≡ readable s
  unfolding readable
  led_on s =
      led-fields lead (lead ∷ comma ∷ s)
      ∙ rw (
        fields-led s,
        line_on lead (comma ∷ s) no_feed,
        ended-on lead (comma ∷ s) no_feed,
        line_on comma s refl,
        ended-on comma s refl,
        eq-eqb lead lead refl,
        fields-first s,
        le-leb 2 (suc (length (fields_of s))) (let h = some-field s in omega arith),
      )
      (ones (ended (first_line s)) (all is_number (fields_of s)))
    where
      ones : (a b : Bool) → a && true && b && true ≡ a && b
      ones true true = refl
      ones true false = refl
      ones false b = refl

-- ---- one of two leads

-- a field of one byte
abbrev is_byte : Text → Bool
is_byte [] = false
is_byte (x ∷ []) = true
is_byte (x ∷ y ∷ l) = false

abbrev alone : Text → Bool
alone s = is_byte (get_or (fields_of s) 0 [])

-- a line is led by one of the bytes just if it begins with it and its first field has no other
lead-first : (leads : List ℕ) (b : ℕ) (s : Text)
    → led_by leads (first_line (b ∷ s)) ≡ alone (b ∷ s) && any (eqb b) leads
unfolding fields_of
lead-first leads b s = rw (fields-first (b ∷ s)) (go (eqb b line_feed) (eqb b comma) (fields_of s))
  where
    first : Bool → Bool → List Text → Text
    first t u gs = get_or (cond t ([] ∷ []) (cond u ([] ∷ gs) (onto b gs))) 0 []

    go : (t u : Bool) (gs : List Text) → is_lead leads (first t u gs) ≡ is_byte (first t u gs) && any (eqb b) leads
    go true u gs = refl
    go false true gs = refl
    go false false [] = refl
    go false false ([] ∷ gs) = refl
    go false false ((x ∷ g) ∷ gs) = refl

module _ (one other b : ℕ) (s : Text) where
  abbrev line : Text
  line = first_line (b ∷ s)

  abbrev numbered : Bool
  numbered = all is_number (drop 1 (fields_of line))

  -- a line that may have either has the one that it begins with
  pub formed-either : formed (cond (eqb b other) other one ∷ []) line ≡ formed (one ∷ other ∷ []) line
  formed-either =
      ap (λ t. ended line && t && numbered)
      (lead-first (cond (eqb b other) other one ∷ []) b s ∙ go (eqb b other) refl
      ∙ sym (lead-first (one ∷ other ∷ []) b s))
    where
      go : (t : Bool) → eqb b other ≡ t
          → alone (b ∷ s) && (eqb b (cond t other one) || false)
          ≡ alone (b ∷ s) && (eqb b one || (eqb b other || false))
      go true e = rw (e, or-true (eqb b one))
      go false e = rw e

  -- and has the other just if it begins with that
  pub formed-other : formed (one ∷ other ∷ []) line ≡ true → led_by (other ∷ []) line ≡ eqb b other
  formed-other e =
      let f = ((and-eq-true_iff (ended line && led_by (one ∷ other ∷ []) line) numbered).0 e).0 in
      let g = ((and-eq-true_iff (ended line) (led_by (one ∷ other ∷ []) line)).0 f).1 in
      let h = ((and-eq-true_iff (alone (b ∷ s)) (any (eqb b) (one ∷ other ∷ []))).0
      (sym (lead-first (one ∷ other ∷ []) b s) ∙ g)).0 in
      lead-first (other ∷ []) b s ∙ rw h (or-false (eqb b other))
