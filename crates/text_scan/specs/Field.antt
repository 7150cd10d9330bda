-- Digits at the beginning of a line: what they and the byte after them say of the line, its fields and its end.
use Rattle.std.specs.Prelude.{ℕ, ◌≤◌, ◌≡◌, Bool, true, not, ◌&&◌, ◌||◌, length, get_or, leb, eqb}
use Rattle.std.proofs.Math.Path.{refl}
use Rattle.std.proofs.Common.{sym, ap, ◌∙◌, arith, length-append, leb-true, le-leb, eq-eqb, ne_eqb}
use Rattle.std.proofs.Math.Bool.{false, and-false, and-eq-true_iff}
use Rattle.std.proofs.lemmas.Bool.{false≢true}
use mathlib.Core.List.{List, [], ◌∷◌, ◌++◌, append-nil}
use Rattle.std.proofs.Math.Decide.{ℕ_discrete}
use Rattle.std.proofs.Math.ListN.{get_or-append}
use Rattle.definition.specs.Lists.{all}
use Rattle.definition.specs.Texts.{Text, line_feed, comma, ended, fields_of, is_digit, within, is_number}
use Rattle.text_scan.specs.Line.{first_line, after_line, readable, fields-first, line_on, after_on, ended-on}

-- ---- tests

module _ (b : ℕ) (d : is_digit b ≡ true) where
  pub digit_low : 48 ≤ b
  digit_low = leb-true 48 b ((and-eq-true_iff (leb 48 b) (leb b 57)).0 d).0

  pub digit_high : b ≤ 57
  digit_high = leb-true b 57 ((and-eq-true_iff (leb 48 b) (leb b 57)).0 d).1

  digit-no_feed : eqb b line_feed ≡ false
  digit-no_feed = ne_eqb b line_feed (λ e. let h = digit_low in omega arith)

  digit-no-comma : eqb b comma ≡ false
  digit-no-comma = ne_eqb b comma (λ e. let h = digit_low in omega arith)

-- ---- digits before a text

abbrev pub Digits : Text → Type 0
Digits f = all is_digit f ≡ true

first : (b : ℕ) (f : Text) → Digits (b ∷ f) → is_digit b ≡ true
first b f d = ((and-eq-true_iff (is_digit b) (all is_digit f)).0 d).0

rest : (b : ℕ) (f : Text) → Digits (b ∷ f) → Digits f
rest b f d = ((and-eq-true_iff (is_digit b) (all is_digit f)).0 d).1

module _ (t : Text) where
  pub after-digits : (f : Text) → Digits f → after_line (f ++ t) ≡ after_line t
  after-digits [] d = refl
  after-digits (b ∷ f) d = after_on b (f ++ t) (digit-no_feed b (first b f d)) ∙ after-digits f (rest b f d)

  ended-digits : (f : Text) → Digits f → ended (first_line (f ++ t)) ≡ ended (first_line t)
  ended-digits [] d = refl
  ended-digits (b ∷ f) d =
      let e = digit-no_feed b (first b f d) in
      ap ended (line_on b (f ++ t) e) ∙ ended-on b (f ++ t) e ∙ ended-digits f (rest b f d)

  pub fields-digits : (f : Text) → Digits f → (g : Text) (gs : List Text) → fields_of t ≡ g ∷ gs
      → fields_of (f ++ t) ≡ (f ++ g) ∷ gs
  unfolding fields_of
  fields-digits [] d g gs e = e
  fields-digits (b ∷ f) d g gs e =
      rw (digit-no_feed b (first b f d), digit-no-comma b (first b f d), fields-digits f (rest b f d) g gs e)

  -- what is to be read of a line that begins with digits
  readable-digits : (f : Text) → Digits f → (g : Text) (gs : List Text) → fields_of t ≡ g ∷ gs
      → readable (f ++ t) ≡ ended (first_line t) && (is_number (f ++ g) && all is_number gs)
  unfolding readable
  readable-digits f d g gs e = rw (fields-first (f ++ t), fields-digits f d g gs e, ended-digits f d)

-- ---- a field and the byte after it

module _ (f : Text) (d : Digits f) (r : Text) where
  pub fields-comma : fields_of (f ++ comma ∷ r) ≡ f ∷ fields_of r
  unfolding fields_of
  fields-comma = fields-digits (comma ∷ r) f d [] (fields_of r) refl ∙ rw (append-nil f)

  pub fields_feed : fields_of (f ++ line_feed ∷ r) ≡ f ∷ []
  unfolding fields_of
  fields_feed = fields-digits (line_feed ∷ r) f d [] [] refl ∙ rw (append-nil f)

  pub readable-comma : is_number f ≡ true → readable (f ++ comma ∷ r) ≡ readable r
  unfolding readable fields_of first_line
  readable-comma n =
      readable-digits (comma ∷ r) f d [] (fields_of r) refl
      ∙ rw (append-nil f, n, ended-on comma r refl, fields-first r)

  pub readable_feed : is_number f ≡ true → readable (f ++ line_feed ∷ r) ≡ true
  unfolding readable fields_of first_line ended
  readable_feed n = readable-digits (line_feed ∷ r) f d [] [] refl ∙ rw (append-nil f, n)

-- ---- a number's form

pub record Form (f : Text) : Type 0 where
  pub some : 1 ≤ length f
  pub few : length f ≤ 4
  pub digits : Digits f
  pub lead : 2 ≤ length f → get_or f 0 0 ≡ 48 → ⊥

pub number-form : (f : Text) → is_number f ≡ true → Form f
unfolding is_number
number-form f e =
    let a =
    (and-eq-true_iff (within 1 4 (length f) && all is_digit f) (eqb (length f) 1 || not (eqb (get_or f 0 0) 48))).0 e in
    let b = (and-eq-true_iff (within 1 4 (length f)) (all is_digit f)).0 a.0 in
    let c = (and-eq-true_iff (leb 1 (length f)) (leb (length f) 4)).0 b.0 in
    record {
      some = leb-true 1 (length f) c.0;
      few = leb-true (length f) 4 c.1;
      digits = b.1;
      lead = λ h z. no a.1 (ne_eqb (length f) 1 (λ q. omega arith)) (eq-eqb (get_or f 0 0) 48 z);
    }
  where
    no : {s t : Bool} → s || not t ≡ true → s ≡ false → t ≡ true → ⊥
    no {s} {t} e p q = false≢true (sym (rw (p, q)) ∙ e)

pub form-number : (f : Text) → Form f → is_number f ≡ true
unfolding is_number
form-number f r =
    rw (le-leb 1 (length f) r.some, le-leb (length f) 4 r.few, r.digits) (go (ℕ_discrete (length f) 1))
  where
    go : Dec (length f ≡ 1) → eqb (length f) 1 || not (eqb (get_or f 0 0) 48) ≡ true
    go (yes e) = rw (eq-eqb (length f) 1 e)
    go (no e) = let h = r.some in rw (ne_eqb (length f) 1 e, ne_eqb (get_or f 0 0) 48 (r.lead (omega arith)))

-- ---- fields that are no numbers

not-form : (f : Text) → (Form f → ⊥) → is_number f ≡ false
not-form f n = go (is_number f) (λ e. n (number-form f e))
  where
    go : (t : Bool) → (t ≡ true → ⊥) → t ≡ false
    go true k = absurd (k refl)
    go false k = refl

module _ (f : Text) (b : ℕ) (g : Text) where
  pub no_digit : is_digit b ≡ false → is_number (f ++ b ∷ g) ≡ false
  no_digit e = not-form (f ++ b ∷ g) (λ r. false≢true (sym e ∙ at f r.digits))
    where
      at : (f : Text) → Digits (f ++ b ∷ g) → is_digit b ≡ true
      at [] d = first b g d
      at (x ∷ f) d = at f (rest x (f ++ b ∷ g) d)

  pub five-digits : 4 ≤ length f → is_number (f ++ b ∷ g) ≡ false
  five-digits h = not-form (f ++ b ∷ g) (λ r. let k = r.few in omega (arith, length-append f (b ∷ g)))

  pub leading_zero : 1 ≤ length f → get_or f 0 0 ≡ 48 → is_number (f ++ b ∷ g) ≡ false
  leading_zero h e =
      not-form (f ++ b ∷ g)
      (λ r. r.lead (omega (arith, length-append f (b ∷ g))) (get_or-append f (b ∷ g) 0 0 h ∙ e))

module _ (f : Text) (d : Digits f) where
  -- a text's last line without an end
  pub unended : readable (f ++ []) ≡ false
  unfolding fields_of first_line ended
  unended = readable-digits [] f d [] [] refl

  -- no number begins with f and b
  pub no_field : (b : ℕ) (r : Text) → eqb b line_feed ≡ false → eqb b comma ≡ false
      → ((g : Text) → is_number (f ++ b ∷ g) ≡ false)
      → readable (f ++ b ∷ r) ≡ false
  unfolding fields_of
  no_field b r e k n = go (fields_of r) refl
    where
      at : (g : Text) (gs : List Text) → fields_of (b ∷ r) ≡ (b ∷ g) ∷ gs → readable (f ++ b ∷ r) ≡ false
      at g gs q = readable-digits (b ∷ r) f d (b ∷ g) gs q ∙ rw (n g) (and-false (ended (first_line (b ∷ r))))

      go : (gs : List Text) → fields_of r ≡ gs → readable (f ++ b ∷ r) ≡ false
      go [] q = at [] [] (rw (e, k, q))
      go (g ∷ gs) q = at g gs (rw (e, k, q))

-- a field without a byte
pub no-empty : (r : Text) → (readable (comma ∷ r) ≡ false) × (readable (line_feed ∷ r) ≡ false)
unfolding readable fields_of first_line ended is_number
no-empty r = (and-false (ended (first_line (comma ∷ r))), refl)
