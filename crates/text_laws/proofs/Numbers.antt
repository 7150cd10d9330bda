-- A number and its digits: what is printed reads back, for every number; and what reads is what would be printed,
-- for numbers up to 9,999, which a text may hold.
use Rattle.std.specs.Prelude.{ℕ, zero, suc, ◌+◌, ◌*◌, ◌-◌, ◌/◌, ◌%◌, ◌^◌, ◌<◌, ◌≤◌, ◌≡◌, true, [], ◌∷◌, ◌++◌, length}
use Rattle.std.proofs.Common.{sym, ap, ◌∙◌, append_assoc, append-nil, ⊎_elim, arith, pow-suc}
use Rattle.std.proofs.Math.Bool.{and-eq-true_iff}
use Rattle.std.proofs.Math.Decide.{dec_lt}
use Rattle.definition.specs.Lists.{all}
use Rattle.definition.specs.Texts.{Text, is_digit, is_number, value, value_from, digits, digits_in}
use Rattle.text_laws.specs.Numbers.{is_digit_lem, Number, is-number, number_is, more_in, power-above, same_in, one-digit, Stands, one-stands, more-stands, number_digits}

-- ---- digits, as many as a number needs

-- a number below 10 ^ room has at most room digits, so a bound of room leaves none out
pub digits_in_lem : (room n : ℕ) → 0 < room → n < 10 ^ room → digits_in room n ≡ digits n
unfolding digits
digits_in_lem zero n g h = absurd (omega arith)
digits_in_lem (suc k) n g h = same_in k n n h (power-above n)

pub more-digits : (n : ℕ) → 10 ≤ n → digits n ≡ digits (n / 10) ++ ((48 + n % 10) ∷ [])
unfolding digits
more-digits zero h = absurd (omega arith)
more-digits (suc j) h =
    more_in (suc j) (suc j) h
    ∙ ap (λ (t : Text). t ++ ((48 + suc j % 10) ∷ []))
    (digits_in_lem (suc j) (suc j / 10) (omega arith) (omega (arith, power-above j)))

-- ---- what is printed is a number in its form, and reads as what was printed

stands : (k n : ℕ) → n < 10 ^ suc k → Stands (suc k) n (digits n)
stands zero n h = rw (one-digit n (omega arith)) (one-stands 0 n (omega arith))
stands (suc k) n h = go (dec_lt n 10) (stands k)
  where
    go : Dec (n < 10) → ((m : ℕ) → m < 10 ^ suc k → Stands (suc k) m (digits m)) → Stands (suc (suc k)) n (digits n)
    go (yes l) f = rw (one-digit n l) (one-stands (suc k) n l)
    go (no l) f =
        rw (more-digits n (omega arith))
        (more-stands (suc k) n (digits (n / 10)) (omega arith) (f (n / 10) (omega (arith, pow-suc 10 (suc k)))))

pub value-digits : (n : ℕ) → value (digits n) ≡ n
value-digits n = (stands n n (power-above n)).reads

-- two different numbers never share their digits
pub digits_tell : (m n : ℕ) → digits m ≡ digits n → m ≡ n
digits_tell m n e = sym (value-digits m) ∙ ap value e ∙ value-digits n

pub digits-some : (n : ℕ) → 1 ≤ length (digits n)
digits-some n = (stands n n (power-above n)).some

pub digits-each : (n : ℕ) → all is_digit (digits n) ≡ true
digits-each n = (stands n n (power-above n)).each

pub digits_number : (n : ℕ) → n ≤ 9999 → is_number (digits n) ≡ true
digits_number n h = number_is (digits n) (number_digits n h)

-- ---- a number in its form is the print of its value

-- digits after a number that is not 0 are appended to its print
digits-after : (v : ℕ) (xs : Text) → 1 ≤ v → all is_digit xs ≡ true → digits (value_from v xs) ≡ digits v ++ xs
unfolding value_from
digits-after v [] h e = sym (append-nil (digits v))
digits-after v (b ∷ xs) h e =
    let p = (and-eq-true_iff (is_digit b) (all is_digit xs)).0 e in
    let d = is_digit_lem b p.0 in
    let w : ℕ = v * 10 + (b - 48) in
    let q : w / 10 ≡ v = omega arith in
    let r : 48 + w % 10 ≡ b = omega arith in
    let one : digits w ≡ digits v ++ (b ∷ []) = more-digits w (omega arith) ∙ rw (q, r) in
    digits-after w xs (omega arith) p.1 ∙ rw one (append_assoc (digits v) (b ∷ []) xs)

pub digits_value : (f : Text) → is_number f ≡ true → digits (value f) ≡ f
unfolding value_from
digits_value f e = go f (is-number f e)
  where
    one : (a : ℕ) → is_digit a ≡ true → digits (0 + (a - 48)) ≡ a ∷ []
    one a e =
        let d = is_digit_lem a e in
        let r : 48 + (0 + (a - 48)) ≡ a = omega arith in
        one-digit (0 + (a - 48)) (omega arith) ∙ rw r

    go : (f : Text) → Number f → digits (value f) ≡ f
    go [] n = absurd (omega (arith, n.some))
    go (a ∷ []) n = one a ((and-eq-true_iff (is_digit a) true).0 n.each).0
    go (a ∷ b ∷ xs) n =
        let p = (and-eq-true_iff (is_digit a) (all is_digit (b ∷ xs))).0 n.each in
        let d = is_digit_lem a p.0 in
        let start : a ≡ 48 → ⊥ = ⊎_elim (λ l. λ e. omega arith) (λ h. h) n.lead in
        let high : 1 ≤ 0 + (a - 48) = go-high a d.0 start in
        digits-after (0 + (a - 48)) (b ∷ xs) high p.1 ∙ ap (λ (t : Text). t ++ (b ∷ xs)) (one a p.0)
      where
        go-high : (a : ℕ) → 48 ≤ a → (a ≡ 48 → ⊥) → 1 ≤ 0 + (a - 48)
        go-high a h d = omega (arith, d)
