-- A number and its digits: how many there are and what they are, for every number; and what the form of a number comes
-- to, for numbers up to 9,999, which a text may hold. proofs/Numbers.antt has what rests on these.
use Rattle.std.specs.Prelude.{ℕ, zero, suc, ◌+◌, ◌*◌, ◌-◌, ◌/◌, ◌%◌, ◌^◌, ◌<◌, ◌≤◌, ◌≡◌, refl, Bool, true, false, not, ◌&&◌, ◌||◌, List, [], ◌∷◌, ◌++◌, ◌⊎◌, length, get_or, leb, eqb, ℤ, pos, negsuc, nat_abs}
use Rattle.std.proofs.Common.{sym, ap, ◌∙◌, inl, inr, arith, pow-suc, mul-le-mul_left, mul-le-mul_right, mul_assoc, length-append, lt-ltb, le-ltb, ltb-true, leb-true, le-leb, eqb-true, eq-eqb, ne_eqb}
use Rattle.std.proofs.lemmas.Bool.{false≢true, eqb-false}
use Rattle.std.proofs.Math.Bool.{or-true, and-eq-true_iff}
use Rattle.std.proofs.Math.Nat.{pow-succ', one-le-pow}
use Rattle.std.proofs.Math.Decide.{dec_lt}
use Rattle.std.proofs.Math.ListN.{get_or-append}
use Rattle.std.specs.Int.Signed.{lt_z}
use Rattle.definition.specs.Lists.{all}
use Rattle.definition.specs.Texts.{Text, is_digit, is_number, within, value, value_from, digits, digits_in, minus, signed}

-- ---- tests

pub also : (a b : Bool) → a ≡ true → b ≡ true → (a && b) ≡ true
also true b e f = f
also false b e f = absurd (false≢true e)

pub all_append : {A : Type 0} (t : A → Bool) (xs ys : List A) → all t xs ≡ true → all t ys ≡ true
    → all t (xs ++ ys) ≡ true
all_append t [] ys e f = f
all_append t (x ∷ xs) ys e f =
    let b = (and-eq-true_iff (t x) (all t xs)).0 e in
    also (t x) (all t (xs ++ ys)) b.0 (all_append t xs ys b.1 f)

pub is_digit_lem : (b : ℕ) → is_digit b ≡ true → (48 ≤ b) × (b ≤ 57)
is_digit_lem b e =
    let p = (and-eq-true_iff (leb 48 b) (leb b 57)).0 e in
    (leb-true 48 b p.0, leb-true b 57 p.1)

pub digit-is : (b : ℕ) → 48 ≤ b → b ≤ 57 → is_digit b ≡ true
digit-is b h k = also (leb 48 b) (leb b 57) (le-leb 48 b h) (le-leb b 57 k)

-- ---- a number in its form

pub record Number (f : Text) : Type 0 where
  pub some : 1 ≤ length f
  pub few : length f ≤ 4
  pub each : all is_digit f ≡ true
  pub lead : (length f ≡ 1) ⊎ (get_or f 0 0 ≡ 48 → ⊥)

pub is-number : (f : Text) → is_number f ≡ true → Number f
unfolding is_number
is-number f e =
    let lead : Bool = eqb (length f) 1 || not (eqb (get_or f 0 0) 48) in
    let p = (and-eq-true_iff (within 1 4 (length f) && all is_digit f) lead).0 e in
    let q = (and-eq-true_iff (within 1 4 (length f)) (all is_digit f)).0 p.0 in
    let r = (and-eq-true_iff (leb 1 (length f)) (leb (length f) 4)).0 q.0 in
    record {
      some = leb-true 1 (length f) r.0;
      few = leb-true (length f) 4 r.1;
      each = q.1;
      lead = go (eqb (length f) 1) (eqb (get_or f 0 0) 48) (eqb-true (length f) 1) (eqb-false (get_or f 0 0) 48) p.1;
    }
  where
    go : (t u : Bool) → (t ≡ true → length f ≡ 1) → (u ≡ false → get_or f 0 0 ≡ 48 → ⊥) → (t || not u) ≡ true
        → (length f ≡ 1) ⊎ (get_or f 0 0 ≡ 48 → ⊥)
    go true u g h e = inl (g refl)
    go false false g h e = inr (h refl)
    go false true g h e = absurd (false≢true e)

pub number_is : (f : Text) → Number f → is_number f ≡ true
unfolding is_number
number_is f n =
    also (within 1 4 (length f) && all is_digit f) (eqb (length f) 1 || not (eqb (get_or f 0 0) 48))
    (also (within 1 4 (length f)) (all is_digit f)
    (also (leb 1 (length f)) (leb (length f) 4) (le-leb 1 (length f) n.some) (le-leb (length f) 4 n.few))
    n.each)
    (go n.lead)
  where
    go : (length f ≡ 1) ⊎ (get_or f 0 0 ≡ 48 → ⊥) → (eqb (length f) 1 || not (eqb (get_or f 0 0) 48)) ≡ true
    go (inl e) = rw (eq-eqb (length f) 1 e)
    go (inr d) = rw (ne_eqb (get_or f 0 0) 48 d) (or-true (eqb (length f) 1))

-- ---- digits, as many as a number needs

-- a single digit, or the digits before the last and the last, within a bound on their count
one_in : (k n : ℕ) → n < 10 → digits_in (suc k) n ≡ (48 + n) ∷ []
unfolding digits_in
one_in k n h = rw (lt-ltb n 10 h)

pub more_in : (k n : ℕ) → 10 ≤ n → digits_in (suc k) n ≡ digits_in k (n / 10) ++ ((48 + n % 10) ∷ [])
unfolding digits_in
more_in k n h = rw (le-ltb n 10 h)

pub power-above : (n : ℕ) → n < 10 ^ suc n
power-above zero = omega arith
power-above (suc n) = omega (arith, power-above n, pow-suc 10 (suc n))

-- two bounds that suffice give the same digits
pub same_in : (k m n : ℕ) → n < 10 ^ suc k → n < 10 ^ suc m → digits_in (suc k) n ≡ digits_in (suc m) n
same_in zero m n g h = one_in 0 n (omega arith) ∙ sym (one_in m n (omega arith))
same_in (suc k) zero n g h = one_in (suc k) n (omega arith) ∙ sym (one_in 0 n (omega arith))
same_in (suc k) (suc m) n g h = go (dec_lt n 10) (same_in k m)
  where
    go : Dec (n < 10) → ((i : ℕ) → i < 10 ^ suc k → i < 10 ^ suc m → digits_in (suc k) i ≡ digits_in (suc m) i)
        → digits_in (suc (suc k)) n ≡ digits_in (suc (suc m)) n
    go (yes l) f = one_in (suc k) n l ∙ sym (one_in (suc m) n l)
    go (no l) f =
        more_in (suc k) n (omega arith)
        ∙ ap (λ (t : Text). t ++ ((48 + n % 10) ∷ []))
        (f (n / 10) (omega (arith, pow-suc 10 (suc k))) (omega (arith, pow-suc 10 (suc m))))
        ∙ sym (more_in (suc m) n (omega arith))

pub one-digit : (n : ℕ) → n < 10 → digits n ≡ (48 + n) ∷ []
unfolding digits
one-digit n h = one_in n n h

pub digits_long : (k n : ℕ) → 0 < k → n < 10 ^ k → length (digits n) ≤ k
unfolding digits
digits_long zero n g h = absurd (omega arith)
digits_long (suc k) n g h = go k n n h (power-above n)
  where
    go : (k m n : ℕ) → n < 10 ^ suc k → n < 10 ^ suc m → length (digits_in (suc m) n) ≤ suc k
    go zero m n g h = rw (one_in m n (omega arith)) (omega arith)
    go (suc k) zero n g h = rw (one_in 0 n (omega arith)) (omega arith)
    go (suc k) (suc m) n g h = by (dec_lt n 10) (go k m)
      where
        by : Dec (n < 10) → ((i : ℕ) → i < 10 ^ suc k → i < 10 ^ suc m → length (digits_in (suc m) i) ≤ suc k)
            → length (digits_in (suc (suc m)) n) ≤ suc (suc k)
        by (yes l) f = rw (one_in (suc m) n l) (omega arith)
        by (no l) f =
            let r = f (n / 10) (omega (arith, pow-suc 10 (suc k))) (omega (arith, pow-suc 10 (suc m))) in
            let long = length-append (digits_in (suc m) (n / 10)) ((48 + n % 10) ∷ []) in
            rw (more_in (suc m) n (omega arith)) (omega arith)

pub four-long : (n : ℕ) → n ≤ 9999 → length (digits n) ≤ 4
four-long n h = digits_long 4 n (omega arith) (omega arith)

-- ---- a signed number, on each side of zero

pub signed_below : (z : ℤ) → lt_z z (pos 0) ≡ true → signed z ≡ minus ∷ digits (nat_abs z)
unfolding signed
signed_below (pos n) t = absurd (omega (arith, ltb-true n 0 t))
signed_below (negsuc n) t = refl

pub signed-from : (z : ℤ) → lt_z z (pos 0) ≡ false → signed z ≡ digits (nat_abs z)
unfolding signed
signed-from (pos n) t = refl
signed-from (negsuc n) t = absurd (false≢true (sym t))

-- ---- what is printed is a number in its form, and reads as what was printed

value_snoc : (a : ℕ) (xs : Text) (b : ℕ) → value_from a (xs ++ (b ∷ [])) ≡ value_from a xs * 10 + (b - 48)
unfolding value_from
value_snoc a [] b = refl
value_snoc a (x ∷ xs) b = value_snoc (a * 10 + (x - 48)) xs b

-- f stands for n, in at most k digits
pub record Stands (k n : ℕ) (f : Text) : Type 0 where
  pub some : 1 ≤ length f
  pub few : length f ≤ k
  pub each : all is_digit f ≡ true
  pub lead : (length f ≡ 1) ⊎ (get_or f 0 0 ≡ 48 → ⊥)
  pub start : 1 ≤ n → get_or f 0 0 ≡ 48 → ⊥
  pub reads : value f ≡ n

pub one-stands : (k n : ℕ) → n < 10 → Stands (suc k) n ((48 + n) ∷ [])
unfolding value_from
one-stands k n h = record {
  some = omega arith;
  few = omega arith;
  each = also (is_digit (48 + n)) true (digit-is (48 + n) (omega arith) (omega arith)) refl;
  lead = inl refl;
  start = λ l e. omega arith;
  reads = omega arith;
}

pub more-stands : (k n : ℕ) (f : Text) → 10 ≤ n → Stands k (n / 10) f → Stands (suc k) n (f ++ ((48 + n % 10) ∷ []))
more-stands k n f h s =
    let long : length (f ++ ((48 + n % 10) ∷ [])) ≡ length f + 1 = length-append f ((48 + n % 10) ∷ []) in
    let first : get_or (f ++ ((48 + n % 10) ∷ [])) 0 0 ≡ get_or f 0 0 =
    get_or-append f ((48 + n % 10) ∷ []) 0 0 s.some in
    let start : get_or (f ++ ((48 + n % 10) ∷ [])) 0 0 ≡ 48 → ⊥ = λ e. s.start (omega arith) (sym first ∙ e) in
    record {
      some = omega arith;
      few = omega (arith, s.few);
      each = all_append is_digit f ((48 + n % 10) ∷ []) s.each
          (also (is_digit (48 + n % 10)) true (digit-is (48 + n % 10) (omega arith) (omega arith)) refl);
      lead = inr start;
      start = λ l. start;
      reads = value_snoc 0 f (48 + n % 10) ∙ rw s.reads (omega arith);
    }

pub number_digits : (n : ℕ) → n ≤ 9999 → Number (digits n)
unfolding digits
number_digits n h =
    let f = form n n (power-above n) in
    record { some = f.0; few = four-long n h; each = f.1; lead = lead (dec_lt n 10) f.2 }
  where
    form : (m n : ℕ) → n < 10 ^ suc m
        → (1 ≤ length (digits_in (suc m) n)) × (all is_digit (digits_in (suc m) n) ≡ true)
        × (1 ≤ n → get_or (digits_in (suc m) n) 0 0 ≡ 48 → ⊥)
    form zero n g = let s = one-stands 0 n (omega arith) in rw (one_in 0 n (omega arith)) (s.some, s.each, s.start)
    form (suc m) n g = by (dec_lt n 10) (form m)
      where
        by : Dec (n < 10)
            → ((i : ℕ) → i < 10 ^ suc m
            → (1 ≤ length (digits_in (suc m) i)) × (all is_digit (digits_in (suc m) i) ≡ true)
            × (1 ≤ i → get_or (digits_in (suc m) i) 0 0 ≡ 48 → ⊥))
            → (1 ≤ length (digits_in (suc (suc m)) n)) × (all is_digit (digits_in (suc (suc m)) n) ≡ true)
            × (1 ≤ n → get_or (digits_in (suc (suc m)) n) 0 0 ≡ 48 → ⊥)
        by (yes l) f = let s = one-stands 0 n l in rw (one_in (suc m) n l) (s.some, s.each, s.start)
        by (no l) f =
            let xs : Text = digits_in (suc m) (n / 10) in
            let x : Text = (48 + n % 10) ∷ [] in
            let s = one-stands 0 (n % 10) (omega arith) in
            let r = f (n / 10) (omega (arith, pow-suc 10 (suc m))) in
            let long = length-append xs x in
            let first : get_or (xs ++ x) 0 0 ≡ get_or xs 0 0 = get_or-append xs x 0 0 r.0 in
            rw (more_in (suc m) n (omega arith))
            (omega arith, all_append is_digit xs x r.1 s.each, λ p e. r.2 (omega arith) (sym first ∙ e))

    lead : Dec (n < 10) → (1 ≤ n → get_or (digits n) 0 0 ≡ 48 → ⊥)
        → (length (digits n) ≡ 1) ⊎ (get_or (digits n) 0 0 ≡ 48 → ⊥)
    lead (yes l) f = inl (ap length (one_in n n l))
    lead (no l) f = inr (f (omega arith))

-- ---- a number in its form is at most 9,999

value-below : (k v : ℕ) (xs : Text) → length xs ≤ k → all is_digit xs ≡ true → value_from v xs < suc v * 10 ^ k
unfolding value_from
value-below k v [] l e = omega (arith, mul-le-mul_left (suc v) (one-le-pow k 10 (omega arith)))
value-below zero v (b ∷ xs) l e = absurd (omega arith)
value-below (suc k) v (b ∷ xs) l e =
    let p = (and-eq-true_iff (is_digit b) (all is_digit xs)).0 e in
    let d = is_digit_lem b p.0 in
    let w : ℕ = v * 10 + (b - 48) in
    let h = value-below k w xs (omega arith) p.1 in
    let m : suc w * 10 ^ k ≤ suc v * 10 * 10 ^ k = mul-le-mul_right (10 ^ k) (omega arith) in
    let q : suc v * 10 ^ suc k ≡ suc v * 10 * 10 ^ k =
    ap (λ (t : ℕ). suc v * t) (pow-succ' 10 k) ∙ sym (mul_assoc (suc v) 10 (10 ^ k)) in
    omega arith

pub value-small : (f : Text) → is_number f ≡ true → value f ≤ 9999
unfolding value_from
value-small f e = go f (is-number f e)
  where
    go : (f : Text) → Number f → value f ≤ 9999
    go [] n = omega arith
    go (a ∷ xs) n =
        let p = (and-eq-true_iff (is_digit a) (all is_digit xs)).0 n.each in
        let d = is_digit_lem a p.0 in
        omega (arith, value-below 3 (0 + (a - 48)) xs (omega (arith, n.few)) p.1)
