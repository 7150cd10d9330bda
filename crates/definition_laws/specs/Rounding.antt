-- How drift is rounded, without the formula: to nearest, halves to the even hundredth, a negative net shift as its size.
use Rattle.std.specs.Prelude.{ℕ, zero, suc, ◌+◌, ◌*◌, ◌-◌, ◌/◌, ◌%◌, ◌≤◌, ◌<◌, ◌≡◌, refl, ◌⊎◌, cond, ltb, eqb, ℤ, pos, negsuc, neg_ℤ}
use Rattle.std.proofs.Common.{sym, ap, subst, ◌∙◌, ⊎_elim, inl, inr, arith, mod-lt, lt-ltb, le-ltb, eq-eqb, ne_eqb}
use Rattle.std.proofs.Math.Decide.{ℕ_discrete, dec_lt}
use Rattle.std.proofs.Math.Nat.{div-add-mod, zero-div, zero-mod}
use Rattle.definition.specs.Cost.{nearest, hundredths}

-- q is x over n, rounded: at most a half away from it, and where it is a half away, even
pub record Rounded (x n q : ℕ) : Type 0 where
  pub low : 2 * x ≤ 2 * (n * q) + n
  pub high : 2 * (n * q) ≤ 2 * x + n
  pub even : (2 * x ≡ 2 * (n * q) + n) ⊎ (2 * (n * q) ≡ 2 * x + n) → q % 2 ≡ 0

-- what is added to the whole part w, by the rest r
data Rest (w r n : ℕ) : ℕ → Type 0 where
  under : 2 * r < n → Rest w r n 0
  half : 2 * r ≡ n → Rest w r n (w % 2)
  over : n < 2 * r → Rest w r n 1

rest? : (w r n : ℕ) → Rest w r n (cond (ltb (2 * r) n) 0 (cond (eqb (2 * r) n) (w % 2) 1))
rest? w r n = go (dec_lt (2 * r) n) (ℕ_discrete (2 * r) n)
  where
    go : Dec (2 * r < n) → Dec (2 * r ≡ n) → Rest w r n (cond (ltb (2 * r) n) 0 (cond (eqb (2 * r) n) (w % 2) 1))
    go (yes h) e = rw (lt-ltb (2 * r) n h) (under h)
    go (no h) (yes e) = rw (le-ltb (2 * r) n (omega arith), eq-eqb (2 * r) n e) (half e)
    go (no h) (no d) = rw (le-ltb (2 * r) n (omega arith), ne_eqb (2 * r) n d) (over (omega arith))

-- n times one more
times : (n w c : ℕ) → c ≤ 1 → ((c ≡ 0) × (n * (w + c) ≡ n * w)) ⊎ ((c ≡ 1) × (n * (w + c) ≡ n * w + n))
times n w zero h = inl (refl, ap (λ (k : ℕ). n * k) (omega arith))
times n w (suc zero) h = inr (refl, omega arith)
times n w (suc (suc c)) h = absurd (omega arith)

-- ---- "halves to the even hundredth"

pub nearest_rounded : (x n : ℕ) → 0 < n → Rounded x n (nearest x n)
nearest_rounded x n h = go _ (rest? (x / n) (x % n) n)
  where
    whole : n * (x / n) + x % n ≡ x
    whole = div-add-mod x n

    small : x % n < n
    small = mod-lt x h

    go : (c : ℕ) → Rest (x / n) (x % n) n c → Rounded x n (x / n + c)
    go _ (under e) =
        ⊎_elim
        (λ t. record {
          low = omega (arith, whole, t.1);
          high = omega (arith, whole, t.1);
          even = λ p. absurd (⊎_elim (λ q. omega (arith, whole, t.1)) (λ q. omega (arith, whole, t.1)) p);
        })
        (λ t. absurd (omega (arith, t.0)))
        (times n (x / n) 0 (omega arith))
    go _ (half e) =
        ⊎_elim
        (λ t. record { low = omega (arith, whole, t.1); high = omega (arith, whole, t.1); even = λ p. omega (arith, t.0) })
        (λ t. record { low = omega (arith, whole, t.1); high = omega (arith, whole, t.1); even = λ p. omega (arith, t.0) })
        (times n (x / n) (x / n % 2) (omega arith))
    go _ (over e) =
        ⊎_elim
        (λ t. absurd (omega (arith, t.0)))
        (λ t. record {
          low = omega (arith, whole, t.1, small);
          high = omega (arith, whole, t.1);
          even = λ p. absurd (⊎_elim (λ q. omega (arith, whole, t.1, small)) (λ q. omega (arith, whole, t.1)) p);
        })
        (times n (x / n) 1 (omega arith))

-- no other number is so: of two, the greater would be one more, and both even
never_both : (x n q k : ℕ) → 0 < n → Rounded x n q → Rounded x n (q + suc k) → ⊥
never_both x n q zero h a b =
    let e : n * (q + suc zero) ≡ n * q + n = omega arith in
    omega (
      arith,
      a.even (inl (omega (arith, e, a.low, b.high))),
      b.even (inr (omega (arith, e, a.low, b.high))),
    )
never_both x n q (suc k) h a b =
    let e : n * (q + suc (suc k)) ≡ n * q + n + n + n * k = omega arith in
    omega (arith, e, a.low, b.high)

pub rounded_only : (x n q p : ℕ) → 0 < n → Rounded x n q → Rounded x n p → q ≡ p
rounded_only x n q p h a b = go (dec_lt q p) (dec_lt p q)
  where
    go : Dec (q < p) → Dec (p < q) → q ≡ p
    go (yes l) r =
        let e : p ≡ q + suc (p - q - 1) = omega arith in
        absurd (never_both x n q (p - q - 1) h a (subst (Rounded x n) e b))
    go (no l) (yes r) =
        let e : q ≡ p + suc (q - p - 1) = omega arith in
        absurd (never_both x n p (q - p - 1) h b (subst (Rounded x n) e a))
    go (no l) (no r) = omega arith

-- ---- "on both sides of zero"

-- the drift of a net shift to the left is that of its size to the right, negative
pub hundredths_sign : (s : ℤ) (n : ℕ) → hundredths (neg_ℤ s) n ≡ neg_ℤ (hundredths s n)
hundredths_sign (pos zero) n = ap pos none ∙ sym (ap (λ (k : ℕ). neg_ℤ (pos k)) none)
  where
    add : (c : ℕ) → Rest 0 0 n c → c ≡ 0
    add _ (under e) = refl
    add _ (half e) = refl
    add _ (over e) = absurd (omega arith)

    none : nearest (100 * 0) n ≡ 0
    none = let e = add _ (rest? 0 0 n) in rw (zero-div n, zero-mod n) (omega (arith, e))
hundredths_sign (pos (suc d)) n = refl
hundredths_sign (negsuc d) n = back (nearest (100 * suc d) n)
  where
    back : (k : ℕ) → pos k ≡ neg_ℤ (neg_ℤ (pos k))
    back zero = refl
    back (suc k) = refl
