-- A list laid over another as far as that reaches, one entry at a time; and the
-- same after two entries that are laid first.
use Prim.Native.Nat.{ℕ, zero, suc, ◌+◌, ◌<◌, ◌≤◌}
use Rattle.std.specs.Prelude.{◌≡◌, take, set, get_or}
use Rattle.std.proofs.Math.Path.{refl, sym, ap}
use Rattle.std.proofs.Common.{◌∙◌, not-suc-le-zero, le_of_suc-le-suc, add-one}
use mathlib.Core.List.{List, [], ◌∷◌}
use native.Mathlib.Omega.{arith}
use Rattle.std.proofs.Math.ListN.{length}
use Rattle.definition.specs.Outcome.{over}

module _ {A : Type 0} where
  pub length_over : (xs l : List A) → length (over xs l) ≡ length l
  unfolding over
  length_over [] l = refl
  length_over (x ∷ xs) [] = refl
  length_over (x ∷ xs) (y ∷ l) = ap suc (length_over xs l)

  over_nil : (xs : List A) → over xs [] ≡ []
  unfolding over
  over_nil [] = refl
  over_nil (x ∷ xs) = refl

  over-suc : (xs l : List A) (i : ℕ) (d : A) → i < length xs → i < length l
      → set (over (take i xs) l) i (get_or xs i d) ≡ over (take (suc i) xs) l
  unfolding over
  over-suc [] l i d h k = absurd (not-suc-le-zero h)
  over-suc (x ∷ xs) [] i d h k = absurd (not-suc-le-zero k)
  over-suc (x ∷ xs) (y ∷ l) zero d h k = refl
  over-suc (x ∷ xs) (y ∷ l) (suc i) d h k =
      ap (λ (t : List A). x ∷ t) (over-suc xs l i d (le_of_suc-le-suc h) (le_of_suc-le-suc k))

  -- a store of the entry at i, once those before it are laid
  pub over-more : (xs l : List A) (i : ℕ) (d : A) → i < length xs → i < length l
      → set (over (take i xs) l) i (get_or xs i d) ≡ over (take (i + 1) xs) l
  over-more xs l i d h k = rw (add-one i) (over-suc xs l i d h k)

  -- past the end nothing more is laid
  pub over_full : (xs l : List A) (i n : ℕ) → length l ≤ i → i ≤ n → over (take i xs) l ≡ over (take n xs) l
  unfolding over
  over_full xs [] i n h k = over_nil (take i xs) ∙ sym (over_nil (take n xs))
  over_full [] (y ∷ l) (suc i) (suc n) h k = refl
  over_full (x ∷ xs) (y ∷ l) (suc i) (suc n) h k =
      ap (λ (t : List A). x ∷ t) (over_full xs l i n (le_of_suc-le-suc h) (le_of_suc-le-suc k))
  over_full xs (y ∷ l) zero n h k = absurd (not-suc-le-zero h)
  over_full xs (y ∷ l) (suc i) zero h k = absurd (not-suc-le-zero k)

  -- ---- after two entries

  module _ (a b : A) where
    pub none_over : (xs l : List A) → length l ≡ 0 → l ≡ over (a ∷ b ∷ xs) l
    unfolding over
    none_over xs [] e = refl
    none_over xs (x ∷ l) e = absurd (omega arith)

    pub one-over : (xs l : List A) → length l ≡ 1 → set l 0 a ≡ over (a ∷ b ∷ xs) l
    unfolding over
    one-over xs [] e = absurd (omega arith)
    one-over xs (x ∷ []) e = refl
    one-over xs (x ∷ y ∷ l) e = absurd (omega arith)

    -- the two laid
    pub two-over : (l : List A) → 2 ≤ length l → set (set l 0 a) 1 b ≡ over (a ∷ b ∷ []) (set (set l 0 a) 1 b)
    unfolding over
    two-over [] h = absurd (omega arith)
    two-over (x ∷ []) h = absurd (omega arith)
    two-over (x ∷ y ∷ l) h = refl

    pub two-again : (xs l : List A) → 2 ≤ length l → over (a ∷ b ∷ xs) (set (set l 0 a) 1 b) ≡ over (a ∷ b ∷ xs) l
    unfolding over
    two-again xs [] h = absurd (omega arith)
    two-again xs (x ∷ []) h = absurd (omega arith)
    two-again xs (x ∷ y ∷ l) h = refl

    -- one more of those that follow them
    pub after_more : (xs l : List A) (i : ℕ) (d : A) → i < length xs → i + 2 < length l
        → set (over (a ∷ b ∷ take i xs) l) (i + 2) (get_or xs i d) ≡ over (a ∷ b ∷ take (i + 1) xs) l
    unfolding over
    after_more xs [] i d h k = absurd (omega arith)
    after_more xs (x ∷ []) i d h k = absurd (omega arith)
    after_more xs (x ∷ y ∷ l) i d h k =
        let e : i + 2 ≡ suc (suc i) = omega arith in
        let k' : i < length l = omega arith in
        rw e (ap (λ (t : List A). a ∷ b ∷ t) (over-more xs l i d h k'))

    pub after_full : (xs l : List A) (i n : ℕ) → length l ≤ i + 2 → i ≤ n
        → over (a ∷ b ∷ take i xs) l ≡ over (a ∷ b ∷ take n xs) l
    unfolding over
    after_full xs [] i n h k = refl
    after_full xs (x ∷ []) i n h k = refl
    after_full xs (x ∷ y ∷ l) i n h k = ap (λ (t : List A). a ∷ b ∷ t) (over_full xs l i n (omega arith) k)

  -- an entry that was laid
  pub over-at : (xs l : List A) (i : ℕ) (d : A) → i < length xs → i < length l → get_or (over xs l) i d ≡ get_or xs i d
  unfolding over
  over-at [] l i d h g = absurd (omega arith)
  over-at (x ∷ xs) [] i d h g = absurd (omega arith)
  over-at (x ∷ xs) (y ∷ l) zero d h g = refl
  over-at (x ∷ xs) (y ∷ l) (suc i) d h g = over-at xs l i d (omega arith) (omega arith)

  -- all that was laid
  pub take-over : (xs l : List A) → length xs ≤ length l → take (length xs) (over xs l) ≡ xs
  unfolding over
  take-over [] l h = refl
  take-over (x ∷ xs) [] h = absurd (omega arith)
  take-over (x ∷ xs) (y ∷ l) h = ap (λ (t : List A). x ∷ t) (take-over xs l (omega arith))
