-- Laws of a text put into a buffer: nothing, one byte, one text after another, and from the first byte on. What is
-- left does not depend on whether the text fits; that it does is asked before each part is written.
use Rattle.std.specs.Prelude.{ℕ, zero, suc, ◌+◌, ◌≡◌, refl, List, [], ◌∷◌, ◌++◌, length, set}
use Rattle.std.proofs.Common.{sym, ap, ◌∙◌, arith, length-append}
use Rattle.definition.specs.Outcome.{over}
use Rattle.definition_laws.specs.Over.{length_over}
use Rattle.text_write.specs.Put.{put, Room, Wrote}

-- ---- nothing

put-none : (l : List ℕ) (at : ℕ) → put l at [] ≡ l
unfolding put over
put-none l zero = refl
put-none [] (suc at) = refl
put-none (y ∷ l) (suc at) = ap (λ (m : List ℕ). y ∷ m) (put-none l at)

pub wrote_none : (l : List ℕ) (at : ℕ) → Wrote [] l at l at
wrote_none l at = record { cursor = omega arith; bytes = sym (put-none l at) }

-- ---- one byte

put_one : (l : List ℕ) (at b : ℕ) → set l at b ≡ put l at (b ∷ [])
unfolding put over
put_one [] zero b = refl
put_one [] (suc at) b = refl
put_one (y ∷ l) zero b = refl
put_one (y ∷ l) (suc at) b = ap (λ (m : List ℕ). y ∷ m) (put_one l at b)

pub wrote_one : (l : List ℕ) (at b : ℕ) → Wrote (b ∷ []) l at (set l at b) (at + 1)
wrote_one l at b = record { cursor = omega arith; bytes = put_one l at b }

-- ---- one text after another, which begins where the first ends

over-put : (xs ys l : List ℕ) → put (over xs l) (length xs) ys ≡ over (xs ++ ys) l
unfolding put over
over-put [] ys l = refl
over-put (x ∷ xs) ys [] = refl
over-put (x ∷ xs) ys (y ∷ l) = ap (λ (m : List ℕ). x ∷ m) (over-put xs ys l)

put-put : (l : List ℕ) (at p : ℕ) (xs ys : List ℕ) → p ≡ at + length xs → put (put l at xs) p ys ≡ put l at (xs ++ ys)
unfolding put
put-put l zero p xs ys e =
    let z : p ≡ length xs = omega arith in
    rw z (over-put xs ys l)
put-put [] (suc at) zero xs ys e = absurd (omega arith)
put-put [] (suc at) (suc p) xs ys e = refl
put-put (y ∷ l) (suc at) zero xs ys e = absurd (omega arith)
put-put (y ∷ l) (suc at) (suc p) xs ys e = ap (λ (m : List ℕ). y ∷ m) (put-put l at p xs ys (omega arith))

pub then : {xs ys l m n : List ℕ} {at p r : ℕ} → Wrote xs l at m p → Wrote ys m p n r → Wrote (xs ++ ys) l at n r
then {xs} {ys} {l} {m} {n} {at} {p} {r} a b = record {
  cursor = omega (arith, a.cursor, b.cursor, length-append xs ys);
  bytes = b.bytes ∙ rw a.bytes (put-put l at p xs ys a.cursor);
}

-- ---- room: the buffer keeps its length

length-put : (l : List ℕ) (at : ℕ) (xs : List ℕ) → length (put l at xs) ≡ length l
unfolding put
length-put l zero xs = length_over xs l
length-put [] (suc at) xs = refl
length-put (y ∷ l) (suc at) xs = ap suc (length-put l at xs)

pub wrote_length : {xs l m : List ℕ} {at r : ℕ} → Wrote xs l at m r → length m ≡ length l
wrote_length {xs} {l} {m} {at} w = ap length w.bytes ∙ length-put l at xs

-- where two texts fit, the first does; and where that one ends, the second
pub first : {xs l : List ℕ} {at : ℕ} (ys : List ℕ) → Room (xs ++ ys) l at → Room xs l at
first {xs} ys h = record { fits = omega (arith, h.fits, length-append xs ys) }

pub rest : {xs ys l m : List ℕ} {at p : ℕ} → Room (xs ++ ys) l at → Wrote xs l at m p → Room ys m p
rest {xs} {ys} h w = record { fits = omega (arith, h.fits, length-append xs ys, w.cursor, wrote_length w) }

-- ---- from the first byte on

pub wrote_over : {xs l m : List ℕ} {r : ℕ} → Wrote xs l 0 m r → (m ≡ over xs l) × (r ≡ length xs)
unfolding put
wrote_over w = (w.bytes, omega (arith, w.cursor))
