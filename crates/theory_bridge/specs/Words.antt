-- The definitions' words on lists and those of the rows' theory say the same, where what
-- they are given agrees on the list's entries.
use Rattle.std.specs.Prelude.{◌≡◌, Bool, ℕ, zero, suc, ◌+◌, eqb}
use Rattle.std.proofs.Math.Path.{refl, ap, ap₂}
use Rattle.std.proofs.Common.{◌∙◌}
use Rattle.std.proofs.Math.Bool.{cond}
use mathlib.Core.List.Memᴰ.{head as here}
use mathlib.Core.List.Memᴰ.{tail as there}
use mathlib.Core.List.{List, [], ◌∷◌, Memᴰ as In}
use Rattle.std.proofs.Math.Dec.{leb}
use Rattle.definition.specs.Lists as lists
use Rattle.definition.specs.Rules as rules
use Rattle.lists.specs.Numbers.{from}
use Rattle.theory_row.specs.Order.{put, sort, place}
use Rattle.theory_row.proofs.Order.{sort_in}
use Rattle.theory_row.specs.Rules.{sum, sum_next, sum_neighbours}
use Rattle.theory_pair.specs.Pick.{pick}

pub from-same : (a n : ℕ) → lists.from a n ≡ from a n
unfolding from
from-same a zero = refl
from-same a (suc n) = ap (λ l. a ∷ l) (from-same (suc a) n)

pub keep-pick : (f g : ℕ → Bool) (l : List ℕ) → ((k : ℕ) → In k l → f k ≡ g k) → lists.keep f l ≡ pick g l
unfolding pick
keep-pick f g [] h = refl
keep-pick f g (x ∷ l) h = ap₂ (λ t r. cond t (x ∷ r) r) (h x (here refl)) (keep-pick f g l (λ k m. h k (there m)))

module _ (s t : ℕ → ℕ) where
  put_same : (k : ℕ) (l : List ℕ) → s k ≡ t k → ((x : ℕ) → In x l → s x ≡ t x) → rules.put s k l ≡ put t k l
  unfolding rules.put put
  put_same k [] e h = refl
  put_same k (x ∷ l) e h =
      ap₂ (λ b r. cond b (k ∷ x ∷ l) (x ∷ r)) (ap₂ leb e (h x (here refl))) (put_same k l e (λ y m. h y (there m)))

  pub sort-same : (l : List ℕ) → ((x : ℕ) → In x l → s x ≡ t x) → rules.sort s l ≡ sort t l
  unfolding rules.sort sort
  sort-same [] h = refl
  sort-same (k ∷ l) h =
      ap (rules.put s k) (sort-same l (λ x m. h x (there m)))
      ∙ put_same k (sort t l) (h k (here refl)) (λ x m. h x (there (sort_in t l m)))

pub place_same : (k : ℕ) (l : List ℕ) → rules.place_in k l ≡ place k l
unfolding rules.place_in place
place_same k [] = refl
place_same k (x ∷ l) = ap (λ n. cond (eqb k x) 0 (suc n)) (place_same k l)

pub sum_same : (f g : ℕ → ℕ) (l : List ℕ) → ((k : ℕ) → In k l → f k ≡ g k) → lists.sum f l ≡ sum g l
unfolding sum
sum_same f g [] h = refl
sum_same f g (x ∷ l) h = ap₂ ◌+◌ (h x (here refl)) (sum_same f g l (λ k m. h k (there m)))

pub sum_next-same : (f g : ℕ → ℕ → ℕ) (l : List ℕ) → ((a b : ℕ) → In a l → In b l → f a b ≡ g a b)
    → lists.sum_next f l ≡ sum_neighbours g l
unfolding sum_next
sum_next-same f g [] h = refl
sum_next-same f g (a ∷ []) h = refl
sum_next-same f g (a ∷ b ∷ l) h =
    ap₂ ◌+◌ (h a b (here refl) (there (here refl))) (sum_next-same f g (b ∷ l) (λ x y m n. h x y (there m) (there n)))
