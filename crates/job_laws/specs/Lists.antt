-- Lists whose entries all pass a test, and lists with one more entry.
use Rattle.std.specs.Prelude.{ℕ, zero, suc, ◌+◌, ◌≤◌, ◌<◌, ◌≡◌, refl, Bool, true, false, cond, List, [], ◌∷◌, ◌++◌, length, get_or, leb}
use Rattle.std.proofs.Common.{ap, ◌∙◌, arith, length-append, leb-true}
use Rattle.std.proofs.Math.Bool.{and-eq-true_iff}
use Rattle.std.proofs.Math.Decide.{ℕ_discrete}
use Rattle.std.proofs.Math.ListN.{get_or-append}
use Rattle.std.proofs.Math.Seq.{get_or-append_seam}
use Rattle.definition.specs.Lists.{all, keep}
use Rattle.definition.specs.Texts.{within}

module _ {A : Type 0} (p : A → Bool) (d : A) where
  pub all-at : (l : List A) → all p l ≡ true → (i : ℕ) → i < length l → p (get_or l i d) ≡ true
  all-at [] e i h = absurd (omega arith)
  all-at (x ∷ l) e zero h = ((and-eq-true_iff (p x) (all p l)).0 e).0
  all-at (x ∷ l) e (suc i) h = all-at l ((and-eq-true_iff (p x) (all p l)).0 e).1 i (omega arith)

pub within_both : (a b x : ℕ) → within a b x ≡ true → (a ≤ x) × (x ≤ b)
within_both a b x e =
    let t = (and-eq-true_iff (leb a x) (leb x b)).0 e in
    (leb-true a x t.0, leb-true x b t.1)

-- past its end a list of numbers is read as 0
pub all-below : (a b : ℕ) (l : List ℕ) → all (within a b) l ≡ true → (i : ℕ) → get_or l i 0 ≤ b
all-below a b [] e i = omega arith
all-below a b (x ∷ l) e zero = (within_both a b x ((and-eq-true_iff (within a b x) (all (within a b) l)).0 e).0).1
all-below a b (x ∷ l) e (suc i) = all-below a b l ((and-eq-true_iff (within a b x) (all (within a b) l)).0 e).1 i

-- ---- the entries that pass a test

pub keep-few : {A : Type 0} (p : A → Bool) (l : List A) → length (keep p l) ≤ length l
keep-few p [] = omega arith
keep-few p (x ∷ l) = go (p x) (keep-few p l)
  where
    go : (t : Bool) → length (keep p l) ≤ length l → length (cond t (x ∷ keep p l) (keep p l)) ≤ suc (length l)
    go true h = omega arith
    go false h = omega arith

-- ---- one more entry

module _ {A : Type 0} (p : A → Bool) (c : A) where
  pub keep-more : (l : List A) → length (keep p (l ++ c ∷ [])) ≡ length (keep p l) + cond (p c) 1 0
  keep-more [] = go (p c)
    where
      go : (t : Bool) → length (cond t (c ∷ []) []) ≡ 0 + cond t 1 0
      go true = refl
      go false = refl
  keep-more (x ∷ l) = go (p x) (keep-more l)
    where
      go : (t : Bool) → length (keep p (l ++ c ∷ [])) ≡ length (keep p l) + cond (p c) 1 0
          → length (cond t (x ∷ keep p (l ++ c ∷ [])) (keep p (l ++ c ∷ [])))
          ≡ length (cond t (x ∷ keep p l) (keep p l)) + cond (p c) 1 0
      go true e = omega arith
      go false e = e

-- an entry of the longer list is the new one or an old one
pub data Which {A : Type 0} (l : List A) (c d : A) (k : ℕ) : Type 0 where
  old : k < length l → get_or (l ++ c ∷ []) k d ≡ get_or l k d → Which l c d k
  new : k ≡ length l → get_or (l ++ c ∷ []) k d ≡ c → Which l c d k

pub which : {A : Type 0} (l : List A) (c d : A) (k : ℕ) → k < length (l ++ c ∷ []) → Which l c d k
which l c d k h = go (ℕ_discrete k (length l))
  where
    go : Dec (k ≡ length l) → Which l c d k
    go (yes e) = new e (ap (λ (i : ℕ). get_or (l ++ c ∷ []) i d) e ∙ get_or-append_seam l c [] d)
    go (no n) = let b : k < length l = omega (arith, length-append l (c ∷ [])) in
        old b (get_or-append l (c ∷ []) d k b)
