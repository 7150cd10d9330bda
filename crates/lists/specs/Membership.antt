-- Membership in a list of numbers, distinct entries, and where an entry stands.
use Rattle.std.specs.Prelude.{◌≡◌, refl, Bool, true, false, cond, ℕ, zero, suc, ◌+◌, ◌≤◌, ◌<◌, length, get_or, drop, eqb}
use Rattle.std.proofs.Common.{sym, ◌∙◌, arith, length-drop, get_or-drop}
use mathlib.Core.List.Memᴰ
use mathlib.Core.List.Memᴰ.{head as here}
use mathlib.Core.List.Memᴰ.{tail as there}
use mathlib.Core.List.{List, [], ◌∷◌, Memᴰ as In}
use Rattle.std.proofs.Math.Decide.{ℕ_discrete}
use Rattle.lists.specs.Compare.{Eq?, same, differs, eq?}
use Rattle.lists.specs.Numbers.{from, in_from}

-- ---- distinct entries

abbrev pub Distinct : List ℕ → Type 0
Distinct [] = Unit {0}
Distinct (x ∷ l) = (¬ In x l) × Distinct l

pub distinct_from : (a n : ℕ) → Distinct (from a n)
unfolding from
distinct_from a zero = tt
distinct_from a (suc n) = (λ m. let h = in_from (suc a) n m in omega arith, distinct_from (suc a) n)

-- membership is decided
pub in? : (k : ℕ) (l : List ℕ) → Dec (In k l)
in? k [] = no (λ m. elim m [ ])
in? k (x ∷ l) = go (ℕ_discrete k x) (in? k l)
  where
    go : Dec (k ≡ x) → Dec (In k l) → Dec (In k (x ∷ l))
    go (yes e) d = yes (here e)
    go (no n) (yes m) = yes (there m)
    go (no n) (no m) = no (λ i. out i)
      where
        out : In k (x ∷ l) → ⊥
        out (here e) = n e
        out (there m') = m m'

-- ---- n distinct entries below n are all the numbers below n

-- l without its first k
del : ℕ → List ℕ → List ℕ
del k [] = []
del k (x ∷ l) = cond (eqb k x) l (x ∷ del k l)

in_del : {j : ℕ} (k : ℕ) (l : List ℕ) → In j (del k l) → In j l
unfolding del
in_del {j = j} k [] m = elim m [ ]
in_del {j} k (x ∷ l) m = go (eqb k x) m (in_del k l)
  where
    go : (t : Bool) → In j (cond t l (x ∷ del k l)) → (In j (del k l) → In j l) → In j (x ∷ l)
    go true m f = there m
    go false (here e) f = here e
    go false (there m) f = there (f m)

del-size : (k : ℕ) (l : List ℕ) → length l ≤ suc (length (del k l))
unfolding del
del-size k [] = omega arith
del-size k (x ∷ l) = go (eqb k x) (del-size k l)
  where
    go : (t : Bool) → length l ≤ suc (length (del k l)) → suc (length l) ≤ suc (length (cond t l (x ∷ del k l)))
    go true h = omega arith
    go false h = omega arith

del-out : (k : ℕ) (l : List ℕ) → Distinct l → ¬ In k (del k l)
unfolding del
del-out k [] d m = elim m [ ]
del-out k (x ∷ l) d m = go (eqb k x) (eq? k x) m (del-out k l d.1)
  where
    go : (t : Bool) → Eq? k x t → In k (cond t l (x ∷ del k l)) → ¬ In k (del k l) → ⊥
    go true (same e) m o = d.0 (Memᴰ.cast (sym e) m)
    go false (differs n) (here e) o = n e
    go false (differs n) (there m) o = o m

del-distinct : (k : ℕ) (l : List ℕ) → Distinct l → Distinct (del k l)
unfolding del
del-distinct k [] d = tt
del-distinct k (x ∷ l) d = go (eqb k x) (del-distinct k l d.1)
  where
    go : (t : Bool) → Distinct (del k l) → Distinct (cond t l (x ∷ del k l))
    go true h = d.1
    go false h = (λ m. d.0 (in_del k l m), h)

pub distinct-size : (n : ℕ) (l : List ℕ) → Distinct l → ((k : ℕ) → In k l → k < n) → length l ≤ n
distinct-size zero [] d b = omega arith
distinct-size zero (x ∷ l) d b = absurd (let h = b x (here refl) in omega arith)
distinct-size (suc n) l d b =
    let s = del-size n l in
    let r = distinct-size n (del n l) (del-distinct n l d) (λ k m. keep k m (b k (in_del n l m)) (ℕ_discrete k n)) in
    omega arith
  where
    keep : (k : ℕ) → In k (del n l) → k < suc n → Dec (k ≡ n) → k < n
    keep k m h (yes e) = absurd (del-out n l d (Memᴰ.cast (sym e) m))
    keep k m h (no e) = omega arith

pub pigeon : (n : ℕ) (l : List ℕ) → Distinct l → ((k : ℕ) → In k l → k < n) → n ≤ length l → (k : ℕ) → k < n → In k l
pigeon n l d b s k h = go (in? k l)
  where
    below : (j : ℕ) → In j (k ∷ l) → j < n
    below j (here e) = omega arith
    below j (there m) = b j m

    go : Dec (In k l) → In k l
    go (yes m) = m
    go (no o) = absurd (let z = distinct-size n (k ∷ l) (o, d) below in omega arith)

-- ---- where an entry stands

pub index_of : {k : ℕ} (l : List ℕ) → In k l → (p : ℕ) × (p < length l) × (get_or l p 0 ≡ k)
index_of {k = k} [] x' = elim x' [ ]
index_of (x ∷ l) (here e) = (0, omega arith, sym e)
index_of (x ∷ l) (there m) = let r = index_of l m in (suc r.0, omega (arith, r.1), r.2)

-- an entry of those from `at` on
pub record At (array : List ℕ) (at k : ℕ) : Type 0 where
  pub place : ℕ
  pub after : at ≤ place
  pub inside : place < length array
  pub here_it : get_or array place 0 ≡ k

pub at_of : (array : List ℕ) (at k : ℕ) → In k (drop at array) → At array at k
at_of array at k m =
    let r = index_of (drop at array) m in
    let h : r.0 < length (drop at array) = r.1 in
    let g = simp length-drop at h in
    record {
      place = at + r.0;
      after = omega arith;
      inside = omega arith;
      here_it = sym (get_or-drop at array r.0 0) ∙ r.2;
    }
