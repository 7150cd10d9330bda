-- Theorems on the definitions of specs/History.
-- The mark array as the paper has it, from the positions placed so far, and that it is what the window carries along.
use Rattle.std.specs.Prelude.{◌≡◌, refl, ◌≢◌, ◌↔◌, Bool, true, false, cond, length, leb, eqb}
use Rattle.std.proofs.Common.{sym, ap, ◌∙◌, subst, arith}
use mathlib.Core.List.Memᴰ.{head as here}
use mathlib.Core.List.Memᴰ.{tail as there}
use mathlib.Core.List.{List, [], ◌∷◌, Memᴰ as In}
use Prim.Native.Nat.{ℕ, zero, suc, ◌+◌, ◌-◌, ◌*◌, ◌/◌, ◌%◌, ◌^◌, ◌≤◌, ◌<◌}
use Rattle.std.proofs.Math.Decide.{ℕ_discrete}
use Rattle.std.specs.Int.Count.{ones}
use Rattle.lists.specs.Compare.{Le?, low, high, le?, Eq?, same, differs, eq?}
use Rattle.theory_row.specs.Marks.{bit, bit-lt}
use Rattle.theory_row.specs.Window.{start, step, Run, walk}
use Rattle.theory_row.specs.Arranged.{Partial}
use Rattle.theory_row.proofs.Arranged.{partial_run}
use Rattle.theory_row.specs.Window.{seen}
use Rattle.theory_row.proofs.Window.{seen_at, seen-keep, seen-set}
use Rattle.theory_row.proofs.Arranged.{start_pad}
use Rattle.theory_row.proofs.Window.{good_start}
use Rattle.theory_row.proofs.Arranged.{window-here, window-count, window-small}
use Rattle.theory_row.specs.History.{has, mark, digits, marks}

digits-bit : (d : ℕ) (f : ℕ → ℕ) (m : ℕ) → m < 2 ^ d → ((j : ℕ) → j < d → f j ≡ bit m j) → digits d f ≡ m
unfolding digits bit
digits-bit zero f m h g = omega arith
digits-bit (suc d) f m h g =
    let a = g 0 (omega arith) in
    let b = digits-bit d (λ j. f (suc j)) (m / 2) (omega arith) (λ j l. g (suc j) (omega arith)) in
    omega arith

has_in : (k : ℕ) (h : List ℕ) (b : ℕ) → b < 2 → In k h ↔ (b ≡ 1) → has k h ≡ b
unfolding has
has_in k [] b l e = zero_of (λ z. elim (e.1 z) [ ])
  where
    zero_of : b ≢ 1 → 0 ≡ b
    zero_of d = omega arith
has_in k (x ∷ h) b l e = go (eqb k x) (eq? k x) (λ e'. has_in k h b l e')
  where
    tail : k ≢ x → In k (x ∷ h) → In k h
    tail d (here p) = absurd (d p)
    tail d (there m) = m

    go : (t : Bool) → Eq? k x t → (In k h ↔ (b ≡ 1) → has k h ≡ b) → cond t 1 (has k h) ≡ b
    go true (same p) f = sym (e.0 (here p))
    go false (differs d) f = f (λ m. e.0 (there m), λ z. tail d (e.1 z))

-- what is marked stays marked
walk-one : (R n i m q e : ℕ) (l : List ℕ) → e ≡ i + length l → m % 2 ≡ 1 → Run R n i m l → seen i m q ≡ 1
    → seen e (walk R i m l) q ≡ 1
walk-one R n i m q e [] z o r h = subst (λ x. seen x m q ≡ 1) (omega arith) h
walk-one R n i m q e (x ∷ l) z o r h =
    walk-one R n (suc i) (step R i m x) q e l (omega arith) r.0.kept r.1 (go (ℕ_discrete q (x + suc R)))
  where
    go : Dec (q ≡ x + suc R) → seen (suc i) (step R i m x) q ≡ 1
    go (yes d) = rw d (seen-set R n i m x r.0)
    go (no d) = seen-keep R n i m x r.0 q o d ∙ h

module _ (R n : ℕ) (h : List ℕ) (p : Partial R n h) where
  mark-bit : (j : ℕ) → mark R h j ≡ bit (walk R 0 (start R) h) j
  unfolding mark
  mark-bit j = go (leb (length h + j) R) (le? (length h + j) R)
    where
      m : ℕ
      m = walk R 0 (start R) h

      before : length h + j ≤ R → seen (length h) m (length h + j) ≡ 1
      before g = walk-one R n 0 (start R) (length h + j) (length h) h (omega arith) (good_start R).odd
          (partial_run R n h p) (start_pad R (length h + j) g)

      go : (t : Bool) → Le? (length h + j) R t → cond t 1 (has (length h + j - suc R) h) ≡ bit m j
      go true (low g) = sym (before g) ∙ seen_at (length h) m (length h + j) j refl
      go false (high g) = has_in (length h + j - suc R) h (bit m j) (bit-lt j m)
          (window-here R n h p (length h + j - suc R) j (omega arith))

  -- the window carries the mark array along
  pub marks-walk : marks R h ≡ walk R 0 (start R) h
  unfolding marks
  marks-walk = digits-bit (suc (2 * R)) (mark R h) (walk R 0 (start R) h) (window-small R n h p) (λ j l. mark-bit j)

  -- the mark array has exactly R + 1 ones
  pub marks-ones : ones (marks R h) ≡ suc R
  marks-ones = ap ones marks-walk ∙ window-count R n h p
