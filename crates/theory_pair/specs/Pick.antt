-- The entries of a list that pass a test; and the marks that have R + 1 ones, the lowest among them.
use Rattle.std.proofs.Math.Path.{◌≡◌, refl, ap}
use Rattle.std.proofs.Common.{sym, ◌∙◌, arith}
use Rattle.std.specs.Prelude.{Bool, cond, ◌&&◌, ℕ, suc, ◌*◌, ◌%◌, ◌^◌, eqb}
use mathlib.Core.List.Memᴰ.{head as here}
use mathlib.Core.List.Memᴰ.{tail as there}
use mathlib.Core.List.{List, [], ◌∷◌, Memᴰ as In}
use Rattle.std.proofs.Math.Bool.{true, false}
use Rattle.std.specs.Int.Count.{ones}
use Rattle.lists.specs.Numbers.{from}
use Rattle.lists.specs.Neighbours.{Pairs}

unfoldable pub pick : (ℕ → Bool) → List ℕ → List ℕ
pick f [] = []
pick f (k ∷ l) = cond (f k) (k ∷ pick f l) (pick f l)

module _ (f : ℕ → Bool) where
  pub pick_in : {k : ℕ} (l : List ℕ) → In k (pick f l) → In k l × (f k ≡ true)
  unfolding pick
  pick_in {k = k} [] m = elim m [ ]
  pick_in {k} (x ∷ l) m = go (f x) refl m (pick_in l)
    where
      go : (t : Bool) → f x ≡ t → In k (cond t (x ∷ pick f l) (pick f l)) → (In k (pick f l) → In k l × (f k ≡ true))
          → In k (x ∷ l) × (f k ≡ true)
      go true e (here z) g = (here z, ap f z ∙ e)
      go true e (there q) g = let r = g q in (there r.0, r.1)
      go false e q g = let r = g q in (there r.0, r.1)

  pub in_pick : {k : ℕ} (l : List ℕ) → In k l → f k ≡ true → In k (pick f l)
  unfolding pick
  in_pick {k = k} [] x'' e = elim x'' [ ]
  in_pick {k} (x ∷ l) (here z) e = go (f x) (sym (ap f z) ∙ e)
    where
      go : (t : Bool) → t ≡ true → In k (cond t (x ∷ pick f l) (pick f l))
      go true h = here z
      go false h = absurd (let y : ◌≡◌ {A = ℕ} 0 1 = cc in omega arith)
  in_pick {k} (x ∷ l) (there m) e = go (f x) (in_pick l m e)
    where
      go : (t : Bool) → In k (pick f l) → In k (cond t (x ∷ pick f l) (pick f l))
      go true h = there h
      go false h = h

  pub pick_pairs : (P : ℕ → ℕ → Type 0) (l : List ℕ) → Pairs P l → Pairs P (pick f l)
  unfolding pick
  pick_pairs P [] h = tt
  pick_pairs P (x ∷ l) h = go (f x) (pick_pairs P l h.1)
    where
      go : (t : Bool) → Pairs P (pick f l) → Pairs P (cond t (x ∷ pick f l) (pick f l))
      go true r = (λ k m. h.0 k (pick_in l m).0, r)
      go false r = r

-- ---- the marks

-- the marks of 2 R + 1 digits with R + 1 ones, the lowest digit among them
unfoldable pub good_marks : ℕ → List ℕ
good_marks R = pick (λ m. eqb (m % 2) 1 && eqb (ones m) (suc R)) (from 0 (2 ^ suc (2 * R)))
