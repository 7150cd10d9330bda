-- Theorems on the definitions of specs/Arranged.
-- Whole lists by the window's marks: a list from the beginning, what the marks say after it, one more position, and
-- whole arrangements.
use Rattle.std.specs.Prelude.{◌≡◌, ◌↔◌, ◌⊎◌, ℕ, suc, ◌+◌, ◌*◌, ◌%◌, ◌^◌, ◌≤◌, ◌<◌, length}
use Rattle.std.proofs.Common.{sym, ap, ◌∙◌, subst, inl, inr, arith}
use mathlib.Core.List.Memᴰ.{head as here}
use mathlib.Core.List.Memᴰ.{tail as there}
use mathlib.Core.List.{List, [], ◌∷◌, ◌++◌, Memᴰ as In}
use Rattle.std.proofs.Math.Decide.{ℕ_discrete}
use Rattle.std.specs.Int.Count.{ones}
use Rattle.lists.specs.Membership.{pigeon}
use Rattle.theory_row.specs.Marks.{bit, bit_full, bit-above}
use Rattle.theory_row.specs.Window.{start, step, May, Run, walk}
use Rattle.theory_row.proofs.Window.{good_start, good-walk}
use Rattle.theory_row.specs.Window.{seen}
use Rattle.theory_row.proofs.Window.{seen_at, seen-set, seen-keep, rest-run, run-rest}
use Rattle.theory_row.specs.Arranged.{Partial, Arranged}

pub start_pad : (R q : ℕ) → q ≤ R → seen 0 (start R) q ≡ 1
unfolding seen start
start_pad R q h = bit_full (suc R) q (omega arith)

pub start-free : (R k : ℕ) → seen 0 (start R) (k + suc R) ≡ 0
unfolding seen start
start-free R k = bit-above (suc R) (k + suc R) (omega arith)

pub partial_run : (R n : ℕ) (h : List ℕ) → Partial R n h → Run R n 0 (start R) h
partial_run R n h p = rest-run R n 0 (start R) h (good_start R).odd (start_pad R) record {
  near = p.near;
  distinct = p.distinct;
  below = p.below;
  fresh = λ k q. start-free R k;
  due = λ k g z. p.due k (omega arith);
}

pub run_partial : (R n : ℕ) (h : List ℕ) → Run R n 0 (start R) h → Partial R n h
run_partial R n h r =
    let s = run-rest R n 0 (start R) h (good_start R).odd r in
    record {
      near = s.near;
      distinct = s.distinct;
      below = s.below;
      due = λ k g. s.due k (omega arith) (start-free R k);
    }

-- ---- what the marks say after h: position k is in h just if its mark is set

pub walk-seen : (R n i m k e : ℕ) (l : List ℕ) → e ≡ i + length l → m % 2 ≡ 1 → Run R n i m l
    → (seen i m (k + suc R) ≡ 1) ⊎ In k l → seen e (walk R i m l) (k + suc R) ≡ 1
walk-seen R n i m k e [] z o r (inr x5) = elim x5 [ ]
walk-seen R n i m k e [] z o r (inl h) = subst (λ x. seen x m (k + suc R) ≡ 1) (omega arith) h
walk-seen R n i m k e (x ∷ l) z o r h =
    walk-seen R n (suc i) (step R i m x) k e l (omega arith) r.0.kept r.1 (go h (ℕ_discrete k x))
  where
    go : (seen i m (k + suc R) ≡ 1) ⊎ In k (x ∷ l) → Dec (k ≡ x)
        → (seen (suc i) (step R i m x) (k + suc R) ≡ 1) ⊎ In k l
    go h (yes d) = inl (rw d (seen-set R n i m x r.0))
    go (inl h) (no d) = inl (seen-keep R n i m x r.0 (k + suc R) o (omega arith) ∙ h)
    go (inr (here d')) (no d) = absurd (d d')
    go (inr (there p)) (no d) = inr p

pub seen-walk : (R n i m k e : ℕ) (l : List ℕ) → e ≡ i + length l → m % 2 ≡ 1 → Run R n i m l
    → seen e (walk R i m l) (k + suc R) ≡ 1 → (seen i m (k + suc R) ≡ 1) ⊎ In k l
seen-walk R n i m k e [] z o r h = inl (subst (λ x. seen x m (k + suc R) ≡ 1) (omega arith) h)
seen-walk R n i m k e (x ∷ l) z o r h =
    go (seen-walk R n (suc i) (step R i m x) k e l (omega arith) r.0.kept r.1 h) (ℕ_discrete k x)
  where
    go : (seen (suc i) (step R i m x) (k + suc R) ≡ 1) ⊎ In k l → Dec (k ≡ x)
        → (seen i m (k + suc R) ≡ 1) ⊎ In k (x ∷ l)
    go h (yes d) = inr (here d)
    go (inl h) (no d) = inl (sym (seen-keep R n i m x r.0 (k + suc R) o (omega arith)) ∙ h)
    go (inr p) (no d) = inr (there p)

module _ (R n : ℕ) (h : List ℕ) (p : Partial R n h) where
  r : Run R n 0 (start R) h
  r = partial_run R n h p

  -- the marks after h have exactly R + 1 ones
  pub window-count : ones (walk R 0 (start R) h) ≡ suc R
  window-count = (good-walk R n 0 (start R) h (good_start R) r).count

  pub window-small : walk R 0 (start R) h < 2 ^ suc (2 * R)
  window-small = (good-walk R n 0 (start R) h (good_start R) r).small

  pub window_in : (k : ℕ) → In k h ↔ (seen (length h) (walk R 0 (start R) h) (k + suc R) ≡ 1)
  window_in k = (
    λ q. walk-seen R n 0 (start R) k (length h) h (omega arith) (good_start R).odd r (inr q),
    λ s. go (seen-walk R n 0 (start R) k (length h) h (omega arith) (good_start R).odd r s),
  )
    where
      go : (seen 0 (start R) (k + suc R) ≡ 1) ⊎ In k h → In k h
      go (inl e) = absurd (omega (arith, start-free R k))
      go (inr q) = q

  -- in words: a position left of the window is in h, one in the window just if
  -- its digit is 1, and one right of it is not
  pub window-left : (k : ℕ) → k + R < length h → In k h
  window-left k g = p.due k g

  pub window-here : (k j : ℕ) → k + suc R ≡ length h + j → In k h ↔ (bit (walk R 0 (start R) h) j ≡ 1)
  window-here k j e =
      let b = seen_at (length h) (walk R 0 (start R) h) (k + suc R) j e in
      (λ q. sym b ∙ (window_in k).0 q, λ s. (window_in k).1 (b ∙ s))

-- ---- one more position after h: whether it may be placed depends on the length and the marks alone

pub run_append : (R n i m e : ℕ) (l t : List ℕ) → e ≡ i + length l
    → Run R n i m (l ++ t) ↔ (Run R n i m l × Run R n e (walk R i m l) t)
run_append R n i m e [] t z =
    (λ r. (tt, subst (λ x. Run R n x m t) (omega arith) r), λ r. subst (λ x. Run R n x m t) (omega arith) r.1)
run_append R n i m e (k ∷ l) t z =
    let b = run_append R n (suc i) (step R i m k) e l t (omega arith) in
    (λ r. let c = b.0 r.1 in ((r.0, c.0), c.1), λ r. (r.0.0, b.1 (r.0.1, r.1)))

pub next-after : (R n k : ℕ) (h : List ℕ) → Partial R n h
    → Partial R n (h ++ (k ∷ [])) ↔ May R n (length h) (walk R 0 (start R) h) k
next-after R n k h p =
    let b = run_append R n 0 (start R) (length h) h (k ∷ []) (omega arith) in (
      λ q. (b.0 (partial_run R n (h ++ (k ∷ [])) q)).1.0,
      λ a. run_partial R n (h ++ (k ∷ [])) (b.1 (partial_run R n h p, (a, tt))),
    )

-- ---- whole arrangements

pub arranged-run : (R n : ℕ) (l : List ℕ) → Arranged R n l → Run R n 0 (start R) l
arranged-run R n l a =
    let s = a.size in
    partial_run R n l
    record { near = a.near; distinct = a.distinct; below = a.below; due = λ k h. a.all k (omega arith) }

pub run-arranged : (R n : ℕ) (l : List ℕ) → length l ≡ n → Run R n 0 (start R) l → Arranged R n l
run-arranged R n l s r =
    let p = run_partial R n l r in
    record {
      size = s;
      near = p.near;
      distinct = p.distinct;
      below = p.below;
      all = pigeon n l p.distinct p.below (omega arith);
    }

-- what has been placed at any time on the way to an arrangement
pub prefix_partial : (R n : ℕ) (h t : List ℕ) → Arranged R n (h ++ t) → Partial R n h
prefix_partial R n h t a =
    run_partial R n h ((run_append R n 0 (start R) (length h) h t (omega arith)).0 (arranged-run R n (h ++ t) a)).0

-- ---- the test that a program makes

pub walk_append : (R i m e : ℕ) (l t : List ℕ) → e ≡ i + length l → walk R i m (l ++ t) ≡ walk R e (walk R i m l) t
walk_append R i m e [] t z = ap (λ x. walk R x m t) (omega arith)
walk_append R i m e (k ∷ l) t z = walk_append R (suc i) (step R i m k) e l t (omega arith)
