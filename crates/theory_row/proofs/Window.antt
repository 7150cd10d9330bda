-- Theorems on the definitions of specs/Window.
-- Which file position may be placed next: the window of marks. Positions and places count from 0.
-- With i positions placed, digit j of the marks m stands for position i + j - (R + 1), for j from 0
-- to 2 R: positions before the row count as placed.
use Rattle.std.specs.Prelude.{◌≡◌, refl, ◌≢◌, length}
use Rattle.std.proofs.Math.Path.{sym}
use Rattle.std.proofs.Common.{ap, ◌∙◌, subst, pow_pos, pow_mono}
use mathlib.Core.List.Memᴰ
use mathlib.Core.List.Memᴰ.{head as here}
use mathlib.Core.List.Memᴰ.{tail as there}
use mathlib.Core.List.{List, [], ◌∷◌, Memᴰ as In}
use Prim.Native.Nat.{ℕ, zero, suc, ◌+◌, ◌-◌, ◌*◌, ◌/◌, ◌%◌, ◌^◌, ◌≤◌, ◌<◌}
use native.Mathlib.Omega.{arith}
use Rattle.std.proofs.Math.Decide.{ℕ_discrete, dec_lt}
use Rattle.std.specs.Int.Count.{ones_step, ones-ones}
use Rattle.lists.specs.Neighbours.{near_in_lem}
use Rattle.theory_row.specs.Marks.{bit, bit-set, bit-keep, ones-set, set-lt}
use Rattle.theory_row.specs.Window.{start, step, May, Run, walk, Good, seen, Rest}

-- ---- what the marks are worth: exactly R + 1 ones in 2 R + 1 digits, the lowest among them

pub good_start : (R : ℕ) → Good R (start R)
unfolding start
good_start R = let grow : 2 ^ suc R ≤ 2 ^ suc (2 * R) = pow_mono (omega arith) in record {
  odd = omega (arith, pow_pos R);
  count = ones-ones (suc R);
  small = omega (arith, pow_pos (suc R), grow);
}

pub good-step : (R n i m k : ℕ) → Good R m → May R n i m k → Good R (step R i m k)
unfolding step
good-step R n i m k g a =
    let e = ones-set (k + R - i) (m / 2) a.free in
    let s = ones_step m in
    let o = g.odd in
    let c = g.count in
    let t = g.small in
    let l = a.low in
    let h = a.high in
    record {
      odd = a.kept;
      count = omega arith;
      small = set-lt (suc (2 * R)) (k + R - i) (m / 2) a.free (omega arith) (omega arith);
    }

pub good-walk : (R n i m : ℕ) (l : List ℕ) → Good R m → Run R n i m l → Good R (walk R i m l)
good-walk R n i m [] g r = g
good-walk R n i m (k ∷ l) g r = good-walk R n (suc i) (step R i m k) l (good-step R n i m k g r.0) r.1

-- ---- all the positions' marks: i ones and then the digits of m. Position k has the mark number k + R + 1

pub seen_at : (i m q j : ℕ) → q ≡ i + j → seen i m q ≡ bit m j
unfolding seen
seen_at zero m q j e = ap (bit m) (omega arith)
seen_at (suc i) m zero j e = absurd (omega arith)
seen_at (suc i) m (suc q) j e = seen_at i m q j (omega arith)

pub seen_low : (i m q : ℕ) → q < i → seen i m q ≡ 1
unfolding seen
seen_low zero m q h = absurd (omega arith)
seen_low (suc i) m zero h = refl
seen_low (suc i) m (suc q) h = seen_low i m q (omega arith)

pub seen_here : (i m q : ℕ) → m % 2 ≡ 1 → q ≤ i → seen i m q ≡ 1
unfolding bit
seen_here i m q o h = go (ℕ_discrete q i)
  where
    go : Dec (q ≡ i) → seen i m q ≡ 1
    go (yes e) = seen_at i m q 0 (omega arith) ∙ o
    go (no d) = seen_low i m q (omega arith)

module _ (R n i m k : ℕ) (a : May R n i m k) where
  pub seen-set : seen (suc i) (step R i m k) (k + suc R) ≡ 1
  unfolding step
  seen-set =
      let l = a.low in
      seen_at (suc i) (step R i m k) (k + suc R) (k + R - i) (omega arith) ∙ bit-set (k + R - i) (m / 2) a.free

  pub seen-keep : (q : ℕ) → m % 2 ≡ 1 → q ≢ k + suc R → seen (suc i) (step R i m k) q ≡ seen i m q
  unfolding step bit
  seen-keep q o d = go (dec_lt i q)
    where
      l : i ≤ k + R
      l = a.low

      go : Dec (i < q) → seen (suc i) (step R i m k) q ≡ seen i m q
      go (yes h) =
          seen_at (suc i) (step R i m k) q (q - suc i) (omega arith)
          ∙ bit-keep (k + R - i) (q - suc i) (m / 2) a.free (omega arith)
          ∙ sym (seen_at i m q (suc (q - suc i)) (omega arith))
      go (no h) = seen_here (suc i) (step R i m k) q a.kept (omega arith) ∙ sym (seen_here i m q o (omega arith))

-- ---- what the rest of an arrangement is, from the marks m on, and that it is just a run

module _ (R n i m k : ℕ) (l : List ℕ) (o : m % 2 ≡ 1) where
  -- the position that would leave the window is marked, or is k itself
  due-next : ((q : ℕ) → q ≤ R → seen i m q ≡ 1) → Rest R n i m (k ∷ l) → i < k + R → m / 2 % 2 ≢ 0
  unfolding bit
  due-next pad r h z = go (dec_lt i R)
    where
      out : seen i m (suc i) ≡ 0
      out = seen_at i m (suc i) 1 (omega arith) ∙ z

      late : In (i - R) (k ∷ l) → R ≤ i → ⊥
      late (here e) g = omega arith
      late (there p) g = let f = near_in_lem R (suc i) l r.near.2 p in omega arith

      go : Dec (i < R) → ⊥
      go (yes g) = let p = pad (suc i) g in omega (arith, out)
      go (no g) = late (r.due (i - R) (omega arith) (subst (λ x. seen i m x ≡ 0) (omega arith) out)) (omega arith)

  may_kept : (j : ℕ) → bit (m / 2) j ≡ 0 → (0 < j → m / 2 % 2 ≢ 0) → (m / 2 + 2 ^ j) % 2 ≡ 1
  unfolding bit
  may_kept zero f d = omega arith
  may_kept (suc j) f d = let g = d (omega arith) in omega arith

  rest_may : ((q : ℕ) → q ≤ R → seen i m q ≡ 1) → Rest R n i m (k ∷ l) → May R n i m k
  unfolding step bit
  rest_may pad r =
      let h = r.near.1 in
      let f = sym (seen_at i m (k + suc R) (suc (k + R - i)) (omega arith)) ∙ r.fresh k (here refl) in
      record {
        inside = r.below k (here refl);
        low = h;
        high = r.near.0;
        free = f;
        kept = may_kept (k + R - i) f (λ g. due-next pad r (omega arith));
      }

  rest-tail : May R n i m k → Rest R n i m (k ∷ l) → Rest R n (suc i) (step R i m k) l
  rest-tail a r = record {
    near = r.near.2;
    distinct = r.distinct.1;
    below = λ j p. r.below j (there p);
    fresh = λ j p. seen-keep R n i m k a (j + suc R) o (other j p) ∙ r.fresh j (there p);
    due = λ j h z. pick j h z (ℕ_discrete j k);
  }
    where
      other : (j : ℕ) → In j l → j + suc R ≢ k + suc R
      other j p e = r.distinct.0 (Memᴰ.cast (omega arith) p)

      tail : {j : ℕ} → j ≢ k → In j (k ∷ l) → In j l
      tail d (here e) = absurd (d e)
      tail d (there p) = p

      pick : (j : ℕ) → j + R < suc i + length l → seen (suc i) (step R i m k) (j + suc R) ≡ 0 → Dec (j ≡ k) → In j l
      pick j h z (yes e) =
          let w : seen (suc i) (step R i m k) (j + suc R) ≡ 1 = rw e (seen-set R n i m k a) in
          absurd (omega arith)
      pick j h z (no d) = tail d (r.due j (omega arith) (sym (seen-keep R n i m k a (j + suc R) o (omega arith)) ∙ z))

  tail-rest : May R n i m k → Rest R n (suc i) (step R i m k) l → Rest R n i m (k ∷ l)
  unfolding bit
  tail-rest a r = record {
    near = (a.high, a.low, r.near);
    distinct = (not_in, r.distinct);
    below = below';
    fresh = fresh';
    due = λ j h z. due' j h z (ℕ_discrete j k);
  }
    where
      not_in : ¬ In k l
      not_in p = let e = seen-set R n i m k a in let z = r.fresh k p in omega arith

      below' : (j : ℕ) → In j (k ∷ l) → j < n
      below' j (here e) = let h = a.inside in omega arith
      below' j (there p) = r.below j p

      fresh-k : seen i m (k + suc R) ≡ 0
      fresh-k = let h = a.low in seen_at i m (k + suc R) (suc (k + R - i)) (omega arith) ∙ a.free

      fresh' : (j : ℕ) → In j (k ∷ l) → seen i m (j + suc R) ≡ 0
      fresh' j (here e) = rw e fresh-k
      fresh' j (there p) = go (ℕ_discrete j k)
        where
          go : Dec (j ≡ k) → seen i m (j + suc R) ≡ 0
          go (yes e) = absurd (not_in (Memᴰ.cast (sym e) p))
          go (no d) = sym (seen-keep R n i m k a (j + suc R) o (omega arith)) ∙ r.fresh j p

      due' : (j : ℕ) → j + R < i + suc (length l) → seen i m (j + suc R) ≡ 0 → Dec (j ≡ k) → In j (k ∷ l)
      due' j h z (yes e) = here e
      due' j h z (no d) = there (r.due j (omega arith) (seen-keep R n i m k a (j + suc R) o (omega arith) ∙ z))

pub rest-run : (R n i m : ℕ) (l : List ℕ) → m % 2 ≡ 1 → ((q : ℕ) → q ≤ R → seen i m q ≡ 1)
    → Rest R n i m l → Run R n i m l
rest-run R n i m [] o pad r = tt
rest-run R n i m (k ∷ l) o pad r =
    let a = rest_may R n i m k l o pad r in (
      a,
      rest-run R n (suc i) (step R i m k) l a.kept (λ q h. pad' q h (ℕ_discrete q (k + suc R)) a)
          (rest-tail R n i m k l o a r),
    )
  where
    pad' : (q : ℕ) → q ≤ R → Dec (q ≡ k + suc R) → May R n i m k → seen (suc i) (step R i m k) q ≡ 1
    pad' q h (yes e) a = absurd (omega arith)
    pad' q h (no d) a = seen-keep R n i m k a q o d ∙ pad q h

pub run-rest : (R n i m : ℕ) (l : List ℕ) → m % 2 ≡ 1 → Run R n i m l → Rest R n i m l
run-rest R n i m [] o r = record {
  near = tt;
  distinct = tt;
  below = λ k p. elim p [ ];
  fresh = λ k p. elim p [ ];
  due = λ k h z. absurd (let e = seen_here i m (k + suc R) o (omega arith) in omega arith);
}
run-rest R n i m (k ∷ l) o r =
    tail-rest R n i m k l o r.0 (run-rest R n (suc i) (step R i m k) l r.0.kept r.1)
