-- Theorems on the definitions of specs/FileOrder.
-- A row with R = 0 stands in file order: what its rules say of neighbouring positions and of its ends, and the way
-- back.
use Prim.Native.Nat.{ℕ, zero, suc, ◌+◌, ◌≤◌, ◌<◌}
use Rattle.std.specs.Prelude.{◌≡◌, refl, Bool, true, List, [], ◌∷◌, length}
use Rattle.std.proofs.Common.{sym, ap, ap₂, ◌∙◌, arith}
use Rattle.std.proofs.Math.Path.{subst}
use Rattle.std.proofs.Math.Decide.{ℕ_discrete}
use Rattle.lists.specs.Numbers.{from, length_from, in_from, from_in}
use Rattle.lists.specs.Membership.{distinct_from}
use Rattle.lists.specs.Neighbours.{Next, Chain, Near}
use Rattle.theory_row.specs.Order.{order}
use Rattle.theory_row.specs.Arranged.{Arranged}
use Rattle.theory_row.proofs.Arranged.{arranged-run}
use Rattle.theory_row.specs.Row.{Fits, LegalSites}
use Rattle.theory_row.proofs.Row.{legal-run, legal-arranged, run-legal, run-order}
use Rattle.theory_pair.specs.Ends.{last_from, Ended}
use Rattle.theory_staples.specs.FileOrder.{FileLegal}

-- ---- entries that are their own index

near-from : (i : ℕ) (l : List ℕ) → Near 0 i l → l ≡ from i (length l)
unfolding from
near-from i [] h = refl
near-from i (k ∷ l) h = ap₂ ◌∷◌ (let a = h.0 in let b = h.1 in omega arith) (near-from (suc i) l h.2)

from-near : (i n : ℕ) → Near 0 i (from i n)
unfolding from
from-near i zero = tt
from-near i (suc n) = (omega arith, omega arith, from-near (suc i) n)

-- ---- neighbours among the numbers from a on

module _ (P : ℕ → ℕ → Type 0) where
  next-at : (a k q : ℕ) → Next P a (from (suc a) k) → a ≤ q → q < a + k → P q (suc q)
  unfolding from
  next-at a zero q h i l = absurd (omega arith)
  next-at a (suc k) q h i l = go (ℕ_discrete q a) (λ j. next-at (suc a) k q h.1 j (omega arith))
    where
      go : Dec (q ≡ a) → (suc a ≤ q → P q (suc q)) → P q (suc q)
      go (yes e) f = subst (λ x. P x (suc x)) (sym e) h.0
      go (no d) f = f (omega arith)

  at_next : (a k : ℕ) → ((q : ℕ) → a ≤ q → q < a + k → P q (suc q)) → Next P a (from (suc a) k)
  unfolding from
  at_next a zero f = tt
  at_next a (suc k) f =
      (f a (omega arith) (omega arith), at_next (suc a) k (λ q i l. f q (omega arith) (omega arith)))

  chain-at : (n q : ℕ) → Chain P (from 0 n) → suc q < n → P q (suc q)
  unfolding from
  chain-at zero q h l = absurd (omega arith)
  chain-at (suc n) q h l = next-at 0 n q h (omega arith) (omega arith)

  at-chain : (n : ℕ) → ((q : ℕ) → suc q < n → P q (suc q)) → Chain P (from 0 n)
  unfolding from
  at-chain zero f = tt
  at-chain (suc n) f = at_next 0 n (λ q i l. f q (omega arith))

last-from : (a k : ℕ) → last_from a (from (suc a) k) ≡ a + k
unfolding from
last-from a zero = omega arith
last-from a (suc k) = let r = last-from (suc a) k in omega arith

-- ---- the rules of a row in file order, position by position

module _ (opens closes : ℕ → Bool) where
  ends_at : (n : ℕ) → Ended opens closes (from 0 n)
      → (0 < n → opens 0 ≡ true) × ((q : ℕ) → suc q ≡ n → closes q ≡ true)
  unfolding from
  ends_at zero e = (λ h. absurd (omega arith), λ q h. absurd (omega arith))
  ends_at (suc n) e =
      (λ h. e.0, λ q h. subst (λ x. closes x ≡ true) (last-from 0 n ∙ (omega arith)) e.1)

  at-ends : (n : ℕ) → (0 < n → opens 0 ≡ true) → ((q : ℕ) → suc q ≡ n → closes q ≡ true)
      → Ended opens closes (from 0 n)
  unfolding from
  at-ends zero o c = tt
  at-ends (suc n) o c =
      (o (omega arith), subst (λ x. closes x ≡ true) (sym (last-from 0 n)) (c (0 + n) (omega arith)))

module _ (site wide : ℕ → ℕ) (opens closes : ℕ → Bool) (n : ℕ) (w : (k : ℕ) → k < n → 0 < wide k) where
  in_order : LegalSites 0 site wide n → order site n ≡ from 0 n
  in_order g =
      let a = legal-arranged site wide n 0 w g.rule4 g.rule6 in
      near-from 0 (order site n) a.near ∙ ap (from 0) a.size

  pub legal_file : LegalSites 0 site wide n → Ended opens closes (order site n) → FileLegal site wide opens closes n
  legal_file g e =
      let o = in_order g in
      let c : Chain (Fits site wide) (from 0 n) = subst (Chain (Fits site wide)) o (legal-run 0 site wide n w g).1 in
      let z = ends_at opens closes n (subst (Ended opens closes) o e) in
      record { next = λ q l. chain-at (Fits site wide) n q c l; opened = z.0; closed = z.1 }

  file_arranged : Arranged 0 n (from 0 n)
  file_arranged = record {
    size = length_from 0 n;
    near = from-near 0 n;
    distinct = distinct_from 0 n;
    below = λ k m. let h = in_from 0 n m in omega arith;
    all = λ k h. from_in k 0 n (omega arith) (omega arith);
  }

  pub file_legal : FileLegal site wide opens closes n → LegalSites 0 site wide n × Ended opens closes (order site n)
  file_legal r =
      let run = arranged-run 0 n (from 0 n) file_arranged in
      let c = at-chain (Fits site wide) n r.next in
      let o = run-order 0 site wide n w (from 0 n) (length_from 0 n) run c in (
        run-legal 0 site wide n w (from 0 n) (length_from 0 n) run c,
        subst (Ended opens closes) (sym o) (at-ends opens closes n r.opened r.closed),
      )
