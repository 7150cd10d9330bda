-- The signed sum of displacements, from how the cells stand, and drift from that sum.
use Rattle.std.specs.Prelude.{ℕ, zero, suc, ◌*◌, ◌/◌, ◌%◌, ◌≤◌, ◌<◌, ◌^◌, ◌≡◌, refl, Bool, true, false, cond, List, length, ltb, eqb, ℤ, pos, nat_abs, ◌+ℤ◌, ◌-ℤ◌}
use Rattle.std.proofs.Common.{sym, ap, ap₂, ◌∙◌, arith, div-le_self}
use Rattle.definition.specs.Job.{max_cells, max_given}
use Rattle.definition.specs.Lists.{from}
use Rattle.definition.specs.Job as paper
use Rattle.definition.specs.Placement as text
use Rattle.definition.specs.Cost.{nearest, hundredths, total_shift, drift}
use Rattle.score_order.specs.declared.Stand.{Stand}
use Rattle.score_order.specs.Words.{site_in, given_in}
use Rattle.score_words.specs.Flat.{Flat}

-- site minus given, of the n cells from k on
unfoldable pub total_in : List Stand → ℕ → ℕ → ℤ
total_in stands k zero = pos 0
total_in stands k (suc n) = (pos (site_in stands k) -ℤ pos (given_in stands k)) +ℤ total_in stands (suc k) n

-- cells whose sites have four digits, and whose given sites are in range
pub record Digits (stands : List Stand) : Type 0 where
  pub few : length stands ≤ max_cells
  pub site : (k : ℕ) → k < length stands → site_in stands k ≤ 9999
  pub given : (k : ℕ) → k < length stands → given_in stands k ≤ max_given

-- such a site, and such a given site
pub record InRange (s g : ℕ) : Type 0 where
  pub site : s ≤ 9999
  pub given : g ≤ max_given

-- a sum of displacements that is not large, and the number of its cells
pub record SumOver (s : ℤ) (n : ℕ) : Type 0 where
  pub small : nat_abs s ≤ 1000000
  pub few : n ≤ max_cells

-- the size of a sum of displacements, and the number of cells, not 0, that its average is taken over
pub record Average (d n : ℕ) : Type 0 where
  pub small : d ≤ 1000000
  pub some : 0 < n
  pub few : n ≤ max_cells

-- a sum over n cells, in hundredths of a site
abbrev pub drift_of : ℤ → ℕ → ℤ
drift_of s n = cond (eqb n 0) (pos 0) (hundredths s n)

-- r is the sum of the displacements of all cells, and not large
pub record Displaced (stands : List Stand) (r : ℤ) : Type 0 where
  pub total : r ≡ total_in stands 0 (length stands)
  pub small : nat_abs r ≤ 1000000

-- a size in hundredths is not large: what is added to the whole part is at most 1
either-small : (t : Bool) (x y : ℕ) → x ≤ 1 → y ≤ 1 → cond t x y ≤ 1
either-small true x y p q = p
either-small false x y p q = q

pub hundredths-small : {d n : ℕ} → Average d n → nearest (100 * d) n < 2 ^ 31
hundredths-small {d} {n} a =
    let r : ℕ = 2 * (100 * d % n) in
    let odd : ℕ = 100 * d / n % 2 in
    let inner = either-small (eqb r n) odd 1 (omega arith) (omega arith) in
    let added = either-small (ltb r n) 0 (cond (eqb r n) odd 1) (omega arith) inner in
    omega (arith, a.small, div-le_self (100 * d) n, added)

-- one more cell, and none
pub total-more : (stands : List Stand) (i k n m : ℕ) → k ≡ suc i → n ≡ suc m
    → total_in stands i n ≡ (pos (site_in stands i) -ℤ pos (given_in stands i)) +ℤ total_in stands k m
unfolding total_in
total-more stands i k n m e f = rw (f, e)

pub total-none : (stands : List Stand) (k n : ℕ) → n ≡ 0 → total_in stands k n ≡ pos 0
unfolding total_in
total-none stands k n e = rw e

-- ---- they are the definition's

module _ {j : paper.Job} {P : text.Placement} {stands : List Stand} (f : Flat j P stands) where
  pub flat-total : (k m : ℕ) → total_in stands k m ≡ total_shift j P (from k m)
  unfolding total_in total_shift
  flat-total k zero = refl
  flat-total k (suc m) =
      ap₂ ◌+ℤ◌ (ap₂ (λ x y. pos x -ℤ pos y) (f.shows k).site (f.shows k).given) (flat-total (suc k) m)

  pub flat-drift : drift_of (total_in stands 0 (length stands)) (length stands) ≡ drift j P
  unfolding drift
  flat-drift =
      ap₂ drift_of (flat-total 0 (length stands) ∙ ap (λ m. total_shift j P (from 0 m)) (sym f.count)) (sym f.count)
