-- Theorems on the definitions of specs/Runs.
-- The ways on by a row's next cell, for every end of the cell before it: what the next cell covers anew does not depend
-- on that end, only which of its sites are left does. So the least values from the right answer for every end.
use Prim.Native.Nat.{ℕ, zero, suc, ◌+◌, ◌-◌, min, max, ◌≤◌, ◌<◌}
use Rattle.std.specs.Prelude.{◌≡◌, ◌≢◌, Bool, true, false, not, ◌&&◌, leb, eqb}
use Rattle.std.proofs.Math.Path.{refl}
use Rattle.std.proofs.Common.{ap, le-leb}
use Rattle.std.proofs.Math.Bool.{cond}
use native.Mathlib.Omega.{arith}
use Rattle.std.proofs.Math.Decide.{ℕ_discrete}
use Rattle.lists.specs.Compare.{Le?, low, high, le?, Eq?, same, differs, eq?}
use Rattle.lists.specs.Numbers.{from, in_from, from_in}
use Rattle.theory_pair.specs.Coded.{lowest-low}
use Rattle.theory_tables.specs.Steps.{B}
use Rattle.theory_tables.specs.Lowest.{lowest-member, lowest-above, loop_member, loop_above}
use Rattle.theory_tables.proofs.Spots.{both-and, cond_yes}
use Rattle.theory_cover.specs.FileRow.{FileRow, Follows}
use Rattle.theory_cover.specs.Recurrence.{clears, may_follow, cover_by_way, onward}
use Rattle.theory_cover.proofs.Recurrence.{may_follows}
use Rattle.theory_cover.proofs.Recurrence.{onward-low, onward-below}
use Rattle.theory_cover.specs.Runs.{low_from, low_clear, way_at}

module _ (G : ℕ → ℕ) (n a g : ℕ) where
  abbrev cleared : ℕ → ℕ
  cleared t = cond (clears a (g + t)) (G t) B

  -- a bound of every value at a site that clears it is a bound of the least of them, and the other way round
  clear_above : (x : ℕ) → x ≤ B → ((t : ℕ) → t < n → a ≤ g + t → g + t ≢ suc a → x ≤ G t) → x ≤ low_clear G n a g
  clear_above x b f =
      loop_above B cleared n x b (λ t h. go t h (leb a (g + t)) (eqb (g + t) (suc a)) (le? _ _) (eq? _ _))
    where
      go : (t : ℕ) → t < n → (p q : Bool) → Le? a (g + t) p → Eq? (g + t) (suc a) q → x ≤ cond (p && not q) (G t) B
      go t h true false (low l) (differs d) = f t h l d
      go t h true true l e = b
      go t h false q l e = b

  clear-below : (t : ℕ) → t < n → a ≤ g + t → g + t ≢ suc a → low_clear G n a g ≤ G t
  clear-below t h l d = go (leb a (g + t)) (eqb (g + t) (suc a)) (le? _ _) (eq? _ _) (loop_member B cleared n t h)
    where
      go : (p q : Bool) → Le? a (g + t) p → Eq? (g + t) (suc a) q → low_clear G n a g ≤ cond (p && not q) (G t) B
          → low_clear G n a g ≤ G t
      go true false u v m = m
      go true true u (same e) m = absurd (d e)
      go false q (high z) v m = absurd (omega arith)

  clear-low : low_clear G n a g ≤ B
  clear-low = lowest-low B cleared (from 0 n)

  from-above : (k x : ℕ) → x ≤ B → ((t : ℕ) → k ≤ t → t < n → x ≤ G t) → x ≤ low_from G n k
  from-above k x b f =
      lowest-above B G x (from k (n - k)) b (λ t m. let h = in_from k (n - k) m in f t h.0 (omega arith))

  from-below : (k t : ℕ) → k ≤ t → t < n → low_from G n k ≤ G t
  from-below k t h l = lowest-member B G (from k (n - k)) (from_in t k (n - k) h (omega arith))

  from_low : (k : ℕ) → low_from G n k ≤ B
  from_low k = lowest-low B G (from k (n - k))

  -- the end is more than one site left of the first site: every site is left
  pub run-all : suc a < g → low_clear G n a g ≡ low_from G n 0
  run-all h =
      let p = clear_above (low_from G n 0) (from_low 0) (λ t l u d. from-below 0 t (omega arith) l) in
      let q = from-above 0 (low_clear G n a g) clear-low (λ t u l. clear-below t l (omega arith) (λ e. omega arith)) in
      omega arith

  -- just one site left of it: every site but the first
  pub run-next : suc a ≡ g → low_clear G n a g ≡ low_from G n 1
  run-next h =
      let p = clear_above (low_from G n 1) (from_low 1) (λ t l u d. from-below 1 t (first t d) l) in
      let q = from-above 1 (low_clear G n a g) clear-low (λ t u l. clear-below t l (omega arith) (λ e. omega arith)) in
      omega arith
    where
      first : (t : ℕ) → g + t ≢ suc a → 1 ≤ t
      first zero d = absurd (d (omega arith))
      first (suc t) d = omega arith

  -- at site number k: that one, and from two further on
  pub run_at : (k : ℕ) → g + k ≡ a → k < n → low_clear G n a g ≡ min (min (G k) B) (low_from G n (suc (suc k)))
  run_at k e h =
      let b = from_low (suc (suc k)) in
      let p = clear_above (min (min (G k) B) (low_from G n (suc (suc k)))) (omega arith)
      (λ t l u d. which t l u d (ℕ_discrete t k)) in
      let q = from-above (suc (suc k)) (low_clear G n a g) clear-low
      (λ t u l. clear-below t l (omega arith) (λ z. omega arith)) in
      omega (arith, clear-below k h (omega arith) (λ z. omega arith), clear-low)
    where
      which : (t : ℕ) → t < n → a ≤ g + t → g + t ≢ suc a → Dec (t ≡ k)
          → min (min (G k) B) (low_from G n (suc (suc k))) ≤ G t
      which t l u d (yes z) = let y = ap G z in omega arith
      which t l u d (no z) = let y = from-below (suc (suc k)) t (omega arith) l in omega arith

  -- right of every site: none
  pub run_past : g + n ≤ a → low_clear G n a g ≡ B
  run_past h = omega (arith, clear_above B (omega arith) (λ t l u d. absurd (omega arith)), clear-low)

-- ---- the ways on by cell p of a row

-- sites go up by one, that with number t is k left of g + t; the cell before starts at y and ends at a, and c is where
-- the cell that is added last starts
module _ (L : FileRow) (p a b c y z g k : ℕ) (rest : ℕ → ℕ) where
  abbrev G : ℕ → ℕ
  G = way_at L p b z rest

  pub onward-run : p < L.size → y ≤ a → c ≡ max y z
      → ((t : ℕ) → t < L.site_numbers → L.ok p t ≡ true → L.site p t + k ≡ g + t)
      → onward L p a b c rest ≡ low_clear (way_at L p b z rest) L.site_numbers (a + k) g
  unfolding onward
  onward-run h s o sites =
      let n = L.site_numbers in
      let below = clear_above G n (a + k) g (onward L p a b c rest) small
      (λ t l u d. to t l u d (L.ok p t) (leb z (L.site p t)) refl (le? _ _)) in
      let above = loop_above B way n (low_clear G n (a + k) g) (clear-low G n (a + k) g)
      (λ t l. back t l (may_follow L p a c t) refl) in
      omega arith
    where
      way : ℕ → ℕ
      way t = cond (may_follow L p a c t) (cover_by_way L p b rest t) B

      small : onward L p a b c rest ≤ B
      small = onward-low L p a b c rest

      to : (t : ℕ) → t < L.site_numbers → a + k ≤ g + t → g + t ≢ suc (a + k) → (v w : Bool) → L.ok p t ≡ v
          → Le? z (L.site p t) w → onward L p a b c rest ≤ cond (v && w) (cover_by_way L p b rest t) B
      to t l u d true true e (low j) =
          let i = sites t l e in
          let f : Follows L p a t = record {
            there = h;
            numbered = l;
            ok = e;
            clear = omega arith;
            no_gap_one = λ w. d (omega arith);
          } in
          onward-below L p a b c rest t f (omega arith)
      to t l u d true false e j = small
      to t l u d false w e j = small

      back : (t : ℕ) → t < L.site_numbers → (v : Bool) → may_follow L p a c t ≡ v
          → low_clear G L.site_numbers (a + k) g ≤ cond v (cover_by_way L p b rest t) B
      back t l true e =
          let m = may_follows L p a c t l e in
          let f = m.0 in
          let j = m.1 in
          let i = sites t l f.ok in
          let r = f.clear in
          let w = clear-below G L.site_numbers (a + k) g t l (omega arith) (λ e. f.no_gap_one (omega arith)) in
          let v = cond_yes (cover_by_way L p b rest t) B
          (both-and f.ok (le-leb z (L.site p t) (omega arith))) in
          omega arith
      back t l false e = clear-low G L.site_numbers (a + k) g
