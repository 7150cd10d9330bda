-- Theorems on the definitions of specs/Recurrence.
-- The fewest sites that two rows cover, as a recurrence by numbers: cells are added by rising site over both rows, and
-- a new cell covers its sites but for those that the other row's last cell covers already.
use Rattle.std.specs.Prelude.{ℕ, zero, suc, min, max, ◌≤◌, ◌<◌, ◌≡◌, Bool, not, ◌&&◌, leb, ltb, eqb}
use Rattle.std.proofs.Math.Path.{refl, sym}
use Rattle.std.proofs.Common.{◌∙◌, subst, leb-true, le-leb, ltb-true, lt-ltb, ne_eqb}
use Rattle.std.proofs.Math.Bool.{true, false, cond}
use mathlib.Core.List.Memᴰ.{head as here}
use mathlib.Core.List.Memᴰ.{tail as there}
use mathlib.Core.List.{List, [], ◌∷◌, Memᴰ as In}
use native.Mathlib.Omega.{arith}
use Rattle.std.proofs.Math.Decide.{dec_le, dec_lt}
use Rattle.std.proofs.lemmas.Bool.{eqb-false, not-true}
use Rattle.lists.specs.Numbers.{from, in_from}
use Rattle.theory_pair.specs.Coded.{lowest, lowest-low}
use Rattle.theory_tables.specs.Steps.{B}
use Rattle.theory_tables.specs.Lowest.{loop_member}
use Rattle.theory_tables.proofs.Spots.{and_both, cond_yes}
use Rattle.theory_cover.specs.FileRow.{FileRow, start_of, end_of, Follows}
use Rattle.theory_cover.specs.Recurrence.{clears, may_follow, cover_by_way, onward, fewest}
use Rattle.theory_cover.specs.Recurrence as defs

-- ---- the test, and what it says

module _ (L : FileRow) (p a z t : ℕ) where
  abbrev x : ℕ
  x = L.site p t

  pub follows_may : Follows L p a t → z ≤ x → may_follow L p a z t ≡ true
  follows_may f h =
      let d = ne_eqb x (suc a) f.no_gap_one in
      rw (lt-ltb p L.size f.there, f.ok, le-leb z x h, le-leb a x f.clear, d) refl

  pub may_follows : t < L.site_numbers → may_follow L p a z t ≡ true → Follows L p a t × (z ≤ x)
  may_follows l e =
      let i = and_both (ltb p L.size) (L.ok p t && (leb z x && clears a x)) e in
      let j = and_both (L.ok p t) (leb z x && clears a x) i.1 in
      let k = and_both (leb z x) (clears a x) j.1 in
      let m = and_both (leb a x) (not (eqb x (suc a))) k.1 in
      let f : Follows L p a t = record {
        there = ltb-true p L.size i.0;
        numbered = l;
        ok = j.0;
        clear = leb-true a x m.0;
        no_gap_one = eqb-false x (suc a) (not-true (eqb x (suc a)) m.1);
      } in
      (f, leb-true z x k.0)

-- ---- no way by cell p covers fewer sites; below B there is a way that covers just so many

lowest-at : (h : ℕ → ℕ) (l : List ℕ) → lowest B h l < B → (t : ℕ) × In t l × (h t ≡ lowest B h l)
unfolding lowest
lowest-at h [] g = absurd (omega arith)
lowest-at h (x ∷ l) g = go (dec_le (h x) (lowest B h l)) (lowest-at h l)
  where
    go : Dec (h x ≤ lowest B h l) → (lowest B h l < B → (t : ℕ) × In t l × (h t ≡ lowest B h l))
        → (t : ℕ) × In t (x ∷ l) × (h t ≡ min (h x) (lowest B h l))
    go (yes c) f = (x, here refl, omega arith)
    go (no c) f = let r = f (omega arith) in (r.0, there r.1, let e = r.2 in omega arith)

module _ (L : FileRow) (p a b z : ℕ) (rest : ℕ → ℕ) where
  abbrev OnwardBy : Type 0
  OnwardBy = defs.OnwardBy L p a b z rest

  abbrev way : ℕ → ℕ
  way t = cond (may_follow L p a z t) (cover_by_way L p b rest t) B

  pub onward-low : onward L p a b z rest ≤ B
  unfolding onward
  onward-low = lowest-low B way (from 0 L.site_numbers)

  pub onward-below : (t : ℕ) → Follows L p a t → z ≤ L.site p t → onward L p a b z rest ≤ cover_by_way L p b rest t
  unfolding onward
  onward-below t f h =
      let m = loop_member B way L.site_numbers t f.numbered in
      let e = cond_yes (cover_by_way L p b rest t) B (follows_may L p a z t f h) in
      omega arith

  pub onward-met : onward L p a b z rest < B → OnwardBy
  unfolding onward
  onward-met g =
      let r = lowest-at way (from 0 L.site_numbers) g in
      let t = r.0 in
      let i = in_from 0 L.site_numbers r.1 in
      let e : way t ≡ onward L p a b z rest = r.2 in
      let c = go t (may_follow L p a z t) refl (subst (λ x. x < B) (sym e) g) in
      let f = may_follows L p a z t (omega arith) c in
      record { number = t; follows = f.0; rises = f.1; met = sym (cond_yes (cover_by_way L p b rest t) B c) ∙ e }
    where
      go : (t : ℕ) (c : Bool) → may_follow L p a z t ≡ c → cond c (cover_by_way L p b rest t) B < B
          → may_follow L p a z t ≡ true
      go t true e h = e
      go t false e h = absurd (omega arith)

  -- no way
  pub onward-none : ((t : ℕ) → Follows L p a t → z ≤ L.site p t → ⊥) → onward L p a b z rest ≡ B
  onward-none none = go (dec_lt (onward L p a b z rest) B)
    where
      go : Dec (onward L p a b z rest < B) → onward L p a b z rest ≡ B
      go (yes l) = let m = onward-met l in absurd (none m.number m.follows m.rises)
      go (no l) = omega (arith, onward-low)

pub fewest-low : (L M : FileRow) (d p t q u : ℕ) → fewest L M d p t q u ≤ B
unfolding fewest
fewest-low L M zero p t q u = omega arith
fewest-low L M (suc d) p t q u =
    let z = max (start_of L p t) (start_of M q u) in
    omega (arith, onward-low L p (end_of L p t) (end_of M q u) z (λ v. fewest L M d (suc p) v q u))
