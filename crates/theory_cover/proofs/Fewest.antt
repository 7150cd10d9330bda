-- Theorems on the definitions of specs/Fewest.
-- The recurrence is right: no two rows in file order cover fewer sites than it says (fewest-below), and below B two
-- rows cover just so many (fewest-met).
use Prim.Native.Nat.{ℕ, zero, suc, ◌+◌, min, max, ◌≤◌, ◌<◌}
use Rattle.std.specs.Prelude.{◌≡◌, length}
use Rattle.std.proofs.Common.{sym, ap, ◌∙◌, subst}
use mathlib.Core.List.{List, [], ◌∷◌}
use native.Mathlib.Omega.{arith}
use Rattle.std.proofs.Math.Decide.{dec_le}
use Rattle.theory_tables.specs.Steps.{B}
use Rattle.theory_cover.specs.FileRow.{FileRow, start_of, end_of, Follows, StartsFrom}
use Rattle.theory_cover.specs.Recurrence.{new_sites, onward, fewest}
use Rattle.theory_cover.proofs.Recurrence.{onward-below, onward-met}
use Rattle.theory_cover.specs.Covered.{RowsFrom, anew, Inside}
use Rattle.theory_cover.proofs.Covered.{rows_end, anew-end, rows-swap, anew-swap}
use Rattle.theory_cover.proofs.Covered.{rows_next, anew-next, rows_before, rows-after}
use Rattle.theory_cover.specs.Fewest.{Coverable}

module _ (L M : FileRow) (n : ℕ) (inside₀ : Inside L n) (inside₁ : Inside M n) where
  -- where the cell that is added last starts
  abbrev since : ℕ → ℕ → ℕ → ℕ → ℕ
  since p t q u = max (start_of L p t) (start_of M q u)

  -- ---- no fewer: the first row goes on, or the second

  below₀ : (d p t q u v : ℕ) (ts us : List ℕ) → RowsFrom L M p t q u (v ∷ ts) us → StartsFrom M q (L.site p v) us
      → fewest L M d (suc p) v q u ≤ anew L M n (suc p) v q u ts us
      → fewest L M (suc d) p t q u ≤ anew L M n p t q u (v ∷ ts) us
  unfolding fewest
  below₀ d p t q u v ts us l f h =
      let a = onward-below L p (end_of L p t) (end_of M q u) (since p t q u) (λ w. fewest L M d (suc p) w q u) v
      l.row₀.0 l.rises₀ in
      let b = anew-next L M p t q u v ts us n inside₀ l f in
      omega arith

  below₁ : (d p t q u v : ℕ) (ts us : List ℕ) → RowsFrom L M p t q u ts (v ∷ us) → StartsFrom L p (M.site q v) ts
      → fewest L M d p t (suc q) v ≤ anew L M n p t (suc q) v ts us
      → fewest L M (suc d) p t q u ≤ anew L M n p t q u ts (v ∷ us)
  unfolding fewest
  below₁ d p t q u v ts us l f h =
      let a = onward-below M q (end_of M q u) (end_of L p t) (since p t q u) (λ w. fewest L M d p t (suc q) w) v
      l.row₁.0 l.rises₁ in
      let b = anew-next M L q u p t v us ts n inside₁ (rows-swap L M p t q u ts (v ∷ us) l) f in
      let c = anew-swap L M p t q u n ts (v ∷ us) in
      let e = anew-swap L M p t (suc q) v n ts us in
      omega arith

  -- the second row's next cell goes first
  rest₁ : (p t q u v : ℕ) (ts us : List ℕ) → RowsFrom L M p t q u ts (v ∷ us) → StartsFrom L p (M.site q v) ts
      → RowsFrom L M p t (suc q) v ts us
  rest₁ p t q u v ts us l f =
      rows-swap M L (suc q) v p t us ts
      (rows_next M L q u p t v us ts (rows-swap L M p t q u ts (v ∷ us) l) f)

  -- the rest of two rows covers no fewer sites than the recurrence says
  pub fewest-below : (d p t q u : ℕ) (ts us : List ℕ) → length ts + length us ≡ d → RowsFrom L M p t q u ts us
      → fewest L M d p t q u ≤ anew L M n p t q u ts us
  unfolding fewest
  fewest-below zero p t q u ts us e l = omega arith
  fewest-below (suc d) p t q u [] [] e l = absurd (omega arith)
  fewest-below (suc d) p t q u (v ∷ ts) [] e l =
      below₀ d p t q u v ts [] l tt
      (fewest-below d (suc p) v q u ts [] (omega arith) (rows_next L M p t q u v ts [] l tt))
  fewest-below (suc d) p t q u [] (v ∷ us) e l =
      below₁ d p t q u v [] us l tt
      (fewest-below d p t (suc q) v [] us (omega arith) (rest₁ p t q u v [] us l tt))
  fewest-below (suc d) p t q u (v ∷ ts) (w ∷ us) e l =
      go (dec_le (L.site p v) (M.site q w))
      (λ f. fewest-below d (suc p) v q u ts (w ∷ us) (omega arith)
      (rows_next L M p t q u v ts (w ∷ us) l f))
      (λ f. fewest-below d p t (suc q) w (v ∷ ts) us (omega arith) (rest₁ p t q u w (v ∷ ts) us l f))
    where
      go : Dec (L.site p v ≤ M.site q w)
          → (L.site p v ≤ M.site q w → fewest L M d (suc p) v q u ≤ anew L M n (suc p) v q u ts (w ∷ us))
          → (M.site q w ≤ L.site p v → fewest L M d p t (suc q) w ≤ anew L M n p t (suc q) w (v ∷ ts) us)
          → fewest L M (suc d) p t q u ≤ anew L M n p t q u (v ∷ ts) (w ∷ us)
      go (yes h) f g = below₀ d p t q u v ts (w ∷ us) l h (f h)
      go (no h) f g = below₁ d p t q u w (v ∷ ts) us l (omega arith) (g (omega arith))

  -- ---- just so many

  abbrev CoveredBy : ℕ → ℕ → ℕ → ℕ → ℕ → Type 0
  CoveredBy p t q u x = Coverable L M n p t q u x

  met₀ : (p t q u v x : ℕ) → Follows L p (end_of L p t) v → since p t q u ≤ L.site p v → CoveredBy (suc p) v q u x
      → CoveredBy p t q u (new_sites (end_of M q u) (L.site p v) (L.wide p) + x)
  met₀ p t q u v x s h m =
      let ts = m.first in
      let us = m.second in
      let b = rows_before L M p t q u v ts us m.rows s h in
      let f = rows-after L M p t q u v ts us m.rows in
      record {
        first = v ∷ ts;
        second = us;
        rows = b;
        count =
            anew-next L M p t q u v ts us n inside₀ b f
            ∙ ap (λ y. new_sites (end_of M q u) (L.site p v) (L.wide p) + y) m.count;
      }

  met₁ : (p t q u v x : ℕ) → Follows M q (end_of M q u) v → since p t q u ≤ M.site q v → CoveredBy p t (suc q) v x
      → CoveredBy p t q u (new_sites (end_of L p t) (M.site q v) (M.wide q) + x)
  met₁ p t q u v x s h m =
      let ts = m.first in
      let us = m.second in
      let l = rows-swap L M p t (suc q) v ts us m.rows in
      let b = rows_before M L q u p t v us ts l s (omega arith) in
      let f = rows-after M L q u p t v us ts l in
      record {
        first = ts;
        second = v ∷ us;
        rows = rows-swap M L q u p t (v ∷ us) ts b;
        count =
            anew-swap L M p t q u n ts (v ∷ us)
            ∙ anew-next M L q u p t v us ts n inside₁ b f
            ∙ ap (λ y. new_sites (end_of L p t) (M.site q v) (M.wide q) + y)
            (sym (anew-swap L M p t (suc q) v n ts us) ∙ m.count);
      }

  pub fewest-met : (d p t q u : ℕ) → d + (p + q) ≡ L.size + M.size → p ≤ L.size → q ≤ M.size
      → fewest L M d p t q u < B → Coverable L M n p t q u (fewest L M d p t q u)
  unfolding fewest
  fewest-met zero p t q u e h g l = record {
    first = [];
    second = [];
    rows = rows_end L M p t q u (omega arith) (omega arith);
    count = anew-end L M p t q u n;
  }
  fewest-met (suc d) p t q u e h g l =
      go (dec_le on₀ on₁) (λ v k. fewest-met d (suc p) v q u (omega arith) k g)
      (λ v k. fewest-met d p t (suc q) v (omega arith) h k)
    where
      after₀ : ℕ → ℕ
      after₀ v = fewest L M d (suc p) v q u

      after₁ : ℕ → ℕ
      after₁ v = fewest L M d p t (suc q) v

      on₀ : ℕ
      on₀ = onward L p (end_of L p t) (end_of M q u) (since p t q u) after₀

      on₁ : ℕ
      on₁ = onward M q (end_of M q u) (end_of L p t) (since p t q u) after₁

      small : (x y w : ℕ) → w < B → x + y ≡ w → y < B
      small x y w i j = omega arith

      by₀ : on₀ < B → ((v : ℕ) → suc p ≤ L.size → after₀ v < B → CoveredBy (suc p) v q u (after₀ v))
          → CoveredBy p t q u on₀
      by₀ c f =
          let r = onward-met L p (end_of L p t) (end_of M q u) (since p t q u) after₀ c in
          let v = r.number in
          subst (CoveredBy p t q u) r.met
          (met₀ p t q u v (after₀ v) r.follows r.rises
          (f v r.follows.there (small _ (after₀ v) on₀ c r.met)))

      by₁ : on₁ < B → ((v : ℕ) → suc q ≤ M.size → after₁ v < B → CoveredBy p t (suc q) v (after₁ v))
          → CoveredBy p t q u on₁
      by₁ c f =
          let r = onward-met M q (end_of M q u) (end_of L p t) (since p t q u) after₁ c in
          let v = r.number in
          subst (CoveredBy p t q u) r.met
          (met₁ p t q u v (after₁ v) r.follows r.rises
          (f v r.follows.there (small _ (after₁ v) on₁ c r.met)))

      low : (x y : ℕ) → min x y < B → x ≤ y → (x < B) × (x ≡ min x y)
      low x y i j = omega arith

      high : (x y : ℕ) → min x y < B → ¬ (x ≤ y) → (y < B) × (y ≡ min x y)
      high x y i j = omega arith

      go : Dec (on₀ ≤ on₁) → ((v : ℕ) → suc p ≤ L.size → after₀ v < B → CoveredBy (suc p) v q u (after₀ v))
          → ((v : ℕ) → suc q ≤ M.size → after₁ v < B → CoveredBy p t (suc q) v (after₁ v))
          → CoveredBy p t q u (min on₀ on₁)
      go (yes c) f f' = let k = low on₀ on₁ l c in subst (CoveredBy p t q u) k.1 (by₀ k.0 f)
      go (no c) f f' = let k = high on₀ on₁ l c in subst (CoveredBy p t q u) k.1 (by₁ k.0 f')
