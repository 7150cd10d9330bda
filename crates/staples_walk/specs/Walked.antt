-- The walk's numbers: both rows from here on, as they are noted, and that they cover the fewest sites.
use Rattle.std.specs.Prelude.{ℕ, suc, ◌+◌, ◌-◌, ◌≤◌, ◌<◌, ◌≡◌, refl, List, ◌∷◌, map, length, get_or, set}
use Rattle.std.proofs.Common.{sym, ap, subst, ◌∙◌, length-set, get_or-set_same, get_or-set_other}
use native.Mathlib.Omega.{arith}
use Rattle.definition.specs.Job.{max_cells}
use Rattle.lists.specs.Numbers.{from}
use Rattle.theory_tables.specs.Steps.{B}
use Rattle.theory_cover.specs.FileRow.{FileRow, end_of}
use Rattle.theory_cover.specs.Recurrence.{new_sites, fewest}
use Rattle.theory_cover.specs.Covered.{RowsFrom, anew, Inside}
use Rattle.theory_cover.proofs.Covered.{rows_end, anew-end, rows-swap, anew-swap, rows_before}
use Rattle.theory_cover.proofs.Covered.{rows-after, anew-next}
use Rattle.search_lanes.specs.Store.{Low}
use Rattle.staples_table.specs.declared.RowCounts.{RowCounts}
use Rattle.staples_table.specs.Blocks.{blocks_words, TwoRows, to_come, TableRight}
use Rattle.staples_walk.specs.declared.Here.{Here}
use Rattle.staples_walk.specs.Steps.{StandsHere, fewest_here}
use Rattle.staples_walk.specs.Taken.{L, M, Adds₀, Adds₁}

-- so many noted numbers, from position p on
abbrev pub noted_from : List ℕ → ℕ → ℕ → List ℕ
noted_from l p n = map (λ i. get_or l i 0) (from p n)

pub noted-next : (l : List ℕ) (p n v : ℕ) → p < n → get_or l p 0 ≡ v
    → noted_from l p (n - p) ≡ v ∷ noted_from l (suc p) (n - suc p)
unfolding from
noted-next l p n v h e =
    let z : n - p ≡ suc (n - suc p) = omega arith in
    rw z (ap (λ x. x ∷ noted_from l (suc p) (n - suc p)) e)

-- from here on to the end of both rows
pub record Walked (row₀ row₁ : List ℕ) (k : RowCounts) (h : Here) (old₀ new₀ old₁ new₁ : List ℕ) : Type 0 where
  pub long₀ : length new₀ ≡ length old₀
  pub long₁ : length new₁ ≡ length old₁
  pub kept₀ : (i : ℕ) → i < h.placed0 → get_or new₀ i 0 ≡ get_or old₀ i 0
  pub kept₁ : (i : ℕ) → i < h.placed1 → get_or new₁ i 0 ≡ get_or old₁ i 0
  pub rows : RowsFrom (L row₀ row₁ k h) (M row₀ row₁ k h) h.placed0 h.number0 h.placed1 h.number1
      (noted_from new₀ h.placed0 (k.cells0 - h.placed0)) (noted_from new₁ h.placed1 (k.cells1 - h.placed1))
  pub count : (n : ℕ) → Inside (L row₀ row₁ k h) n → Inside (M row₀ row₁ k h) n
      → anew (L row₀ row₁ k h) (M row₀ row₁ k h) n h.placed0 h.number0 h.placed1 h.number1
      (noted_from new₀ h.placed0 (k.cells0 - h.placed0)) (noted_from new₁ h.placed1 (k.cells1 - h.placed1))
      ≡ fewest_here row₀ row₁ k h

-- a number to be noted
pub record NoteAsked (noted : List ℕ) (p number : ℕ) : Type 0 where
  pub room : p < length noted
  pub small : number < 15

-- a walk to be made
pub record WalkAsked (st row₀ row₁ : List ℕ) (k : RowCounts) (h : Here) (noted₀ noted₁ : List ℕ) : Type 0 where
  pub rows : TwoRows row₀ row₁ k
  pub low : Low st
  pub room : blocks_words ≤ length st
  pub table : TableRight row₀ row₁ k 0 st
  pub here : StandsHere row₀ row₁ k h
  pub way : fewest_here row₀ row₁ k h < B
  pub long₀ : length noted₀ ≡ max_cells
  pub long₁ : length noted₁ ≡ max_cells

-- where the step leads to
abbrev pub onward₀ : Here → ℕ → Here
onward₀ h v = record { placed0 = h.placed0 + 1; number0 = v; placed1 = h.placed1; number1 = h.number1 }

abbrev pub onward₁ : Here → ℕ → Here
onward₁ h v = record { placed0 = h.placed0; number0 = h.number0; placed1 = h.placed1 + 1; number1 = v }

module _ (row₀ row₁ : List ℕ) (k : RowCounts) (h : Here) where
  abbrev A : FileRow
  A = L row₀ row₁ k h

  abbrev C : FileRow
  C = M row₀ row₁ k h

  abbrev p : ℕ
  p = h.placed0

  abbrev t : ℕ
  t = h.number0

  abbrev q : ℕ
  q = h.placed1

  abbrev u : ℕ
  u = h.number1

  -- no cell is to come
  pub walked_end : {noted₀ noted₁ : List ℕ} → StandsHere row₀ row₁ k h
      → p + q ≡ k.cells0 + k.cells1 → Walked row₀ row₁ k h noted₀ noted₀ noted₁ noted₁
  unfolding from fewest
  walked_end {noted₀} {noted₁} s e =
      let z₀ : k.cells0 - p ≡ 0 = omega (arith, s.placed₀, s.placed₁) in
      let z₁ : k.cells1 - q ≡ 0 = omega (arith, s.placed₀, s.placed₁) in
      let z : to_come k p q ≡ 0 = omega arith in
      record {
        long₀ = refl;
        long₁ = refl;
        kept₀ = λ i j. refl;
        kept₁ = λ i j. refl;
        rows = rw (z₀, z₁) (rows_end A C p t q u
            (omega (arith, s.placed₀, s.placed₁)) (omega (arith, s.placed₀, s.placed₁)));
        count = λ n i j. rw (z₀, z₁, z) (anew-end A C p t q
            u n);
      }

  abbrev noted : List ℕ → List ℕ
  noted l = noted_from l p (k.cells0 - p)

  abbrev noted' : List ℕ → List ℕ
  noted' l = noted_from l q (k.cells1 - q)

  -- a step, and the walk from where it leads to
  pub walked₀ : {old₀ new₀ old₁ new₁ : List ℕ} (v : ℕ) → p + q < k.cells0 + k.cells1
      → p < length old₀ → Adds₀ row₀ row₁ k h v
      → Walked row₀ row₁ k (onward₀ h v) (set old₀ p v) new₀ old₁ new₁
      → Walked row₀ row₁ k h old₀ new₀ old₁ new₁
  walked₀ {old₀} {new₀} {old₁} {new₁} v s i a w = go (rw z at w)
    where
      z : p + 1 ≡ suc p
      z = omega arith

      go : Walked row₀ row₁ k
          (record { placed0 = suc p; number0 = v; placed1 = q; number1 = u })
          (set old₀ p v) new₀ old₁ new₁
          → Walked row₀ row₁ k h old₀ new₀ old₁ new₁
      go w =
          let l = a.follows.there in
          let ts = noted_from new₀ (suc p) (k.cells0 - suc p) in
          let us = noted' new₁ in
          let e : noted new₀ ≡ v ∷ ts = noted-next new₀ p k.cells0 v l
          (w.kept₀ p (omega arith) ∙ get_or-set_same old₀ p v 0 i) in
          let b = rows_before A C p t q u v ts us
          w.rows a.follows a.rises in
          let f = rows-after A C p t q u v ts us
          w.rows in
          let y : to_come k (suc p) q ≡ to_come k p q - 1 = omega arith in
          record {
            long₀ = w.long₀ ∙ length-set old₀ p v;
            long₁ = w.long₁;
            kept₀ = λ j c. w.kept₀ j (omega arith) ∙ get_or-set_other old₀ p j v 0 (omega arith);
            kept₁ = w.kept₁;
            rows = subst (λ x. RowsFrom A C p t q u
                x us) (sym e) b;
            count = λ n c d.
                ap (λ x. anew A C n p t q u x us) e
                ∙ anew-next A C p t q u v ts us n c
                b f
                ∙ ap (λ x. new_sites (end_of C q u) (A.site p v)
                (A.wide p) + x) (w.count n c d
                ∙ ap (λ x. fewest A C x (suc p) v q u) y)
                ∙ a.covered;
          }

  pub walked₁ : {old₀ new₀ old₁ new₁ : List ℕ} (v : ℕ) → p + q < k.cells0 + k.cells1
      → q < length old₁ → Adds₁ row₀ row₁ k h v
      → Walked row₀ row₁ k (onward₁ h v) old₀ new₀ (set old₁ q v) new₁
      → Walked row₀ row₁ k h old₀ new₀ old₁ new₁
  walked₁ {old₀} {new₀} {old₁} {new₁} v s i a w = go (rw z at w)
    where
      z : q + 1 ≡ suc q
      z = omega arith

      go : Walked row₀ row₁ k
          (record { placed0 = p; number0 = t; placed1 = suc q; number1 = v })
          old₀ new₀ (set old₁ q v) new₁
          → Walked row₀ row₁ k h old₀ new₀ old₁ new₁
      go w =
          let l = a.follows.there in
          let ts = noted new₀ in
          let us = noted_from new₁ (suc q) (k.cells1 - suc q) in
          let e : noted' new₁ ≡ v ∷ us = noted-next new₁ q k.cells1 v l
          (w.kept₁ q (omega arith) ∙ get_or-set_same old₁ q v 0 i) in
          let c = rows-swap A C p t (suc q) v ts us w.rows in
          let b = rows_before C A q u p t v us ts
          c a.follows (omega (arith, a.rises)) in
          let f = rows-after C A q u p t v us ts c in
          let y : to_come k p (suc q) ≡ to_come k p q - 1 = omega arith in
          record {
            long₀ = w.long₀;
            long₁ = w.long₁ ∙ length-set old₁ q v;
            kept₀ = w.kept₀;
            kept₁ = λ j d. w.kept₁ j (omega arith) ∙ get_or-set_other old₁ q j v 0 (omega arith);
            rows = subst (λ x. RowsFrom A C p t q u
                ts x) (sym e)
                (rows-swap C A q u p t (v ∷ us) ts b);
            count = λ n c d.
                ap (λ x. anew A C n p t q u ts x) e
                ∙ anew-swap A C p t q u n ts (v ∷ us)
                ∙ anew-next C A q u p t v us ts n d
                b f
                ∙ ap (λ x. new_sites (end_of A p t) (C.site q v)
                (C.wide q) + x)
                (sym (anew-swap A C p t (suc q) v n ts us)
                ∙ w.count n c d
                ∙ ap (λ x. fewest A C x p t (suc q) v) y)
                ∙ a.covered;
          }
