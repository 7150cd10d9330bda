-- The step that is taken: a number of row 0's next cell leads on, or else one of row 1's.
use Prim.Native.Nat.{ℕ, suc, ◌+◌, ◌-◌, ◌*◌, ◌<◌, min, max}
use Rattle.std.specs.Prelude.{◌≡◌, ◌≢◌, Bool, false, List, get_or, Option, None, Some, IsSome}
use Rattle.std.proofs.Math.Path.{refl}
use Rattle.std.proofs.Common.{sym, ap, ◌∙◌}
use Rattle.std.proofs.Math.Bool.{true, true≢false}
use native.Mathlib.Omega.{arith}
use Rattle.std.proofs.Math.Decide.{dec_lt}
use Rattle.theory_tables.specs.Steps.{B}
use Rattle.theory_cover.specs.FileRow.{FileRow, start_of, end_of}
use Rattle.theory_cover.specs.Recurrence.{onward, fewest}
use Rattle.theory_cover.proofs.Recurrence.{onward-met}
use Rattle.staples_ways.specs.declared.Rests.{Rests}
use Rattle.staples_ways.specs.declared.NextCell.{NextCell}
use Rattle.staples_ways.specs.Words.{ok_in, file_row, last_cell}
use Rattle.staples_ways.specs.Ways.{rest_in}
use Rattle.staples_table.specs.declared.RowCounts.{RowCounts}
use Rattle.staples_table.specs.Blocks.{block_at, TwoRows, to_come, TableRight}
use Rattle.staples_walk.specs.declared.Here.{Here}
use Rattle.staples_walk.specs.declared.Step.{Step}
use Rattle.staples_walk.specs.declared.Step.TheVariants.{Row0, Row1}
use Rattle.staples_walk.specs.Steps.{leads_in, Lead, OpenLead, StandsHere, fewest_here, Adds}
use Rattle.staples_walk.specs.Adds.{lead_adds, adds_lead}

-- both rows, and what each one's next cell adds
module _ (row₀ row₁ : List ℕ) (k : RowCounts) (h : Here) where
  abbrev pub L : FileRow
  L = file_row row₀ k.cells0 k.limit

  abbrev pub M : FileRow
  M = file_row row₁ k.cells1 k.limit

  -- where the cell that was added last starts
  abbrev since : ℕ
  since = max (start_of L h.placed0 h.number0) (start_of M h.placed1 h.number1)

  abbrev after₀ : ℕ → ℕ
  after₀ v = fewest L M (to_come k h.placed0 h.placed1 - 1) (suc h.placed0) v h.placed1 h.number1

  abbrev after₁ : ℕ → ℕ
  after₁ v = fewest L M (to_come k h.placed0 h.placed1 - 1) h.placed0 h.number0 (suc h.placed1) v

  abbrev pub Adds₀ : ℕ → Type 0
  Adds₀ v =
      Adds L h.placed0 (end_of L h.placed0 h.number0) (end_of M h.placed1 h.number1) since v
      (fewest_here row₀ row₁ k h) after₀

  abbrev pub Adds₁ : ℕ → Type 0
  Adds₁ v =
      Adds M h.placed1 (end_of M h.placed1 h.number1) (end_of L h.placed0 h.number0) since v
      (fewest_here row₀ row₁ k h) after₁

-- the step is one of these
abbrev pub StepTaken : List ℕ → List ℕ → RowCounts → Here → Step → Type 0
StepTaken row₀ row₁ k h (Row0 v) = (v < 2 * k.limit + 1) × Adds₀ row₀ row₁ k h v
StepTaken row₀ row₁ k h (Row1 v) = (v < 2 * k.limit + 1) × Adds₁ row₀ row₁ k h v

module _ (row₀ row₁ : List ℕ) (k : RowCounts) (h : Here) (st : List ℕ) (rows : TwoRows row₀ row₁ k)
    (table : TableRight row₀ row₁ k 0 st) (here : StandsHere row₀ row₁ k h)
    (some : h.placed0 + h.placed1 < k.cells0 + k.cells1) (way : fewest_here row₀ row₁ k h < B) where
  abbrev A : FileRow
  A = L row₀ row₁ k h

  abbrev C : FileRow
  C = M row₀ row₁ k h

  abbrev t : ℕ
  t = h.number0

  abbrev u : ℕ
  u = h.number1

  abbrev x : ℕ
  x = fewest_here row₀ row₁ k h

  abbrev z : ℕ
  z = since row₀ row₁ k h

  abbrev f₀ : ℕ → ℕ
  f₀ = after₀ row₀ row₁ k h

  abbrev f₁ : ℕ → ℕ
  f₁ = after₁ row₀ row₁ k h

  abbrev p : ℕ
  p = h.placed0

  abbrev q : ℕ
  q = h.placed1

  abbrev pub rests₀ : Rests
  rests₀ = record { at = block_at p q + 14625 + u; step = 15 }

  abbrev pub rests₁ : Rests
  rests₁ = record { at = block_at p q + 225 + t * 15; step = 1 }

  abbrev pub next₀ : NextCell
  next₀ = record { cells = k.cells0; placed = p; numbers = 2 * k.limit + 1 }

  abbrev pub next₁ : NextCell
  next₁ = record { cells = k.cells1; placed = q; numbers = 2 * k.limit + 1 }

  abbrev pub lead₀ : ℕ → Bool
  lead₀ v =
      leads_in st row₀ next₀
      (last_cell row₀ k.limit p t) (last_cell row₁ k.limit q u) rests₀
      x v

  abbrev pub lead₁ : ℕ → Bool
  lead₁ v =
      leads_in st row₁ next₁
      (last_cell row₁ k.limit q u) (last_cell row₀ k.limit p t) rests₁
      x v

  -- what is left after each
  left₀ : p < k.cells0 → (v : ℕ) → v < 2 * k.limit + 1 → ok_in row₀ k.cells0 p v ≡ true
      → rest_in st rests₀ v ≡ after₀ row₀ row₁ k h v
  left₀ l v i o =
      ap (λ (y : ℕ). get_or st y 0) (omega arith)
      ∙ table (suc p) (omega arith) l q (omega arith) here.placed₁ v u i here.small₁ (l, i, o)
      here.stands₁
      ∙ ap (λ (y : ℕ). fewest A C y (suc p) v q u) (omega arith)

  left₁ : q < k.cells1 → (v : ℕ) → v < 2 * k.limit + 1 → ok_in row₁ k.cells1 q v ≡ true
      → rest_in st rests₁ v ≡ after₁ row₀ row₁ k h v
  left₁ l v i o =
      ap (λ (y : ℕ). get_or st y 0) (omega arith)
      ∙ table p (omega arith) here.placed₀ (suc q) (omega arith) l t v here.small₀ i here.stands₀
      (l, i, o)
      ∙ ap (λ (y : ℕ). fewest A C y p t (suc q) v) (omega arith)

  on₀ : ℕ
  on₀ = onward A p (end_of A p t) (end_of C q u)
      z f₀

  on₁ : ℕ
  on₁ = onward C q (end_of C q u) (end_of A p t)
      z f₁

  pub taken₀ : p < k.cells0 → (v : ℕ) → Lead lead₀ (2 * k.limit + 1) v → StepTaken row₀ row₁ k h (Row0 v)
  taken₀ l v f = (
    f.below,
    lead_adds rows.first rows.second p t q u here.stands₀ here.stands₁ st rests₀ f₀ l (left₀ l) x v f.below way f.leads,
  )

  -- the fewest are what one of the two comes to
  parts : fewest_here row₀ row₁ k h ≡ min on₀ on₁
  unfolding fewest on₀ on₁
  parts = let e : to_come k p q ≡ suc (to_come k p q - 1) = omega arith in rw e refl

  -- if no number of row 0 leads on, it is row 1
  none₀ : (p < k.cells0 → (v : ℕ) → v < 2 * k.limit + 1 → lead₀ v ≡ false) → on₀ ≢ fewest_here row₀ row₁ k h
  unfolding on₀
  none₀ f e =
      let m = onward-met A p (end_of A p t)
      (end_of C q u) z f₀ (omega (arith, e, way)) in
      let l = m.follows.there in
      let i = m.follows.numbered in
      true≢false
      (sym (adds_lead rows.first rows.second p t q u here.stands₀ here.stands₁ st rests₀
      f₀ l (left₀ l) x m.number i way
      (record { follows = m.follows; rises = m.rises; covered = m.met ∙ e }))
      ∙ f l m.number i)

  low₁ : on₀ ≢ fewest_here row₀ row₁ k h → on₁ ≡ fewest_here row₀ row₁ k h
  low₁ d = go (dec_lt on₀ on₁)
    where
      go : Dec (on₀ < on₁) → on₁ ≡ fewest_here row₀ row₁ k h
      go (yes l) = absurd (d (omega (arith, parts, l)))
      go (no l) = omega (arith, parts, l)

  -- then one of its numbers leads on
  some₁ : on₁ ≡ fewest_here row₀ row₁ k h
      → (q < k.cells1) × ((v : ℕ) × ((v < 2 * k.limit + 1) × (lead₁ v ≡ true)))
  unfolding on₁
  some₁ e =
      let m = onward-met C q (end_of C q u)
      (end_of A p t) z f₁ (omega (arith, e, way)) in
      let l = m.follows.there in
      let i = m.follows.numbered in
      let o = adds_lead rows.second rows.first q u p t here.stands₁ here.stands₀ st rests₁
      f₁ l (left₁ l) x m.number i way
      (record { follows = m.follows; rises = omega (arith, m.rises); covered = m.met ∙ e }) in
      (l, (m.number, (i, o)))

  -- so that row has a next cell, and one of its numbers is found
  pub some-lead : (p < k.cells0 → (v : ℕ) → v < 2 * k.limit + 1 → lead₀ v ≡ false) → (r : Option ℕ)
      → OpenLead lead₁ next₁ r → IsSome r
  some-lead f None o =
      let s = some₁ (low₁ (none₀ f)) in
      absurd (true≢false (sym s.1.1.1 ∙ o s.0 s.1.0 s.1.1.0))
  some-lead f (Some v) o = refl

  pub taken₁ : q < k.cells1 → (v : ℕ) → Lead lead₁ (2 * k.limit + 1) v → StepTaken row₀ row₁ k h (Row1 v)
  taken₁ l v g =
      let a = lead_adds rows.second rows.first q u p t here.stands₁ here.stands₀ st rests₁
      f₁ l (left₁ l) x v g.below way g.leads in
      (g.below, record { follows = a.follows; rises = omega (arith, a.rises); covered = a.covered })
