-- The header and the cell made of a line's numbers are those of document 01, where the field count fits them.
use Prim.Native.Nat.{ℕ, zero, suc, ◌+◌, ◌*◌, ◌≤◌, ◌<◌}
use Rattle.std.specs.Prelude.{◌≡◌, refl, Bool, cond, List, length, get_or, eqb}
use Rattle.std.proofs.Common.{sym, ap, ◌∙◌, arith}
use Rattle.std.proofs.Math.Bool.{true, false}
use Rattle.definition.specs.Job as paper
use Rattle.definition_laws.specs.Weights.{equal_range}
use Rattle.job.specs.Value.{cell_of, header_of}
use Rattle.job_ranges.specs.Listed.{spelled, spell_as}
use Rattle.job_ranges.specs.Values.{cell_in, header_in, listed}

module _ (n v : List ℕ) (same : (k : ℕ) → k < 24 → get_or v k 0 ≡ paper.nth n k) where
  spelt : (k : ℕ) → k ≤ 24 → length n ≡ k → n ≡ spelled 0 k v
  spelt k h e = spell_as k n v e (λ j l. sym (same j (omega arith)))

  pub header-ranged : (filled : Bool) → length n ≡ cond filled 9 8
      → paper.header_in_range (listed (header_in filled v)) ≡ paper.header_in_range n
  header-ranged true e = ap paper.header_in_range (sym (spelt 9 (omega arith) e))
  header-ranged false e =
      equal_range (get_or v 0 0) (get_or v 1 0) (get_or v 2 0) (get_or v 3 0) (get_or v 4 0) (get_or v 5 0) (get_or v 6 0)
      (get_or v 7 0)
      ∙ ap paper.header_in_range (sym (spelt 8 (omega arith) e))

  pub header_made : (filled : Bool) → length n ≡ cond filled 9 8
      → header_of (header_in filled v) ≡ paper.header_of filled n
  unfolding header_of paper.header_of
  header_made true e = rw (spelt 9 (omega arith) e)
  header_made false e = rw (spelt 8 (omega arith) e)

  -- by rows and layouts
  made : (fixed t : Bool) (k : ℕ) → eqb (get_or v 0 0) 2 ≡ t → get_or v 3 0 ≡ k → 1 ≤ k → k ≤ 2
      → length n ≡ 4 + k * cond t 9 5
      → cell_of (cell_in fixed v) ≡ paper.cell_of fixed n
  unfolding cell_of paper.cell_of paper.layouts_of
  made fixed t zero r e h l s = absurd (omega arith)
  made fixed true (suc zero) r e h l s = rw (spelt 13 (omega arith) s, r, e)
  made fixed false (suc zero) r e h l s = rw (spelt 9 (omega arith) s, r, e)
  made fixed true (suc (suc zero)) r e h l s = rw (spelt 22 (omega arith) s, r, e)
  made fixed false (suc (suc zero)) r e h l s = rw (spelt 14 (omega arith) s, r, e)
  made fixed t (suc (suc (suc k))) r e h l s = absurd (omega arith)

  pub cell-made : (fixed : Bool) → 1 ≤ paper.nth n 3 → paper.nth n 3 ≤ 2
      → length n ≡ 4 + paper.nth n 3 * paper.layout_size (paper.nth n 0) → cell_of (cell_in fixed v) ≡ paper.cell_of fixed n
  cell-made fixed h l s =
      made fixed (eqb (get_or v 0 0) 2) (paper.nth n 3) refl (same 3 (omega arith)) h l (s ∙ rw (same 0 (omega arith)))
