-- A row of a job, in the definitions and in the pair's theory: the same cells in file
-- order, and the same order from left to right.
use Rattle.std.specs.Prelude.{◌≡◌, refl, ◌↔◌, Bool, true, false, cond, ◌||◌, eqb}
use Rattle.std.proofs.Common.{sym, ◌∙◌, subst}
use Rattle.std.proofs.Math.Path.{ap}
use mathlib.Core.List.{Memᴰ as In}
use Prim.Native.Nat.{ℕ, zero, suc, ◌≤◌, ◌<◌}
use native.Mathlib.Omega.{arith}
use Rattle.std.proofs.Math.ListN.{length}
use Rattle.definition.specs.Lists as lists
use Rattle.definition.specs.Job.{Job}
use Rattle.definition.specs.Job as job
use Rattle.definition.specs.Placement.{Pose, Placement}
use Rattle.definition.specs.Rules.{cell_at, pose_at, site_at, cells_of, row_cells}
use Rattle.definition.specs.Rules as rules
use Rattle.definition_laws.specs.Sound.{Sound}
use Rattle.lists.specs.Numbers.{from, in_from, from_in}
use Rattle.theory_row.proofs.Order.{sort_in}
use Rattle.theory_pair.specs.Pick.{pick_in, in_pick}
use Rattle.theory_pair.specs.Cells.{Side, row₀, row₁, in_row, is_tall, members, row_order}
use Rattle.theory_bridge.specs.Paired.{kind_of, row_of, site_of, pair_job}
use Rattle.theory_bridge.specs.Words.{from-same, keep-pick, sort-same}

-- f gives each of the first n cells its pose in P
abbrev pub Gives : Placement → ℕ → (ℕ → Pose) → Type 0
Gives P n f = (k : ℕ) → k < n → pose_at P k ≡ f k

-- ---- kinds

row-kind : (s : Side) (r : ℕ) → r ≤ 2 → (eqb r 2 || eqb r (row_of s)) ≡ in_row s (kind_of r)
row-kind row₀ zero h = refl
row-kind row₁ zero h = refl
row-kind row₀ (suc zero) h = refl
row-kind row₁ (suc zero) h = refl
row-kind row₀ (suc (suc zero)) h = refl
row-kind row₁ (suc (suc zero)) h = refl
row-kind s (suc (suc (suc r))) h = absurd (omega arith)

tall-kind : (r : ℕ) → r ≤ 2 → eqb r 2 ≡ is_tall (kind_of r)
tall-kind zero h = refl
tall-kind (suc zero) h = refl
tall-kind (suc (suc zero)) h = refl
tall-kind (suc (suc (suc r))) h = absurd (omega arith)

module _ (j : Job) (sound : Sound j) where
  pub row_low : (k : ℕ) → k < length j.cells → (cell_at j k).row ≤ 2
  row_low k h = go (eqb j.header.rows 2) (sound.cell k h).row
    where
      go : (t : Bool) → (cell_at j k).row ≤ cond t 2 0 → (cell_at j k).row ≤ 2
      go true l = l
      go false l = omega arith

  in_row_same : (s : Side) (k : ℕ) → k < length j.cells
      → job.in_row (row_of s) (cell_at j k) ≡ in_row s ((pair_job j).kind k)
  in_row_same s k h = row-kind s (cell_at j k).row (row_low k h)

  pub is_tall-same : (k : ℕ) → k < length j.cells → job.is_tall (cell_at j k) ≡ is_tall ((pair_job j).kind k)
  is_tall-same k h = tall-kind (cell_at j k).row (row_low k h)

  -- ---- the cells of a row

  pub cells_same : cells_of j ≡ from 0 (length j.cells)
  cells_same = from-same 0 (length j.cells)

  pub in_cells : (k : ℕ) → In k (cells_of j) ↔ (k < length j.cells)
  in_cells k = (
    λ m. let h = in_from 0 (length j.cells) (subst (λ l. In k l) cells_same m) in omega arith,
    λ h. subst (λ l. In k l) (sym cells_same) (from_in k 0 (length j.cells) (omega arith) (omega arith)),
  )

  pub members-same : (s : Side) → row_cells j (row_of s) ≡ members (pair_job j) s
  unfolding members
  members-same s =
      ap (lists.keep (λ k. job.in_row (row_of s) (cell_at j k))) cells_same
      ∙ keep-pick (λ k. job.in_row (row_of s) (cell_at j k)) (λ k. in_row s ((pair_job j).kind k))
      (from 0 (length j.cells))
      (λ k m. let h = in_from 0 (length j.cells) m in in_row_same s k (omega arith))

  -- which cells they are
  pub member : (s : Side) (k : ℕ)
      → In k (members (pair_job j) s) ↔ ((k < length j.cells) × (job.in_row (row_of s) (cell_at j k) ≡ true))
  unfolding members
  member s k = (
    λ m. let r = pick_in test (from 0 n) m in let h = in_from 0 n r.0 in let b : k < n = omega arith in
        (b, in_row_same s k b ∙ r.1),
    λ p. in_pick test (from 0 n) (from_in k 0 n (omega arith) (let h = p.0 in omega arith))
        (sym (in_row_same s k p.0) ∙ p.1),
  )
    where
      n : ℕ
      n = length j.cells

      test : ℕ → Bool
      test k = in_row s ((pair_job j).kind k)

  pub order_same : (P : Placement) (f : ℕ → Pose) → Gives P (length j.cells) f → (s : Side)
      → rules.order j P (row_of s) ≡ row_order site_of (pair_job j) f s
  unfolding rules.order
  order_same P f g s =
      ap (rules.sort (site_at P)) (members-same s)
      ∙ sort-same (site_at P) (λ k. site_of (f k)) (members (pair_job j) s) (λ k m. ap site_of (g k ((member s k).0 m).0))

  pub ordered-below : (P : Placement) (f : ℕ → Pose) → Gives P (length j.cells) f → (s : Side) (k : ℕ)
      → In k (rules.order j P (row_of s)) → k < length j.cells
  ordered-below P f g s k m =
      ((member s k).0
      (sort_in (λ k. site_of (f k)) (members (pair_job j) s) (subst (λ l. In k l) (order_same P f g s) m))).0
