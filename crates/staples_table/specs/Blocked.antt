-- A block from the two that have one cell more: the recurrence's step.
use Prim.Native.Nat.{ℕ, suc, ◌+◌, ◌-◌, ◌*◌, ◌≤◌, ◌<◌, min}
use Rattle.std.specs.Prelude.{◌≡◌, true, List, get_or}
use Rattle.std.proofs.Math.Path.{refl}
use Rattle.std.proofs.Common.{ap, ap₂, ◌∙◌}
use native.Mathlib.Omega.{arith}
use Rattle.theory_cover.specs.FileRow.{FileRow}
use Rattle.theory_cover.specs.Recurrence.{fewest}
use Rattle.search_lanes.specs.Lanes.{always}
use Rattle.search_lanes.specs.Store.{Written}
use Rattle.staples_ways.specs.declared.NextCell.{NextCell}
use Rattle.staples_ways.specs.declared.Rests.{Rests}
use Rattle.staples_ways.specs.Words.{max_numbers, ok_in, file_row, last_cell, LastStands}
use Rattle.staples_ways.specs.Ways.{rest_in, rests_by, ahead_in, Ahead}
use Rattle.staples_table.specs.declared.Looks.{Looks}
use Rattle.staples_table.specs.declared.RowCounts.{RowCounts}
use Rattle.staples_table.specs.Blocks.{block_words, block_at, lesser_way, RowsPut}
use Rattle.staples_table.specs.Blocks.{TwoRows, to_come, BlockRight, BlockMade}
use Rattle.staples_table.specs.Onward.{found-onward}

-- no cell is to come
pub block-end : {row₀ row₁ : List ℕ} {k : RowCounts} {p q : ℕ} {old new : List ℕ} → k.limit ≤ 7
    → p + q ≡ k.cells0 + k.cells1 → Written (always 0) (block_at p q) block_words old new
    → BlockMade row₀ row₁ k p q old new
unfolding fewest
block-end {row₀} {row₁} {k} {p} {q} {new = new} d e w =
    record {
      frame = w.frame;
      low = w.low;
      right = λ t u h i a b.
          let z : to_come k p q ≡ 0 = omega arith in
          rw z (ap (λ (x : ℕ). get_or new x 0) (omega arith) ∙ w.words (t * max_numbers + u) (omega arith));
    }

-- where what is left stands after each row's next cell
abbrev pub rests_of₀ : ℕ → ℕ → Rests
rests_of₀ p q = record { at = block_at p q + 14625; step = 15 }

abbrev pub rests_of₁ : ℕ → ℕ → Rests
rests_of₁ p q = record { at = block_at p q + 225; step = 1 }

abbrev pub next_of : ℕ → ℕ → ℕ → NextCell
next_of n p d = record { cells = n; placed = p; numbers = 2 * d + 1 }

module _ (row₀ row₁ : List ℕ) (k : RowCounts) (p q : ℕ) (st : List ℕ) (rows : TwoRows row₀ row₁ k)
    (next₀ : p < k.cells0 → BlockRight row₀ row₁ k (suc p) q st)
    (next₁ : q < k.cells1 → BlockRight row₀ row₁ k p (suc q) st)
    (some : p + q < k.cells0 + k.cells1) (h₀ : p ≤ k.cells0) (h₁ : q ≤ k.cells1) where
  abbrev L : FileRow
  L = file_row row₀ k.cells0 k.limit

  abbrev M : FileRow
  M = file_row row₁ k.cells1 k.limit

  abbrev numbers : ℕ
  numbers = 2 * k.limit + 1

  abbrev looks : ℕ → ℕ → Looks
  looks g₀ g₁ = record {
    numbers = numbers;
    end0 = (last_cell row₀ k.limit p 0).end;
    end1 = (last_cell row₁ k.limit q 0).end;
    first0 = g₀;
    first1 = g₁;
  }

  abbrev Ahead₀ : ℕ → List ℕ → Type 0
  Ahead₀ g ways =
      Ahead (ahead_in st row₀ (next_of k.cells0 p k.limit) (last_cell row₁ k.limit q 0) (rests_of₀ p q) 1) row₀
      (next_of k.cells0 p k.limit) g ways

  abbrev Ahead₁ : ℕ → List ℕ → Type 0
  Ahead₁ g ways =
      Ahead (ahead_in st row₁ (next_of k.cells1 q k.limit) (last_cell row₀ k.limit p 0) (rests_of₁ p q) 15) row₁
      (next_of k.cells1 q k.limit) g ways

  -- what is left when this cell is placed
  abbrev rest : ℕ
  rest = to_come k p q - 1

  left₀ : (u v : ℕ) → u < numbers → v < numbers → LastStands row₁ k.cells1 k.limit q u
      → ok_in row₀ k.cells0 p v ≡ true → p < k.cells0
      → rest_in st (rests_by (rests_of₀ p q) 1 u) v ≡ fewest L M rest (suc p) v q u
  left₀ u v i j r o l =
      ap (λ (x : ℕ). get_or st x 0) (omega arith)
      ∙ next₀ l v u j i (l, j, o) r
      ∙ ap (λ (x : ℕ). fewest L M x (suc p) v q u) (omega arith)

  left₁ : (t v : ℕ) → t < numbers → v < numbers → LastStands row₀ k.cells0 k.limit p t
      → ok_in row₁ k.cells1 q v ≡ true → q < k.cells1
      → rest_in st (rests_by (rests_of₁ p q) 15 t) v ≡ fewest L M rest p t (suc q) v
  left₁ t v i j r o l =
      ap (λ (x : ℕ). get_or st x 0) (omega arith)
      ∙ next₁ l t v i j r (l, j, o)
      ∙ ap (λ (x : ℕ). fewest L M x p t (suc q) v) (omega arith)

  least-right : {ways₀ ways₁ : List ℕ} {g₀ g₁ : ℕ} (t u : ℕ) → t < numbers → u < numbers
      → LastStands row₀ k.cells0 k.limit p t → LastStands row₁ k.cells1 k.limit q u
      → Ahead₀ g₀ ways₀ → Ahead₁ g₁ ways₁
      → lesser_way ways₀ ways₁ (looks g₀ g₁) t u ≡ fewest L M (to_come k p q) p t q u
  unfolding fewest
  least-right t u i j s r a b =
      let z : to_come k p q ≡ suc rest = omega arith in
      rw z (ap₂ min
      (found-onward rows.first rows.second p t q u s r st (rests_of₀ p q) 1 (λ v. fewest L M rest (suc p) v q u)
      (λ v m o l. left₀ u v j m r o l) refl j h₀ a)
      (found-onward rows.second rows.first q u p t r s st (rests_of₁ p q) 15 (λ v. fewest L M rest p t (suc q) v)
      (λ v m o l. left₁ t v i m s o l) (omega arith) i h₁ b))

  pub block-next : {ways₀ ways₁ : List ℕ} {g₀ g₁ : ℕ} {new : List ℕ} → Ahead₀ g₀ ways₀ → Ahead₁ g₁ ways₁
      → RowsPut (lesser_way ways₀ ways₁ (looks g₀ g₁)) (block_at p q) numbers numbers st new
      → BlockMade row₀ row₁ k p q st new
  block-next a b w =
      record {
        frame = w.frame;
        low = w.low;
        right = λ t u h i s r. w.words t u h i ∙ least-right t u h i s r a b;
      }
