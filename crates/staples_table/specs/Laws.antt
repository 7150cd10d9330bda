-- Laws of blocks: row after row, and block after block.
use Rattle.std.specs.Prelude.{ℕ, suc, ◌+◌, ◌*◌, ◌≤◌, ◌<◌, ◌≡◌, ◌⊎◌, List}
use Rattle.std.proofs.Common.{sym, subst, ◌∙◌, ⊎_elim, inl, arith, below_more}
use Rattle.std.proofs.Math.Decide.{ℕ_discrete}
use Rattle.search_lanes.specs.Store.{Frame, Written}
use Rattle.search_lanes.specs.Laws.{frame-join}
use Rattle.staples_ways.specs.Words.{max_numbers}
use Rattle.staples_table.specs.declared.RowCounts.{RowCounts}
use Rattle.staples_table.specs.Blocks.{block_words, block_at, block_word, RowsPut, BlockRight, BlockMade}
use Rattle.staples_table.specs.Blocks.{LineRight, LineMade, TableMade}

pub rows_more :
    {f : ℕ → ℕ → ℕ} {at n m : ℕ} {old mid new : List ℕ}
    → n < max_numbers → m ≤ max_numbers → RowsPut f at n m old mid → Written (f n) (at + n * max_numbers) m mid new
    → RowsPut f at (n + 1) m old new
rows_more {f} {at} {n} {m} {old} {mid} {new} h k s w =
    record {
      frame = frame-join at (at + block_words) s.frame w.frame (omega arith) (omega arith) (omega arith)
          (omega arith);
      low = w.low;
      words = λ t u i j.
          below_more (λ (t : ℕ). block_word new at t u ≡ f t u) n
          (λ t l. w.frame.low (at + t * max_numbers + u) (omega arith) ∙ s.words t u l j)
          (w.words u j)
          t i;
    }

-- ---- block after block

-- a block stays right while its words stay
pub right_kept : (row₀ row₁ : List ℕ) (k : RowCounts) (p q : ℕ) {a b : ℕ} {old new : List ℕ} → k.limit ≤ 7
    → Frame a b old new → (b ≤ block_at p q) ⊎ (block_at p q + block_words ≤ a) → BlockRight row₀ row₁ k p q old
    → BlockRight row₀ row₁ k p q new
right_kept row₀ row₁ k p q d f apart r t u h i s m =
    ⊎_elim
    (λ l. f.high (block_at p q + t * max_numbers + u) (omega arith))
    (λ l. f.low (block_at p q + t * max_numbers + u) (omega arith))
    apart
    ∙ r t u h i s m

pub line-more : {row₀ row₁ : List ℕ} {k : RowCounts} {p q : ℕ} {old mid new : List ℕ} → k.limit ≤ 7 → k.cells1 ≤ 64
    → q ≤ k.cells1 → LineMade row₀ row₁ k p (q + 1) old mid → BlockMade row₀ row₁ k p q mid new
    → LineMade row₀ row₁ k p q old new
line-more {row₀} {row₁} {k} {p} {q} {old} {mid} {new} d n h s w =
    record {
      frame = frame-join (block_at p 0) (block_at (suc p) 0) s.frame w.frame (omega arith) (omega arith)
          (omega arith) (omega arith);
      low = w.low;
      right = λ r a b. go r a b (ℕ_discrete r q);
    }
  where
    go : (r : ℕ) → q ≤ r → r ≤ k.cells1 → Dec (r ≡ q) → BlockRight row₀ row₁ k p r new
    go r a b (yes e) = subst (λ (x : ℕ). BlockRight row₀ row₁ k p x new) (sym e) w.right
    go r a b (no e) =
        right_kept row₀ row₁ k p r d w.frame (inl (omega arith)) (s.right r (omega arith) b)

pub table_more : {row₀ row₁ : List ℕ} {k : RowCounts} {p : ℕ} {old mid new : List ℕ} → k.limit ≤ 7 → k.cells1 ≤ 64
    → p ≤ k.cells0 → TableMade row₀ row₁ k (p + 1) old mid → LineMade row₀ row₁ k p 0 mid new
    → TableMade row₀ row₁ k p old new
table_more {row₀} {row₁} {k} {p} {old} {mid} {new} d n h s w =
    record { long = w.frame.long ∙ s.long; low = w.low; right = λ r a b. go r a b (ℕ_discrete r p) }
  where
    go : (r : ℕ) → p ≤ r → r ≤ k.cells0 → Dec (r ≡ p) → LineRight row₀ row₁ k r 0 new
    go r a b (yes e) = subst (λ (x : ℕ). LineRight row₀ row₁ k x 0 new) (sym e) w.right
    go r a b (no e) =
        λ q i j. right_kept row₀ row₁ k r q d w.frame (inl (omega arith)) (s.right r (omega arith) b q i j)
