-- Laws of the row's end: one turn more of each loop, and that only the entries of the first layer count.
use Rattle.std.specs.Prelude.{ℕ, suc, ◌+◌, ◌-◌, ◌≤◌, ◌<◌, ◌≡◌, true, cond, List, get_or, leb, eqb}
use Rattle.std.proofs.Common.{sym, ap, ◌∙◌, inl, inr, arith}
use Rattle.search_store.specs.Map.{kept_from, layer_block, state_block}
use Rattle.theory_tables.specs.Steps.{B, Deck, Layer, state_count, last_at, layers, ends, cost_end}
use Rattle.theory_tables.proofs.Spots.{and_both}
use Rattle.search_lanes.specs.Store.{RowSaid, layer_in}
use Rattle.search_lanes.specs.Laws.{frame-join}
use Rattle.search_row.specs.Words.{there_in}
use Rattle.search_row.specs.Laws.{there-size}
use Rattle.search_wide_buckets.specs.Table.{TableLent}
use Rattle.search_wide_layer.specs.Loops.{next_from, LayerMade}
use Rattle.search_buckets.specs.Ends.{cost-run}
use Rattle.search_wide_segment.specs.Runs.{Running, Outside}
use Rattle.search_buckets.specs.Next.{layers_ext, ends_ext}
use Rattle.search_wide_segment.specs.Laws.{buffer-low, run_more}
use Rattle.search_wide_end.specs.Ends.{ends_with, Ran, Ended}

-- a cell that can be the last stands in the row
pub ends-size : (row : List ℕ) (n R q : ℕ) → ends_with row n R q ≡ true → last_at R n q < n
ends-size row n R q e = there-size n R n q (and_both (there_in n R n q) _ e).0

-- ---- only the entries of the layer count

pub cost_end_ext :
    (D : Deck) (R : ℕ) (f g : Layer) → ((q b : ℕ) → q < state_count R → b < D.poses → f q b ≡ g q b)
    → (i e : ℕ) → cost_end D R f i e ≡ cost_end D R g i e
unfolding cost_end
cost_end_ext D R f g alike i e =
    ap (λ (x : ℕ). cond (leb i D.size) x (cond (eqb i (suc D.size)) e B))
    (ends_ext D R (layers D R f i (D.size - i)) (layers D R g i (D.size - i))
    (λ q b x y. layers_ext D R f g alike i (D.size - i) q b x y))

-- the least of the last layer is the cost
pub ran_cost :
    {D : Deck} {R lanes i at : ℕ} {old new : List ℕ} (l e : ℕ)
    → i ≤ D.size → Running D R lanes i (D.size - i) at old new → l < lanes
    → ends D R (layer_in new at l) ≡ cost_end D R (layer_in old 0 l) i e
ran_cost {D} {R} {i = i} {at = at} {old = old} {new = new} l e h r z =
    ends_ext D R (layer_in new at l) (layers D R (layer_in old 0 l) i (D.size - i)) (λ q b x y. r.right q b l x y z)
    ∙ sym (cost-run D R (layer_in old 0 l) i e h)

-- one layer more
pub ran_more :
    {D : Deck} {R lanes i d at count : ℕ} {old mid new table table' : List ℕ}
    → count ≡ state_count R → Ran D R lanes i d at old mid table
    → LayerMade (next_from D R mid at (i + d)) lanes D.poses (layer_block - at) count mid new table'
    → Ran D R lanes i (d + 1) (layer_block - at) old new table'
ran_more c r m =
    let b = buffer-low r.running.buffer in
    let f = m.filled in
    record {
      running = run_more c r.running f;
      frame = frame-join 0 kept_from r.frame f.frame (omega arith) (omega arith) (omega arith) (omega arith);
      low = f.low;
      lent = m.lent;
    }

-- only the words of a state changed
pub row-outside : {f : ℕ → ℕ} {costs lanes : ℕ} {old new : List ℕ} → RowSaid f costs 0 lanes old new
    → Outside costs state_block old new
row-outside w =
    record {
      long = w.long;
      below = λ k x y. w.kept k (inl (omega arith)) (λ z. omega arith);
      above = λ k x. w.kept k (inr (omega arith)) (λ z. omega arith);
    }

-- where no layer is left to run through
pub end-words :
    {D : Deck} {R lanes i costs : ℕ} {g : ℕ → ℕ} {starts old new table : List ℕ}
    → TableLent table → RowSaid g costs 0 lanes old new
    → ((f : Layer) (l : ℕ) → cost_end D R f i (get_or starts l 0) ≡ g l)
    → Ended D R lanes i costs starts old new table
end-words {old = old} t w e =
    record {
      outside = row-outside w;
      low = w.low;
      lent = t;
      right = λ l h. w.words l h ∙ sym (e (layer_in old 0 l) l);
    }
