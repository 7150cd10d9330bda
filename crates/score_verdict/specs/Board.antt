-- What the rules are judged by: a job and a placement, how its cells stand, and the order of both rows.
use Rattle.std.specs.Prelude.{ℕ, ◌-◌, ◌≡◌, Bool, List, length, take, drop}
use Rattle.std.proofs.Common.{arith, length-take, length-drop}
use Rattle.definition.specs.Job.{max_cells}
use Rattle.definition.specs.Rules.{breaks2, breaks4, breaks5, breaks6, breaks7, breaks8}
use Rattle.job.specs.declared.Job.{Job}
use Rattle.job.specs.declared.Placement.{Placement}
use Rattle.job.specs.Ready.{Ready}
use Rattle.job.specs.Value.{header_of, job_of, placement_of}
use Rattle.score_order.specs.Words.{order_in, Tail}
use Rattle.score_order.specs.Arrays.{tail-slice}
use Rattle.score_order.specs.Below.{below-order}
use Rattle.score_order.specs.declared.Stand.{Stand}
use Rattle.score_words.specs.Flat.{Flat}
use Rattle.score_cell_rules.specs.Tests.{past_in, clashes_in, passes_in, RowOrder}
use Rattle.score_cell_rules.specs.Marks.{Added, Unmarked, added-below}
use Rattle.score_row_rules.specs.Tests.{near_any, out_any, at_end_any}
use Rattle.score_verdict.specs.Flat.{flat2, flat4, flat5, flat6, flat7, flat8}

-- a job and a placement that may be scored, and a mark for each cell, of which none is marked yet
pub record ReadyClear (job : Job) (P : Placement) (m : List Bool) : Type 0 where
  pub ready : Ready job P
  pub long : length m ≡ job.count
  pub clear : Unmarked m

-- the same, how the cells stand, and the orders
pub record Board (job : Job) (P : Placement) (stands : List Stand) (order₀ order₁ : List ℕ) (m : List Bool) : Type 0 where
  pub given : ReadyClear job P m
  pub flat : Flat (job_of job) (placement_of P) stands
  pub count : length stands ≡ job.count
  pub row0 : RowOrder stands 0 order₀
  pub row1 : RowOrder stands 1 order₁

-- the end of an array that has been ordered
pub row-order : {stands : List Stand} {row at : ℕ} {array : List ℕ} → Tail at array (order_in stands row)
    → RowOrder stands row (take (max_cells - at) (drop at array))
row-order {stands} {row} t = record {
  few = simp (length-take, length-drop) (omega (arith, t.long));
  cells = rw (tail-slice t) (below-order stands row);
  same = tail-slice t;
}

-- ---- the tests by how the cells stand are the rules

module _ {job : Job} {P : Placement} {stands : List Stand} {order₀ order₁ : List ℕ} {m₀ : List Bool}
    (board : Board job P stands order₀ order₁ m₀) {m m' : List Bool} where
  of-rule : (f g : ℕ → Bool) → ((k : ℕ) → f k ≡ g k) → Added f m m' → Added g m m'
  of-rule f g e = added-below f g m m' (λ k _. e k)

  pub marks2 : Added (past_in stands job.header.sites) m m' → Added (breaks2 (job_of job) (placement_of P)) m m'
  unfolding job_of header_of
  marks2 = of-rule (past_in stands job.header.sites) (breaks2 (job_of job) (placement_of P)) (flat2 board.flat)

  pub marks4 : Added (clashes_in stands) m m' → Added (breaks4 (job_of job) (placement_of P)) m m'
  marks4 = of-rule (clashes_in stands) (breaks4 (job_of job) (placement_of P)) (flat4 board.flat)

  pub marks5 : Added (near_any stands) m m' → Added (breaks5 (job_of job) (placement_of P)) m m'
  marks5 = of-rule (near_any stands) (breaks5 (job_of job) (placement_of P)) (flat5 board.flat)

  pub marks6 : Added (out_any stands job.header.reordering) m m' → Added (breaks6 (job_of job) (placement_of P)) m m'
  unfolding job_of header_of
  marks6 = of-rule (out_any stands job.header.reordering) (breaks6 (job_of job) (placement_of P)) (flat6 board.flat)

  pub marks7 : Added (passes_in stands) m m' → Added (breaks7 (job_of job) (placement_of P)) m m'
  marks7 = of-rule (passes_in stands) (breaks7 (job_of job) (placement_of P)) (flat7 board.flat)

  pub marks8 : Added (at_end_any stands job.header.sites) m m' → Added (breaks8 (job_of job) (placement_of P)) m m'
  unfolding job_of header_of
  marks8 = of-rule (at_end_any stands job.header.sites) (breaks8 (job_of job) (placement_of P)) (flat8 board.flat)
