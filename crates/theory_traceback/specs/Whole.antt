-- A row's path up to the last stage goes over all its cells: its words hold each position at one place, and poses by
-- numbers that the words have are the path's.
use Rattle.std.specs.Prelude.{◌≡◌, cond, List, ℕ, ◌/◌, ◌%◌, ◌≤◌, ◌<◌}
use Rattle.std.proofs.Common.{◌∙◌, subst, arith, le-ltb}
use Rattle.theory_tables.specs.Steps.{pose_slots}
use Rattle.theory_pair.specs.Segment.{Choice, first, last, after}
use Rattle.theory_pair.proofs.Segment.{after-size}
use Rattle.theory_pair.specs.Trace.{Obeys}
use Rattle.theory_tables.specs.Notes.{NotedBy}
use Rattle.theory_traceback.specs.Words.{Places, row-places, row_obeys}
use Rattle.theory_traceback.specs.Rows.{RowWithTalls, PathWritten, stood, At, RowTo}

module _ {A : Type 0} (R : ℕ) (site_of : A → ℕ) (talls : ℕ) (W : RowWithTalls site_of talls) (w : ℕ → ℕ) where
  -- a path to the row's end, noted by the words w
  abbrev pub WholePath : List (Choice A) → ℕ → ℕ → Type 0
  WholePath = PathWritten R site_of W.line (At R site_of talls W (NotedBy w)) (last R site_of W.line)

  pub row-ended : (ts : List (Choice A)) (n x : ℕ) → RowTo R site_of talls W (NotedBy w) talls 0 0 ts n x
      → WholePath ts n x
  row-ended ts n x r =
      subst (λ t. PathWritten R site_of W.line (At R site_of talls W (NotedBy w))
      (cond t (stood R site_of talls W talls 0 0) (last R site_of W.line)) ts n x)
      (le-ltb talls talls (omega arith)) r.written

  module _ (h : W.deck.poses ≤ pose_slots) (ts : List (Choice A)) (n x : ℕ) (v : WholePath ts n x) where
    pub whole-size : n ≡ W.line.size
    whole-size =
        let z : (after R site_of W.line (first R site_of W.line) v.upto.path).0 ≡ W.line.size =
        v.upto.move.0.0.0 in
        let y = after-size R site_of W.line (first R site_of W.line) v.upto.path in
        let e = v.size in
        omega arith

    pub whole-places : Places W.line.size W.deck.poses w
    whole-places =
        row-places R site_of W.line W.deck.poses W.pose w v.upto.path h v.upto.goes
        (v.size ∙ whole-size) v.noted

    pub whole_obeys : (number : ℕ → ℕ)
        → ((i : ℕ) → 0 < i → i ≤ W.line.size → number (w i / pose_slots) ≡ w i % pose_slots)
        → Obeys (λ p. W.pose p (number p)) v.upto.path
    whole_obeys number g =
        let e = v.size ∙ whole-size in
        row_obeys R site_of W.line W.deck.poses W.pose w v.upto.path h v.noted number
        (λ i l u. g i l (omega arith))
