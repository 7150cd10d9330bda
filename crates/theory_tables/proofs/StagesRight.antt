-- One row with its tall cells: the costs of a stage, from the row's start or from a tall cell, to a tall cell or to the
-- row's end, are the least costs of the pair theory.
use Rattle.std.specs.Prelude.{◌≡◌, Bool, true, cond, ℕ, suc, ◌<◌}
use Rattle.std.proofs.Common.{◌∙◌, arith, lt-ltb, le-ltb}
use Rattle.theory_row.specs.Window.{Good}
use Rattle.theory_row.proofs.Window.{good_start}
use Rattle.theory_pair.specs.Segment.{State, least, first, last}
use Rattle.theory_pair.specs.Coded.{coded}
use Rattle.theory_tables.specs.Steps.{B, state_count, marks, Layer, first_after, first_open}
use Rattle.theory_tables.specs.Stages.{placed_with, stage_end, open_cost, stage_cost}
use Rattle.theory_tables.proofs.States.{state-at}
use Rattle.theory_tables.proofs.Spots.{cond_yes, cond_no, EndCost, open_end, end-code}
use Rattle.theory_tables.proofs.Layers.{Right, after-right, open_right}
use Rattle.theory_tables.proofs.CostsRight.{placed_as, cost-to, cost-end}
use Rattle.theory_tables.specs.StagesRight.{Row}

module _ {A : Type 0} (R : ℕ) (site_of : A → ℕ) (talls : ℕ) (X : Row site_of talls) where
  -- tall cell I, just placed as state q in pose a
  abbrev pub tall_as : ℕ → ℕ → ℕ → State A
  tall_as I q a = placed_as R X.pose (X.pos I) q a

  -- state q in pose a is the state t at the end of stage I, if it is offered
  pub record Stop (I q a : ℕ) (offer : Bool) (t : State A) : Type 0 where
    pub segment_cost : (s : State A) (f : Layer) → Good R s.1
        → Right R site_of X.line X.deck X.pose X.offered s 0 (suc s.0) f
        → (e : ℕ) → EndCost R site_of X.line s e → stage_end X.deck R talls X.pos I f (suc s.0) e q a
        ≡ cond offer (coded B (least R site_of X.line s t)) B

  pub stop-tall : (I q a : ℕ) → I < talls → q < state_count R → a < X.deck.poses
      → Stop I q a (X.offered (X.pos I) a) (tall_as I q a)
  unfolding stage_end
  stop-tall I q a h k l = record {
    segment_cost = λ s f g r e c.
        cond_yes _ _ (lt-ltb I talls h) ∙ cost-to R site_of X.line X.deck X.pose X.offered
        X.matched s g f r (X.pos I) q a (X.inside I h) k l;
  }

  pub stop-end : Stop talls 0 0 true (last R site_of X.line)
  unfolding stage_end
  stop-end = record {
    segment_cost = λ s f g r e c.
        cond_no _ _ (le-ltb talls talls (omega arith))
        ∙ cost-end R site_of X.line X.deck X.pose X.offered X.matched s g f r e c;
  }

  -- the costs of the first stage, and of a later one
  pub open_is : (q a : ℕ) (offer : Bool) (t : State A) → Stop 0 q a offer t
      → open_cost X.deck R talls X.pos q a
      ≡ cond offer (coded B (least R site_of X.line (first R site_of X.line) t)) B
  unfolding open_cost
  open_is q a offer t p =
      p.segment_cost (first R site_of X.line) (first_open X.deck R) (good_start R)
      (open_right R site_of X.line X.deck X.pose X.offered X.matched) 0 (open_end R site_of X.line)

  pub stage_is : (I s l q a : ℕ) (offer : Bool) (t : State A) → I < talls → s < state_count R → l < X.deck.poses
      → X.offered (X.pos I) l ≡ true → Stop (suc I) q a offer t
      → stage_cost X.deck R talls X.pos I s l q a
      ≡ cond offer (coded B (least R site_of X.line (tall_as I s l) t)) B
  unfolding stage_cost
  stage_is I s l q a offer t h k n o p =
      let g = (state-at R s k).good in
      p.segment_cost (tall_as I s l) (first_after X.deck R (placed_with R (X.pos I) s) (marks R s) (X.pos I) l) g
      (after-right R site_of X.line X.deck X.pose X.offered X.matched (placed_with R (X.pos I) s)
      (marks R s) (X.pos I) l g (X.inside I h) n o)
      (X.deck.back (X.pos I) l)
      (end-code R site_of X.line X.deck X.pose X.offered X.matched (placed_with R (X.pos I) s) (marks R s)
      (X.pos I) l (let z = X.matched.size in let i = X.inside I h in omega arith) n o)
