-- The cost of a stage depends on the entries of its first layer alone.
use Rattle.std.specs.Prelude.{ℕ, suc, ◌≤◌, ◌<◌, ◌≡◌, Bool, ◌&&◌, ltb}
use Rattle.std.proofs.Math.Path.{ap}
use Rattle.std.proofs.Math.Bool.{true, false, cond}
use Rattle.std.proofs.Common.{lt-ltb, le-ltb}
use Rattle.std.proofs.Math.Dec.{eqb}
use Rattle.theory_tables.specs.Steps.{B, Deck, Layer, state_count, cost_to, cost_end}
use Rattle.theory_tables.specs.Stages.{stage_end}
use Rattle.search_wide_segment.specs.Laws.{cost_to_ext}
use Rattle.search_wide_end.specs.Laws.{cost_end_ext}
use Rattle.search_stage.specs.Stage.{wide}

module _ (D : Deck) (R : ℕ) (f g : Layer) (same : (q a : ℕ) → q < state_count R → a < D.poses → f q a ≡ g q a) where
  -- the entries that table number I + 1 has
  pub stage_ext : (talls : ℕ) (pos : ℕ → ℕ) (I i e q a : ℕ)
      → q < wide talls (suc I) (state_count R) → a < wide talls (suc I) D.poses
      → stage_end D R talls pos I f i e q a ≡ stage_end D R talls pos I g i e q a
  unfolding stage_end wide
  stage_ext talls pos I i e q a x y = go (ltb I talls) x y
    where
      go : (t : Bool) → q < cond t (state_count R) 1 → a < cond t D.poses 1
          → cond t (cost_to D R f i (pos I) q a) (cond (eqb q 0 && eqb a 0) (cost_end D R f i e) B)
          ≡ cond t (cost_to D R g i (pos I) q a) (cond (eqb q 0 && eqb a 0) (cost_end D R g i e) B)
      go true x y = cost_to_ext D R f g same i (pos I) q a x y
      go false x y = ap (λ (v : ℕ). cond (eqb q 0 && eqb a 0) v B) (cost_end_ext D R f g same i e)

-- to a tall cell, and to the row's end
module _ (D : Deck) (R talls : ℕ) (pos : ℕ → ℕ) (f : Layer) (I i e : ℕ) where
  pub stage-tall : (q a : ℕ) → I < talls → stage_end D R talls pos I f i e q a ≡ cost_to D R f i (pos I) q a
  unfolding stage_end
  stage-tall q a h = rw (lt-ltb I talls h)

  pub stage-last : (q a : ℕ) → talls ≤ I → q ≡ 0 → a ≡ 0 → stage_end D R talls pos I f i e q a ≡ cost_end D R f i e
  unfolding stage_end
  stage-last q a h x y = rw (le-ltb I talls h, x, y)
