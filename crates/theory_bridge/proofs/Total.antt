-- The cost of a placement is its total in the pair's theory.
use Rattle.std.specs.Prelude.{◌≡◌, Bool, true, false, cond, List, [], ◌∷◌, length}
use Rattle.std.proofs.Math.Path.{sym, ap, ap₂}
use Rattle.std.proofs.Common.{◌∙◌}
use Prim.Native.Nat.{ℕ, ◌+◌, ◌*◌, ◌<◌}
use Rattle.std.proofs.Math.Nat.{mul-add}
use native.Mathlib.Omega.{arith}
use Rattle.std.proofs.Math.Dec.{eqb}
use Rattle.definition.specs.Lists as lists
use Rattle.definition.specs.Job.{Job}
use Rattle.definition.specs.Placement.{Pose, Placement}
use Rattle.definition.specs.Rules.{cell_at, pose_at, site_at, cells_of, apart, order, gap}
use Rattle.definition.specs.Cost.{charge, touching, filled, is_mirrored, differing, steps_at, steps_in, steps_by}
use Rattle.definition.specs.Cost.{touching_steps, filled_steps, shifted, mirrored, changed, cost}
use Rattle.definition_laws.specs.Sound.{Sound}
use Rattle.lists.specs.Numbers.{from, in_from}
use Rattle.theory_row.specs.Rules.{sum, sum_neighbours}
use Rattle.theory_pair.specs.Cells.{Side, row₀, row₁, neighbours, total}
use Rattle.theory_bridge.specs.Paired.{row_of, site_of, width_of, own_of, differing_of, pay_of, pair_job}
use Rattle.theory_bridge.specs.Words.{sum_same, sum_next-same}
use Rattle.theory_bridge.proofs.Row.{Gives, cells_same, order_same, ordered-below}

-- ---- sums at a weight

keep-more : (t : ℕ → Bool) (x : ℕ) (l : List ℕ)
    → length (lists.keep t (x ∷ l)) ≡ cond (t x) 1 0 + length (lists.keep t l)
keep-more t x l = go (t x)
  where
    go : (b : Bool) → length (cond b (x ∷ lists.keep t l) (lists.keep t l)) ≡ cond b 1 0 + length (lists.keep t l)
    go true = omega arith
    go false = omega arith

own-sum : (w u v : ℕ) (A : ℕ → ℕ) (B C : ℕ → Bool) (l : List ℕ)
    → lists.sum (λ k. w * A k + u * cond (B k) 1 0 + v * cond (C k) 1 0) l
    ≡ w * lists.sum A l + u * length (lists.keep B l) + v * length (lists.keep C l)
own-sum w u v A B C [] = omega arith
own-sum w u v A B C (x ∷ l) =
    let r = own-sum w u v A B C l in
    let a = mul-add w (A x) (lists.sum A l) in
    let b = ap (λ n. u * n) (keep-more B x l) ∙ mul-add u (cond (B x) 1 0) (length (lists.keep B l)) in
    let c = ap (λ n. v * n) (keep-more C x l) ∙ mul-add v (cond (C x) 1 0) (length (lists.keep C l)) in
    omega arith

next-sum : (w u : ℕ) (f g : ℕ → ℕ → ℕ) (l : List ℕ)
    → w * lists.sum_next f l + u * lists.sum_next g l ≡ lists.sum_next (λ a b. w * f a b + u * g a b) l
next-sum w u f g [] = omega arith
next-sum w u f g (a ∷ []) = omega arith
next-sum w u f g (a ∷ b ∷ l) =
    let r = next-sum w u f g (b ∷ l) in
    let x = mul-add w (f a b) (lists.sum_next f (b ∷ l)) in
    let y = mul-add u (g a b) (lists.sum_next g (b ∷ l)) in
    omega arith

-- a step has one of the two weights, by its gap
by-gap : (w u gap n : ℕ) → w * (touching gap * n) + u * (filled gap * n) ≡ cond (eqb gap 0) w u * (charge gap * n)
by-gap w u gap n = go (eqb gap 0) (charge gap)
  where
    go : (t : Bool) (c : ℕ) → w * (cond t c 0 * n) + u * (cond t 0 c * n) ≡ cond t w u * (c * n)
    go true c = omega arith
    go false c = omega arith

module _ (j : Job) (sound : Sound j) (P : Placement) (f : ℕ → Pose) (g : Gives P (length j.cells) f) where
  -- the steps of neighbours at their weights
  weighed : Side → ℕ → ℕ → ℕ
  weighed s a b =
      j.header.step_weight * steps_at touching j P (row_of s) a b
      + j.header.filled_weight * steps_at filled j P (row_of s) a b

  -- what neighbours pay in a row
  pay-at : (s : Side) (a b : ℕ) → a < length j.cells → b < length j.cells
      → weighed s a b ≡ pay_of j s (a, f a) (b, f b)
  unfolding weighed steps_at differing pay_of width_of differing_of
  pay-at s a b p q =
      by-gap j.header.step_weight j.header.filled_weight (gap j P a b) (differing j P (row_of s) a b)
      ∙ ap₂ (λ x y. pay_of j s (a, x) (b, y)) (g a p) (g b q)

  row-pays : (s : Side)
      → j.header.step_weight * steps_in touching j P (row_of s) + j.header.filled_weight * steps_in filled j P (row_of s)
      ≡ neighbours site_of (pair_job j) f s
  unfolding steps_in weighed
  row-pays s =
      next-sum j.header.step_weight j.header.filled_weight (steps_at touching j P (row_of s))
      (steps_at filled j P (row_of s)) (order j P (row_of s))
      ∙ sum_next-same (weighed s) pays (order j P (row_of s))
      (λ a b m k. pay-at s a b (ordered-below j sound P f g s a m) (ordered-below j sound P f g s b k))
      ∙ ap (sum_neighbours pays) (order_same j sound P f g s)
    where
      pays : ℕ → ℕ → ℕ
      pays a b = pay_of j s (a, f a) (b, f b)

  -- of both rows
  by_rows : (w : ℕ) (h : ℕ → ℕ) → w * steps_by h j P ≡ w * steps_in h j P 0 + w * steps_in h j P 1
  unfolding steps_by
  by_rows w h =
      let z : steps_in h j P 0 + (steps_in h j P 1 + 0) ≡ steps_in h j P 0 + steps_in h j P 1 = omega arith in
      ap (λ n. w * n) z ∙ mul-add w (steps_in h j P 0) (steps_in h j P 1)

  pay-all : j.header.step_weight * touching_steps j P + j.header.filled_weight * filled_steps j P
      ≡ neighbours site_of (pair_job j) f row₀ + neighbours site_of (pair_job j) f row₁
  pay-all =
      let a = by_rows j.header.step_weight touching in
      let b = by_rows j.header.filled_weight filled in
      let c = row-pays row₀ in
      let d = row-pays row₁ in
      omega arith

  -- what each cell costs by itself
  own-all : j.header.shift_weight * shifted j P + j.header.mirror_weight * mirrored j P
      + j.header.swap_weight * changed j P ≡ sum (λ k. own_of j k (f k)) (from 0 (length j.cells))
  unfolding shifted mirrored changed own_of
  own-all =
      sym (own-sum j.header.shift_weight j.header.mirror_weight j.header.swap_weight
      (λ k. apart (site_at P k) (cell_at j k).given) (is_mirrored P) (λ k. eqb (pose_at P k).layout 1) (cells_of j))
      ∙ ap (lists.sum (λ k. own_of j k (pose_at P k))) (cells_same j sound)
      ∙ sum_same (λ k. own_of j k (pose_at P k)) (λ k. own_of j k (f k)) (from 0 (length j.cells))
      (λ k m. let h = in_from 0 (length j.cells) m in ap (own_of j k) (g k (omega arith)))

  pub cost-total : cost j P ≡ total site_of (pair_job j) f
  unfolding cost
  cost-total = let a = pay-all in let b = own-all in omega arith
