-- A legal placement costs little: at most 64 cells, each at most 9000 by itself, and at most 2000 between neighbours in
-- either row. So costs that stop at 2^28 are exact.
use Rattle.std.specs.Prelude.{refl, Bool, eqb}
use Rattle.std.proofs.Math.Bool.{true, false, cond}
use mathlib.Core.List.Memᴰ.{head as here}
use mathlib.Core.List.Memᴰ.{tail as there}
use mathlib.Core.List.{List, [], ◌∷◌, Memᴰ as In}
use Prim.Native.Nat.{ℕ, suc, ◌*◌, ◌≤◌, ◌<◌}
use Rattle.std.proofs.Math.Nat.{mul-le-mul, suc-mul}
use native.Mathlib.Omega.{arith}
use Rattle.std.proofs.Math.ListN.{length}
use Rattle.definition.specs.Job.{Job, max_displacement, max_weight}
use Rattle.definition.specs.Placement.{Pose, Placement}
use Rattle.definition.specs.Rules.{Legal, cell_at, pose_at, apart}
use Rattle.definition.specs.Cost.{cost}
use Rattle.definition_laws.specs.Sound.{Sound}
use Rattle.definition_laws.specs.Offers.{limit-within}
use Rattle.definition_laws.specs.Gaps.{charge-most}
use Rattle.lists.specs.Numbers.{from, length_from, in_from}
use Rattle.theory_row.proofs.Order.{sort-size}
use Rattle.theory_row.specs.Rules.{sum, sum_next, sum_neighbours}
use Rattle.theory_pair.specs.Pick.{pick}
use Rattle.theory_pair.specs.Cells.{Side, row₀, row₁, in_row, members, row_order, neighbours}
use Rattle.theory_bridge.specs.Paired.{row_of, site_of, gap_of, left_of, right_of}
use Rattle.theory_bridge.specs.Paired.{own_of, differing_of, pay_of, pair_job}
use Rattle.theory_bridge.proofs.Offers.{Allowed, keeps_allowed}
use Rattle.theory_bridge.proofs.Total.{cost-total}
use Rattle.theory_bridge.specs.Small.{bound}

-- ---- sums of numbers that are each at most c

module _ (c : ℕ) where
  sum-most : (f : ℕ → ℕ) (l : List ℕ) → ((k : ℕ) → In k l → f k ≤ c) → sum f l ≤ length l * c
  unfolding sum
  sum-most f [] h = omega arith
  sum-most f (x ∷ l) h =
      let a = h x (here refl) in
      let r = sum-most f l (λ k m. h k (there m)) in
      omega (arith, suc-mul (length l) c)

  next-most : (f : ℕ → ℕ → ℕ) → ((a b : ℕ) → f a b ≤ c) → (a : ℕ) (l : List ℕ) → sum_next f a l ≤ length l * c
  unfolding sum_next
  next-most f h a [] = omega arith
  next-most f h a (b ∷ l) = let x = h a b in let r = next-most f h b l in omega (arith, suc-mul (length l) c)

  neighbours-most : (f : ℕ → ℕ → ℕ) → ((a b : ℕ) → f a b ≤ c) → (l : List ℕ) → sum_neighbours f l ≤ length l * c
  neighbours-most f h [] = omega arith
  neighbours-most f h (a ∷ l) = let r = next-most f h a l in omega (arith, suc-mul (length l) c)

pick-most : (t : ℕ → Bool) (l : List ℕ) → length (pick t l) ≤ length l
unfolding pick
pick-most t [] = omega arith
pick-most t (x ∷ l) = go (t x) (pick-most t l)
  where
    go : (b : Bool) → length (pick t l) ≤ length l → length (cond b (x ∷ pick t l) (pick t l)) ≤ suc (length l)
    go true h = omega arith
    go false h = omega arith

-- ---- the terms

one-most : (t : Bool) → cond t 1 0 ≤ 1
one-most true = omega arith
one-most false = omega arith

differs-most : (t : Bool) → cond t 0 1 ≤ 1
differs-most true = omega arith
differs-most false = omega arith

module _ (j : Job) (sound : Sound j) where
  pay-most : (s : Side) (x y : ℕ × Pose) → pay_of j s x y ≤ 2000
  unfolding pay_of differing_of
  pay-most s x y =
      let two : differing_of j (row_of s) x y ≤ 2 = omega (arith, differs-most (differs 0), differs-most (differs 1)) in
      mul-le-mul (weight-most (eqb (gap_of j x y) 0)) (mul-le-mul (charge-most (gap_of j x y)) two)
    where
      weight-most : (t : Bool) → cond t j.header.step_weight j.header.filled_weight ≤ max_weight
      weight-most true = sound.header.step
      weight-most false = sound.header.filled

      differs : ℕ → Bool
      differs type = eqb (right_of j (row_of s) x.0 x.1 type) (left_of j (row_of s) y.0 y.1 type)

  own-most : (k : ℕ) (p : Pose) → Allowed j k p → own_of j k p ≤ 9000
  unfolding own_of
  own-most k p a =
      let d = sound.header.displacement in
      let l = a.left in
      let r = a.right in
      let within = limit-within j.header (cell_at j k) in
      let near : apart p.site (cell_at j k).given ≤ max_displacement = omega arith in
      omega (
        arith,
        mul-le-mul sound.header.shift near,
        mul-le-mul sound.header.mirror (one-most (eqb p.mark 1)),
        mul-le-mul sound.header.swap (one-most (eqb p.layout 1)),
      )

  row-most : (f : ℕ → Pose) (s : Side) → neighbours site_of (pair_job j) f s ≤ 128000
  unfolding members
  row-most f s =
      let n = length j.cells in
      let site : ℕ → ℕ = λ k. site_of (f k) in
      let a = neighbours-most 2000 (λ a b. pay_of j s (a, f a) (b, f b)) (λ a b. pay-most s (a, f a) (b, f b))
      (row_order site_of (pair_job j) f s) in
      let b = sort-size site (members (pair_job j) s) in
      let c = pick-most (λ k. in_row s ((pair_job j).kind k)) (from 0 n) in
      let d = length_from 0 n in
      let e = sound.few in
      omega arith

  pub cost-small : (P : Placement) → Legal j P → cost j P < bound
  cost-small P l =
      let n = length j.cells in
      let own : (k : ℕ) → In k (from 0 n) → own_of j k (pose_at P k) ≤ 9000 =
      λ k m. let h = in_from 0 n m in let b : k < n = omega arith in
      own-most k (pose_at P k) ((keeps_allowed j k P).0 (l.rule 1 k b, l.rule 2 k b, l.rule 3 k b))
      in
      let a = sum-most 9000 (λ k. own_of j k (pose_at P k)) (from 0 n) own in
      let b = length_from 0 n in
      let c = sound.few in
      let d₀ = row-most (pose_at P) row₀ in
      let d₁ = row-most (pose_at P) row₁ in
      let e = cost-total j sound P (pose_at P) (λ k h. refl) in
      omega arith
