-- Sums over the cells from k on, with their laws for a loop that goes up, and how many cells pass a test of their pose.
use Rattle.std.specs.Prelude.{ℕ, zero, suc, ◌+◌, ◌*◌, ◌≤◌, ◌≡◌, refl, Bool, true, false, cond, List, [], ◌∷◌, map, length, get_or, count_by}
use Rattle.std.proofs.Common.{sym, ap, ◌∙◌, arith, mul-le-mul}
use Rattle.std.proofs.lemmas.List.Sums.{sum_by-cons}
use Rattle.definition.specs.Job.{max_weight}
use Rattle.definition.specs.Lists.{from, keep, sum}
use Rattle.definition.specs.Placement as text
use Rattle.definition.specs.Rules.{no_pose, apart}
use Rattle.job.specs.declared.Pose.{Pose}
use Rattle.job.specs.Value.{pose_of}
use Rattle.score_order.specs.declared.Stand.{Stand}
use Rattle.score_order.specs.Words.{site_in, given_in}

-- the sum of f over n cells from k on
unfoldable pub sum_from : (ℕ → ℕ) → ℕ → ℕ → ℕ
sum_from f k n = sum f (from k n)

-- sites shifted, of one cell
unfoldable pub shift_in : List Stand → ℕ → ℕ
shift_in stands k = apart (site_in stands k) (given_in stands k)

pub sum_more : (i k n m : ℕ) → k ≡ suc i → n ≡ suc m → (f : ℕ → ℕ) → sum_from f i n ≡ f i + sum_from f k m
unfolding sum_from
sum_more i k n m e q f = rw (q, e)

pub sum-none : (f : ℕ → ℕ) (k n : ℕ) → n ≡ 0 → sum_from f k n ≡ 0
unfolding sum_from
sum-none f k n e = rw e

-- Of n cells from a on, of which the first have these poses and the others none: as many pass as poses do, if none
-- fails.
pub count-poses : (test : text.Pose → Bool) → test no_pose ≡ false → (l : List Pose) (a n : ℕ) → length l ≤ n
    → (f : ℕ → Bool) → ((i : ℕ) → f (a + i) ≡ test (get_or (map pose_of l) i no_pose))
    → length (keep f (from a n)) ≡ count_by (λ p. test (pose_of p)) l
count-poses test none [] a zero h f g = refl
count-poses test none [] a (suc n) h f g =
    let e : a ≡ a + 0 = omega arith in
    rw (ap f e ∙ g 0 ∙ none)
    (count-poses test none [] (suc a) n (omega arith) f (λ i. let s : suc a + i ≡ a + suc i = omega arith in ap f s ∙ g (suc i)))
count-poses test none (p ∷ l) a zero h f g = absurd (omega arith)
count-poses test none (p ∷ l) a (suc n) h f g =
    let e : a ≡ a + 0 = omega arith in
    let more = count-poses test none l (suc a) n (omega arith) f (λ i. let s : suc a + i ≡ a + suc i = omega arith in ap f s ∙ g (suc i)) in
    rw (ap f e ∙ g 0) (go (test (pose_of p)) more) ∙ sym (sum_by-cons (λ q. cond (test (pose_of q)) 1 0) p l)
  where
    go : (t : Bool) → length (keep f (from (suc a) n)) ≡ count_by (λ p. test (pose_of p)) l
        → length (cond t (a ∷ keep f (from (suc a) n)) (keep f (from (suc a) n)))
        ≡ cond t 1 0 + count_by (λ p. test (pose_of p)) l
    go true e = omega arith
    go false e = omega arith

-- a product of a weight and a bounded number
pub weighed : (w x n : ℕ) → w ≤ max_weight → x ≤ n → w * x ≤ max_weight * n
weighed w x n h g = mul-le-mul h g
