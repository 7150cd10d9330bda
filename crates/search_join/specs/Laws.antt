-- Laws of loops that keep the least: one round more, where the least is, the least of costs that are equal below B; and
-- when a number is the least of all ways to a case.
use Rattle.std.specs.Prelude.{ℕ, zero, suc, ◌+◌, ◌≤◌, ◌<◌, min, ◌≡◌, refl, Option, None, Some, unwrap_or}
use Rattle.std.proofs.Common.{sym, ◌∙◌, subst}
use native.Mathlib.Omega.{arith}
use Rattle.std.proofs.Math.Decide.{dec_lt}
use Rattle.lists.specs.Numbers.{from}
use Rattle.theory_pair.specs.Coded.{lowest, lowest-from, lowest-low}
use Rattle.theory_tables.specs.Steps.{B, Cases, SegmentCosts, join_pose, next_cases}
use Rattle.theory_tables.specs.Lowest.{loop_member, loop_above}
use Rattle.search_join.specs.Tables.{case_state₀, case_state₁, case_pose, pointer_end}
use Rattle.search_join.specs.declared.Best.{Best}
use Rattle.search_join.specs.Tables.{Least, Way}
use Rattle.search_join.specs.Found.{cost_of, LeastFound}

-- ---- loops

pub lowest-zero : (h : ℕ → ℕ) → lowest B h (from 0 0) ≡ B
unfolding lowest from
lowest-zero h = refl

-- one round more; and with the code's i + 1
lowest-suc : (h : ℕ → ℕ) (n : ℕ) → lowest B h (from 0 (suc n)) ≡ min (lowest B h (from 0 n)) (h n)
lowest-suc h n = let e : 0 + n ≡ n = omega arith in rw e at (lowest-from B h 0 n)

pub lowest-more : (h : ℕ → ℕ) (n : ℕ) → lowest B h (from 0 (n + 1)) ≡ min (lowest B h (from 0 n)) (h n)
lowest-more h n = let e : n + 1 ≡ suc n = omega arith in rw e (lowest-suc h n)

-- the least of costs that are equal below B
pub lowest-same : (h g : ℕ → ℕ) (n : ℕ) → ((k : ℕ) → k < n → min (h k) B ≡ min (g k) B)
    → lowest B h (from 0 n) ≡ lowest B g (from 0 n)
lowest-same h g zero e = lowest-zero h ∙ sym (lowest-zero g)
lowest-same h g (suc n) e =
    let r = lowest-same h g n (λ k l. e k (omega arith)) in
    omega (arith, lowest-suc h n, lowest-suc g n, e n (omega arith), lowest-low B h (from 0 n))

-- below B the least is one of them
pub lowest-at : (h : ℕ → ℕ) (n : ℕ) → lowest B h (from 0 n) < B → (k : ℕ) × (k < n) × (h k ≡ lowest B h (from 0 n))
lowest-at h zero l = absurd (omega (arith, lowest-zero h))
lowest-at h (suc n) l = go (dec_lt (h n) (lowest B h (from 0 n))) (lowest-at h n)
  where
    go : Dec (h n < lowest B h (from 0 n))
        → (lowest B h (from 0 n) < B → (k : ℕ) × (k < n) × (h k ≡ lowest B h (from 0 n)))
        → (k : ℕ) × (k < suc n) × (h k ≡ lowest B h (from 0 (suc n)))
    go (yes d) f = (n, omega arith, omega (arith, lowest-suc h n))
    go (no d) f = let r = f (omega (arith, lowest-suc h n)) in (r.0, omega arith, omega (arith, r.2, lowest-suc h n))

-- ---- the least, and where it is

-- the least that was found costs what the least is
found_cost : {least : ℕ} (W : ℕ → ℕ → Type 0) (best : Option Best) → LeastFound least W best → cost_of best ≡ least
found_cost W None w = sym w
found_cost W (Some best) w = w.1.right

-- one cost more, which W has at its code: the lower of the two
pub best_more :
    (h : ℕ → ℕ) (n : ℕ) (W : ℕ → ℕ → Type 0) (value code : ℕ) (best next : Option Best)
    → value ≡ h n → W value code → code < pointer_end → LeastFound (lowest B h (from 0 n)) W best
    → (value < cost_of best → next ≡ Some (record { value = value; code = code }))
    → (cost_of best ≤ value → next ≡ best)
    → LeastFound (lowest B h (from 0 (n + 1))) W next
best_more h n W value code best next e met small w lower kept = go (dec_lt value (cost_of best))
  where
    cost : cost_of best ≡ lowest B h (from 0 n)
    cost = found_cost W best w

    go : Dec (value < cost_of best) → LeastFound (lowest B h (from 0 (n + 1))) W next
    go (yes l) =
        let low : value < B = omega (arith, cost, lowest-low B h (from 0 n)) in
        rw (lower l) (low, record { right = omega (arith, cost, lowest-more h n); found = λ b. met; small = small })
    go (no l) =
        let k : cost_of best ≤ value = omega arith in
        let same : lowest B h (from 0 n) ≡ lowest B h (from 0 (n + 1)) = omega (arith, cost, lowest-more h n) in
        rw (kept k) (subst (λ (m : ℕ). LeastFound m W best) same w)

-- where there is none, the store says B
pub found_or : {least : ℕ} (W : ℕ → ℕ → Type 0) (best : Option Best) (none : Best) → none.value ≡ B → none.code ≡ 0
    → LeastFound least W best → Least least W (unwrap_or best none).value (unwrap_or best none).code
found_or W None none e c w =
    record { right = e ∙ sym w; found = λ h. absurd (omega arith); small = omega arith }
found_or W (Some best) none e c w = w.1

-- ---- the least of all ways to a case

module _ (starts lanes : ℕ) (f : Cases) (x₀ x₁ : SegmentCosts) (q₀ q₁ a : ℕ) where
  -- the cost by way of the states s and t and lane l
  abbrev pub cost : ℕ → ℕ → ℕ → ℕ
  cost s t l = f s t l + (x₀ s l q₀ a + x₁ t l q₁ a)

  pub next_low : next_cases starts lanes f x₀ x₁ q₀ q₁ a ≤ B
  unfolding next_cases
  next_low = lowest-low B _ (from 0 starts)

  pub next-below : (s t l : ℕ) → s < starts → t < starts → l < lanes
      → next_cases starts lanes f x₀ x₁ q₀ q₁ a ≤ cost s t l
  unfolding next_cases join_pose
  next-below s t l h g k =
      omega (
        arith,
        loop_member B (λ s. lowest B (λ t. join_pose lanes f x₀ x₁ s t q₀ q₁ a) (from 0 starts)) starts s h,
        loop_member B (λ t. join_pose lanes f x₀ x₁ s t q₀ q₁ a) starts t g,
        loop_member B (cost s t) lanes l k,
      )

  pub next-above : (v : ℕ) → v ≤ B → ((s t l : ℕ) → s < starts → t < starts → l < lanes → v ≤ cost s t l)
      → v ≤ next_cases starts lanes f x₀ x₁ q₀ q₁ a
  unfolding next_cases join_pose
  next-above v b all =
      loop_above B _ starts v b
      (λ s h. loop_above B _ starts v b (λ t g. loop_above B _ lanes v b (λ l k. all s t l h g k)))

  -- where every cost is B or more, there is no way
  pub next-none : ((s t l : ℕ) → s < starts → t < starts → l < lanes → B ≤ cost s t l)
      → next_cases starts lanes f x₀ x₁ q₀ q₁ a ≡ B
  next-none all = omega (arith, next_low, next-above B (omega arith) all)

  -- a number that is at most every cost, and is one of them if it is below B, is the least
  pub next-is : (v : ℕ) {code : ℕ} → v ≤ B → ((s t l : ℕ) → s < starts → t < starts → l < lanes → v ≤ cost s t l)
      → (v < B → Way starts lanes f x₀ x₁ q₀ q₁ a v code) → code < pointer_end
      → Least (next_cases starts lanes f x₀ x₁ q₀ q₁ a) (Way starts lanes f x₀ x₁ q₀ q₁ a) v code
  next-is v {code} b all met c = record { right = go (dec_lt v B); found = met; small = c }
    where
      go : Dec (v < B) → v ≡ next_cases starts lanes f x₀ x₁ q₀ q₁ a
      go (yes h) =
          let w = met h in
          omega (
            arith,
            next-above v b all,
            w.sum,
            next-below (case_state₀ code) (case_state₁ code) (case_pose code) w.state₀ w.state₁ w.lane,
          )
      go (no h) = omega (arith, next-above v b all, next_low)

-- lanes in which no case is below B do not count: with or without them, the least over other lanes is the same
module _ (starts lanes other : ℕ) (f : Cases) (x₀ x₁ : SegmentCosts) (q₀ q₁ a : ℕ)
    (without : (s t l : ℕ) → s < starts → t < starts → other ≤ l → l < lanes → B ≤ f s t l)
    (with : (s t l : ℕ) → s < starts → t < starts → lanes ≤ l → l < other → B ≤ f s t l) where
  way-lanes : {value code : ℕ} → value < B → Way starts lanes f x₀ x₁ q₀ q₁ a value code
      → Way starts other f x₀ x₁ q₀ q₁ a value code
  way-lanes {code = code} b w =
      record { state₀ = w.state₀; state₁ = w.state₁; lane = go (dec_lt (case_pose code) other); sum = w.sum }
    where
      go : Dec (case_pose code < other) → case_pose code < other
      go (yes h) = h
      go (no h) = absurd (omega (
        arith,
        w.sum,
        without (case_state₀ code) (case_state₁ code) (case_pose code) w.state₀ w.state₁ (omega arith) w.lane,
      ))

  pub least-lanes : {value code : ℕ}
      → Least (next_cases starts lanes f x₀ x₁ q₀ q₁ a) (Way starts lanes f x₀ x₁ q₀ q₁ a) value code
      → Least (next_cases starts other f x₀ x₁ q₀ q₁ a) (Way starts other f x₀ x₁ q₀ q₁ a) value code
  least-lanes {value} w =
      next-is starts other f x₀ x₁ q₀ q₁ a value low below (λ b. way-lanes b (w.found b)) w.small
    where
      low : value ≤ B
      low = omega (arith, w.right, next_low starts lanes f x₀ x₁ q₀ q₁ a)

      below : (s t l : ℕ) → s < starts → t < starts → l < other → value ≤ cost starts lanes f x₀ x₁ q₀ q₁ a s t l
      below s t l h g k = go (dec_lt l lanes)
        where
          go : Dec (l < lanes) → value ≤ cost starts lanes f x₀ x₁ q₀ q₁ a s t l
          go (yes m) = omega (arith, w.right, next-below starts lanes f x₀ x₁ q₀ q₁ a s t l h g m)
          go (no m) = omega (arith, low, with s t l h g (omega arith) k)
