-- Laws of a case: the least over the states of row 1 and the lanes is at most every way, and a way of it is found.
use Prim.Native.Nat.{ℕ, ◌+◌, ◌*◌, ◌≤◌, ◌<◌, min}
use Rattle.std.specs.Prelude.{◌≡◌, ◌⊎◌, List, Option, None, Some, IsSome}
use Rattle.std.proofs.Math.Path.{refl, sym, ap, subst}
use Rattle.std.proofs.Common.{◌∙◌}
use Rattle.std.proofs.Math.Logic.{⊎_elim}
use native.Mathlib.Omega.{arith}
use Rattle.std.proofs.Math.ListN.{get_or}
use Rattle.search_store.specs.Map.{costs_at, state_block, flags_from, max_lanes, pointer_row₀, pointer_row₁}
use Rattle.lists.specs.Numbers.{from}
use Rattle.theory_pair.specs.Coded.{lowest, lowest-low}
use Rattle.theory_tables.specs.Steps.{B}
use Rattle.theory_tables.specs.Lowest.{loop_member, loop_above}
use Rattle.search_lanes.specs.Laws.{said-none, said-word}
use Rattle.search_join.specs.declared.Case.{Case}
use Rattle.search_join.specs.declared.sums.Join.{Join}
use Rattle.search_join.specs.Tables.{case_state₀, case_state₁, case_pose}
use Rattle.search_join.specs.Tables.{cases_in, costs_in, MetAt, next_in}
use Rattle.search_join.specs.Found.{SumFound}
use Rattle.search_join.specs.Sums.{start_sum, lane_sum, end_lane, end_sum, sum_flags, sum_in, Nones, Sums, LaneMet}
use Rattle.search_join.specs.Sums.{Pointing, WayTo}
use Rattle.search_join.specs.Laws.{lowest-same, lowest-at, next-none}
use Rattle.search_join.specs.SumLaws.{cost-none, cost-word, said_live}

module _ (lanes : ℕ) (sums st : List ℕ) (q₁ a t : ℕ) where
  -- a state without sums, or without costs in row 1, has no way
  pub end_none : (get_or sums (sum_flags + t) 0 ≡ 0) ⊎ ((l : ℕ) → costs_in st 1 t l q₁ a ≡ B)
      → B ≡ end_sum lanes sums st q₁ a t
  unfolding end_sum end_lane
  end_none z =
      let h : (l : ℕ) → B ≤ end_lane sums st q₁ a t l =
      λ l. ⊎_elim
      (λ e. omega (arith, said-none (get_or sums (sum_flags + t) 0) (get_or sums (t * max_lanes + l) 0) e))
      (λ e. omega (arith, e l))
      z in
      omega (
        arith,
        lowest-low B (end_lane sums st q₁ a t) (from 0 lanes),
        loop_above B (end_lane sums st q₁ a t) lanes B (omega arith) (λ l k. h l),
      )

  -- a state that has both says the words of both
  pub end-words : (costs l : ℕ) → (get_or sums (sum_flags + t) 0 ≡ 0 → ⊥)
      → costs ≡ costs_at 1 t + q₁ * state_block + 0 * max_lanes
      → (get_or st (costs + flags_from + a) 0 ≡ 0 → ⊥)
      → lane_sum sums (t * max_lanes) st (costs + a * max_lanes) l ≡ end_lane sums st q₁ a t l
  unfolding lane_sum end_lane
  end-words costs l d e f =
      omega (
        arith,
        said-word (get_or sums (sum_flags + t) 0) (get_or sums (t * max_lanes + l) 0) d,
        cost-word st 1 t l q₁ a costs e f,
      )

  pub end-least : (costs : ℕ) → (get_or sums (sum_flags + t) 0 ≡ 0 → ⊥)
      → costs ≡ costs_at 1 t + q₁ * state_block + 0 * max_lanes
      → (get_or st (costs + flags_from + a) 0 ≡ 0 → ⊥)
      → lowest B (lane_sum sums (t * max_lanes) st (costs + a * max_lanes)) (from 0 lanes) ≡ end_sum lanes sums st q₁ a t
  unfolding end_sum
  end-least costs d e f =
      lowest-same (lane_sum sums (t * max_lanes) st (costs + a * max_lanes)) (end_lane sums st q₁ a t) lanes
      (λ l k. ap (λ (x : ℕ). min x B) (end-words costs l d e f))

  -- below B, it has both
  end_live : (v : ℕ) → v < B → end_sum lanes sums st q₁ a t ≡ v
      → (l : ℕ) × (l < lanes) × (end_lane sums st q₁ a t l ≡ v)
  unfolding end_sum
  end_live v b e =
      let at = lowest-at (end_lane sums st q₁ a t) lanes (omega arith) in
      (at.0, at.1, at.2 ∙ e)

module _ (j : Join) (st : List ℕ) (q₀ q₁ a : ℕ) {sums : List ℕ} (w : Sums j st q₀ a j.starts 0 sums) where
  -- a sum is at most what it is the least of
  sum_below : (s t l : ℕ) → s < j.starts → t < j.starts → l < j.lanes
      → sum_in sums t l ≤ start_sum j.i st q₀ a t l s
  sum_below s t l h g k =
      omega (arith, w.before t l g k (omega arith), loop_member B (start_sum j.i st q₀ a t l) j.starts s h)

  -- there is no way at all
  pub case-dead : Nones j.starts j.lanes sums → next_in j.starts j.lanes j.i st q₀ q₁ a ≡ B
  unfolding start_sum
  case-dead none =
      next-none j.starts j.lanes _ _ _ q₀ q₁ a
      (λ s t l h g k. omega (arith, none t l g k, sum_below s t l h g k))

  -- the least of the sums with row 1's costs is at most every way
  pub case-below : (v : ℕ) → v ≡ lowest B (end_sum j.lanes sums st q₁ a) (from 0 j.starts)
      → (s t l : ℕ) → s < j.starts → t < j.starts → l < j.lanes
      → v ≤ cases_in st j.i s t l + (costs_in st 0 s l q₀ a + costs_in st 1 t l q₁ a)
  unfolding start_sum end_sum end_lane
  case-below v e s t l h g k =
      omega (
        arith,
        loop_member B (end_sum j.lanes sums st q₁ a) j.starts t g,
        loop_member B (end_lane sums st q₁ a t) j.lanes l k,
        sum_below s t l h g k,
      )

-- ---- the code of a way

-- what has the cost is found, and what was found has it
found_there : (h : ℕ → ℕ) (n cost k : ℕ) (o : Option ℕ) → k < n → h k ≡ cost → SumFound h n cost o → IsSome o
found_there h n cost k None l e w = absurd (w k l e)
found_there h n cost k (Some r) l e w = refl

found_at : (h : ℕ → ℕ) (n cost r : ℕ) {o : Option ℕ} → SumFound h n cost o → o ≡ Some r → MetAt h n cost r
found_at h n cost r w e = subst (SumFound h n cost) e w

module _ {j : Join} {st sums : List ℕ} {case : Case} {t value : ℕ} (g : Pointing j st sums case t value) where
  -- a lane of state t that has the value; its row of sums and its costs say their words
  pointed : (l : ℕ) × (l < j.lanes) × (end_lane sums st case.q1 case.pose t l ≡ value)
      × (get_or sums (sum_flags + t) 0 ≡ 0 → ⊥)
      × ((p₁ m : ℕ) → p₁ ≡ costs_at 1 t + case.q1 * state_block + case.pose * max_lanes
      → lane_sum sums (t * max_lanes) st p₁ m ≡ end_lane sums st case.q1 case.pose t m)
  unfolding end_lane costs_in
  pointed =
      let costs = costs_at 1 t + case.q1 * state_block + 0 * max_lanes in
      let at = end_live j.lanes sums st case.q1 case.pose t value g.below g.met in
      let live : get_or sums (sum_flags + t) 0 ≡ 0 → ⊥ = said_live _ (get_or sums (t * max_lanes + at.0) 0)
      (omega (arith, at.2)) in
      let paid : get_or st (costs + flags_from + case.pose) 0 ≡ 0 → ⊥ =
      λ z. omega (arith, at.2, cost-none st 1 t at.0 case.q1 case.pose costs refl z) in (
        at.0,
        at.1,
        at.2,
        live,
        λ p₁ m e. ap (λ (p : ℕ). lane_sum sums (t * max_lanes) st p m) (omega arith)
            ∙ end-words j.lanes sums st case.q1 case.pose t costs m live refl paid,
      )

  module _ {p₁ : ℕ} (o : Option ℕ) (e : p₁ ≡ costs_at 1 t + case.q1 * state_block + case.pose * max_lanes)
      (found : SumFound (lane_sum sums (t * max_lanes) st p₁) j.lanes value o) where
    pub lane-there : IsSome o
    lane-there = found_there _ _ _ pointed.0 o pointed.1 (pointed.4 p₁ pointed.0 e ∙ pointed.2) found

    -- the lane that was found has the least of state t
    pub lane-met : {lane : ℕ} → o ≡ Some lane → LaneMet j st sums case.q1 case.pose value t lane
    unfolding end_lane
    lane-met {lane} d =
        let m = found_at _ _ _ lane found d in
        record { inside = m.0; sum = sym m.1 ∙ pointed.4 p₁ lane e; word = said-word _ _ pointed.3 }

  module _ {lane : ℕ} (o : Option ℕ) (met : LaneMet j st sums case.q1 case.pose value t lane)
      (found : SumFound (start_sum j.i st case.q0 case.pose t lane) j.starts (get_or sums (t * max_lanes + lane) 0) o)
    where
      pub start-there : IsSome o
      start-there =
          let z = g.summed.before t lane g.state met.inside (omega arith) in
          let at = lowest-at (start_sum j.i st case.q0 case.pose t lane) j.starts (omega (arith, met.sum, g.below)) in
          found_there _ _ _ at.0 o at.1 (at.2 ∙ sym z ∙ met.word) found

      -- with the start state that was found to have the sum there, it is a way
      pub case-way : {s : ℕ} → o ≡ Some s → WayTo j st case value (s * pointer_row₀ + t * pointer_row₁ + lane) × (s < j.starts)
      unfolding start_sum
      case-way {s} d =
          let m = found_at _ _ _ s found d in
          let k = met.inside in
          let h = m.0 in
          let c = s * pointer_row₀ + t * pointer_row₁ + lane in
          let x : case_state₀ c ≡ s = omega (arith, g.table.states, g.state) in
          let y : case_state₁ c ≡ t = omega (arith, g.table.states, g.state) in
          let l : case_pose c ≡ lane = omega arith in (
            record {
              state₀ = omega arith;
              state₁ = omega (arith, g.state);
              lane = omega arith;
              sum = rw (x, y, l) (omega (arith, met.sum, met.word, m.1));
            },
            h,
          )
