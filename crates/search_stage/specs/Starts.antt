-- Costs from one start state after the other; from a dead one they may be any, since no way below B goes from it.
use Prim.Native.Nat.{ℕ, zero, suc, ◌+◌, ◌*◌, ◌≤◌, ◌<◌, min}
use Rattle.std.specs.Prelude.{◌≡◌, refl, ◌⊎◌, List, length}
use Rattle.std.proofs.Common.{◌∙◌, below_more}
use Rattle.std.proofs.Math.Logic.{inl, inr, ⊎_elim}
use native.Mathlib.Omega.{arith}
use Rattle.std.proofs.Math.Decide.{dec_lt}
use Rattle.search_store.specs.Map.{case_at, costs_at, state_block, flags_from, max_lanes, max_poses}
use Rattle.theory_tables.specs.Steps.{B, SegmentCosts, pose_slots}
use Rattle.search_lanes.specs.Store.{Low}
use Rattle.search_lanes.specs.Laws.{said_same}
use Rattle.search_store.specs.Places.{case-beside, cost-before}
use Rattle.search_wide_buckets.specs.Table.{TableLent}
use Rattle.search_join.specs.Tables.{cases_in, pointers_in, costs_in, SameCase, SameTables, Table}
use Rattle.search_stage.specs.Stage.{from_at, Dead, DeadLanes, RightUnlessDead, StartCosted, RowMade, BothCosted}

-- ---- the cases from a start state

pub from_0 : (row I s t : ℕ) → row ≡ 0 → case_at I s t ≡ from_at row I s t
unfolding from_at
from_0 row I s t e = rw e refl

pub from_1 : (row I s t : ℕ) → (row ≡ 0 → ⊥) → case_at I t s ≡ from_at row I s t
unfolding from_at
from_1 zero I s t n = absurd (n refl)
from_1 (suc row) I s t n = refl

pub from-room : (row I s t : ℕ) {starts lanes : ℕ} {st : List ℕ} → Table starts lanes I st → s < starts → t < starts
    → from_at row I s t + lanes ≤ length st
unfolding from_at
from-room zero I s t w h g = omega (arith, w.states, w.few, w.stage, w.long)
from-room (suc row) I s t w h g = omega (arith, w.states, w.few, w.stage, w.long)

-- ---- lanes that no case goes by

pub dead-none : {st : List ℕ} (I starts lanes : ℕ) → DeadLanes st I starts lanes lanes
dead-none I starts lanes = record { none = λ s t l h g m k. absurd (omega arith) }

-- if no start state of row 0 has a case by them
pub dead-all : {I starts low high : ℕ} {st : List ℕ} → ((s : ℕ) → s < starts → Dead st 0 I starts s low high)
    → DeadLanes st I starts low high
unfolding from_at cases_in
dead-all d = record { none = λ s t l h g m k. (d s h).none t l g m k }

-- such lanes and those after them
pub dead-join : {I starts first low mid high : ℕ} {st : List ℕ} → first ≤ low → DeadLanes st I starts first mid
    → DeadLanes st I starts mid high → DeadLanes st I starts low high
dead-join {I} {starts} {first} {low} {mid} {high} {st} f d e =
    record { none = λ s t l h g m k. go s t l h g m k (dec_lt l mid) }
  where
    go : (s t l : ℕ) → s < starts → t < starts → low ≤ l → l < high → Dec (l < mid) → B ≤ cases_in st I s t l
    go s t l h g m k (yes b) = d.none s t l h g (omega arith) b
    go s t l h g m k (no b) = e.none s t l h g (omega arith) k

-- ---- the ways of a stage

-- a way costs what it should, or both are B or more; so they are by a lane that no case goes by
pub ways-same : {x₀ x₁ : SegmentCosts} {I starts lanes ends poses s t : ℕ} {old new : List ℕ} (c f : ℕ)
    → RightUnlessDead 0 x₀ I starts lanes ends poses s old new
    → RightUnlessDead 1 x₁ I starts lanes ends poses t old new
    → (q₀ q₁ a l : ℕ) → q₀ < ends → q₁ < ends → a < poses → s < starts → t < starts
    → (l < lanes) ⊎ (B ≤ cases_in old I s t l) → c ≡ cases_in old I s t l → cases_in old I s t l ≡ f
    → min (c + (costs_in new 0 s l q₀ a + costs_in new 1 t l q₁ a)) B ≡ min (f + (x₀ s l q₀ a + x₁ t l q₁ a)) B
unfolding from_at cases_in
ways-same {s = s} {t} c f r₀ r₁ q₀ q₁ a l x y z h g run e d =
    ⊎_elim
    (λ k. ⊎_elim
    (λ w. omega (arith, w.none t l g (omega arith) k))
    (λ w₀. ⊎_elim (λ w. omega (arith, w.none s l h (omega arith) k))
    (λ w₁. rw (e, d, w₀.word q₀ a l x z k, w₁.word q₁ a l y z k) refl) r₁)
    r₀)
    (λ b. omega arith)
    run

-- ---- one start state

-- in fewer lanes it is dead as well
pub dead-fewer : {row I starts s low high lanes : ℕ} {st : List ℕ} → lanes ≤ high → Dead st row I starts s low high
    → Dead st row I starts s low lanes
dead-fewer h d = record { none = λ t l g m k. d.none t l g m (omega arith) }

-- nothing is done for a dead one
pub start-dead : {row I starts lanes ends poses s : ℕ} {x : SegmentCosts} {st table : List ℕ} → Low st → TableLent table
    → Dead st row I starts s 0 lanes → StartCosted row x I starts lanes ends poses s st st table
start-dead w t d = record { long = refl; low = w; lent = t; kept = λ k h b. refl; right = inl d }

pub start_live : (row : ℕ) {I starts lanes ends poses : ℕ} (s costs : ℕ) (x : SegmentCosts) {old new table : List ℕ}
    → costs ≡ costs_at row s → RowMade (x s) lanes ends poses costs old new table
    → StartCosted row x I starts lanes ends poses s old new table
unfolding costs_in
start_live row s costs x e p =
    let w = rw e at p.costed in
    record { long = w.long; low = w.low; lent = p.lent; kept = w.kept; right = inr (record { word = w.right }) }

-- ---- one start state more

then : {j q₀ q₁ a : ℕ} {x y z : List ℕ} → SameCase j q₀ q₁ a y z → SameCase j q₀ q₁ a x y → SameCase j q₀ q₁ a x z
then u v = record { case = u.case ∙ v.case; source = u.source ∙ v.source }

module _ (I starts lanes ends poses : ℕ) (few : starts ≤ 12) (narrow : lanes ≤ max_lanes) (to : ends ≤ 12)
    (thin : poses ≤ pose_slots) (stage : I ≤ 25) where
  -- a dead one, if the tables are the same
  dead-kept : (row s : ℕ) {old new : List ℕ} → s < starts → SameTables old new → Dead new row I starts s 0 lanes
      → Dead old row I starts s 0 lanes
  unfolding from_at cases_in
  dead-kept zero s h same d = record {
    none = λ t l g m k. let e = (same I s t l (omega arith, omega arith, omega arith, omega arith)).case in
        omega (arith, d.none t l g m k);
  }
  dead-kept (suc row) s h same d = record {
    none = λ t l g m k. let e = (same I t s l (omega arith, omega arith, omega arith, omega arith)).case in
        omega (arith, d.none t l g m k);
  }

  module _ (row : ℕ) (x : SegmentCosts) (s : ℕ) {old new table : List ℕ} (b : row ≤ 1)
      (p : StartCosted row x I starts lanes ends poses s old new table) where
    -- the tables are kept
    pub start-tables : SameTables old new
    unfolding cases_in pointers_in
    start-tables j q₀ q₁ a h =
        let w = case-beside row s j q₀ q₁ a b h in
        record { case = p.kept _ (omega arith) w.0; source = p.kept _ (omega arith) w.1 }

    -- and the costs before it
    pub start-before : (other : ℕ) (y : SegmentCosts) (t : ℕ) {first : List ℕ} → t * 2 + other < s * 2 + row
        → RightUnlessDead other y I starts lanes ends poses t first old
        → RightUnlessDead other y I starts lanes ends poses t first new
    unfolding costs_in
    start-before other y t h r =
        ⊎_elim
        inl
        (λ w. inr (record {
          word = λ q a l i j k.
              said_same old new (costs_at other t + q * state_block) a l
              (p.kept (costs_at other t + q * state_block + flags_from + a) (omega arith)
              (inl (omega (
                arith,
                cost-before other t row s q max_poses a b (omega arith) (omega arith) (omega arith) h,
              ))))
              (p.kept (costs_at other t + q * state_block + a * max_lanes + l) (omega arith)
              (inl (cost-before other t row s q a l b (omega arith) (omega arith) (omega arith) h)))
              ∙ w.word q a l i j k;
        }))
        r

    -- itself, seen from an earlier store with the same tables
    pub start-since : {first : List ℕ} → s < starts → SameTables first old
        → RightUnlessDead row x I starts lanes ends poses s first new
    start-since h same = ⊎_elim (λ d. inl (dead-kept row s h same d)) inr p.right

  pub both-none : (x₀ x₁ : SegmentCosts) {st table : List ℕ} → Low st → TableLent table
      → BothCosted x₀ x₁ I starts lanes ends poses 0 st st table
  both-none x₀ x₁ w t =
      record {
        long = refl;
        low = w;
        lent = t;
        tables = λ j q₀ q₁ a h. record { case = refl; source = refl };
        right₀ = λ s h. absurd (omega arith);
        right₁ = λ s h. absurd (omega arith);
      }

  -- in row 0, then in row 1
  pub both-more : (x₀ x₁ : SegmentCosts) (s : ℕ) {old mid one new table table' table'' : List ℕ} → s < starts
      → BothCosted x₀ x₁ I starts lanes ends poses s old mid table
      → StartCosted 0 x₀ I starts lanes ends poses s mid one table'
      → StartCosted 1 x₁ I starts lanes ends poses s one new table''
      → BothCosted x₀ x₁ I starts lanes ends poses (s + 1) old new table''
  both-more x₀ x₁ s {old} {mid} {one} {new} h b p₀ p₁ =
      record {
        long = p₁.long ∙ p₀.long ∙ b.long;
        low = p₁.low;
        lent = p₁.lent;
        tables = λ j q₀ q₁ a m. then (start-tables 1 x₁ s (omega arith) p₁ j q₀ q₁ a m) (since j q₀ q₁ a m);
        right₀ = below_more (λ (t : ℕ). RightUnlessDead 0 x₀ I starts lanes ends poses t old new) s
            (λ t m. after 0 x₀ t (omega arith)
            (start-before 0 x₀ s (omega arith) p₀ 0 x₀ t (omega arith) (b.right₀ t m)))
            (after 0 x₀ s (omega arith) (start-since 0 x₀ s (omega arith) p₀ h b.tables));
        right₁ = below_more (λ (t : ℕ). RightUnlessDead 1 x₁ I starts lanes ends poses t old new) s
            (λ t m. after 1 x₁ t (omega arith)
            (start-before 0 x₀ s (omega arith) p₀ 1 x₁ t (omega arith) (b.right₁ t m)))
            (start-since 1 x₁ s (omega arith) p₁ h since);
      }
    where
      since : SameTables old one
      since j q₀ q₁ a m = then (start-tables 0 x₀ s (omega arith) p₀ j q₀ q₁ a m) (b.tables j q₀ q₁ a m)

      after : (row : ℕ) (y : SegmentCosts) (t : ℕ) → t * 2 + row < s * 2 + 1
          → RightUnlessDead row y I starts lanes ends poses t old one
          → RightUnlessDead row y I starts lanes ends poses t old new
      after row y t m r = start-before 1 x₁ s (omega arith) p₁ row y t m r
