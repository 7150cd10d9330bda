-- Tables written part by part: one case, the cases before it, and what is read in the meantime.
use Prim.Native.Nat.{ℕ, suc, ◌+◌, ◌*◌, ◌≤◌, ◌<◌, min}
use Rattle.std.specs.Prelude.{◌≡◌, ◌⊎◌, Bool, List}
use Rattle.std.proofs.Math.Path.{refl, sym, ap}
use Rattle.std.proofs.Common.{◌∙◌, inl, inr}
use Rattle.std.proofs.Math.Logic.{⊎_elim}
use native.Mathlib.Omega.{arith}
use Rattle.std.proofs.Math.Decide.{dec_lt}
use Rattle.std.proofs.Math.ListN.{length, get_or, set, length-set}
use Rattle.std.proofs.Math.Seq.{get_or-set_same, get_or-set_other}
use Rattle.definition.specs.Job.{max_tall}
use Rattle.search_store.specs.Map.{case_at, pointer_at, costs_at, Pages, Slot, layer_block, state_block, flags_from, max_lanes}
use Rattle.theory_tables.specs.Steps.{B, Cases, SegmentCosts, join_pose, next_cases, pose_slots}
use Rattle.search_lanes.specs.Store.{Low}
use Rattle.search_lanes.specs.Laws.{low-set, said_same}
use Rattle.search_store.specs.Places.{case-one, case_pointer, case-room, case-beside}
use Rattle.search_join.specs.Tables.{case_state₀, case_state₁, case_pose}
use Rattle.search_join.specs.Tables.{
  cases_in,
  pointers_in,
  costs_in,
  SameCase,
  Table,
  Least,
  Way,
  WayIn,
  next_in,
  OneCase,
  PoseCases,
  BlockCases,
  StageCases,
  CasesMade,
  Joined,
}
use Rattle.search_join.specs.Laws.{lowest-same, next_low}
use Rattle.search_join.specs.declared.sums.Join.{Join}
use Rattle.search_join.specs.Sums.{start_sum, AllSummed, Commons, JoinTable, Made}
use Rattle.search_join.specs.SumLaws.{summed_ext, commons_ext}

-- ---- a table depends on the ways below B alone

module _ (starts lanes : ℕ) (f g : Cases) (x₀ x₁ y₀ y₁ : SegmentCosts) (q₀ q₁ a : ℕ)
    (same : (s t l : ℕ) → s < starts → t < starts → l < lanes
    → min (f s t l + (x₀ s l q₀ a + x₁ t l q₁ a)) B ≡ min (g s t l + (y₀ s l q₀ a + y₁ t l q₁ a)) B) where
  pub next_ext : next_cases starts lanes f x₀ x₁ q₀ q₁ a ≡ next_cases starts lanes g y₀ y₁ q₀ q₁ a
  unfolding next_cases join_pose
  next_ext =
      let cap : (x y : ℕ) → x ≡ y → min x B ≡ min y B = λ x y e. ap (λ (x : ℕ). min x B) e in
      lowest-same _ _ starts
      (λ s h. cap _ _ (lowest-same _ _ starts (λ t g. cap _ _ (lowest-same _ _ lanes (λ l k. same s t l h g k)))))

  pub way_ext : {value code : ℕ} → value < B → Way starts lanes f x₀ x₁ q₀ q₁ a value code
      → Way starts lanes g y₀ y₁ q₀ q₁ a value code
  way_ext {code = code} b w =
      record {
        state₀ = w.state₀;
        state₁ = w.state₁;
        lane = w.lane;
        sum = omega (
          arith,
          w.sum,
          same (case_state₀ code) (case_state₁ code) (case_pose code) w.state₀ w.state₁
              w.lane,
        );
      }

  pub least_ext : {value code : ℕ}
      → Least (next_cases starts lanes f x₀ x₁ q₀ q₁ a) (Way starts lanes f x₀ x₁ q₀ q₁ a) value code
      → Least (next_cases starts lanes g y₀ y₁ q₀ q₁ a) (Way starts lanes g y₀ y₁ q₀ q₁ a) value code
  least_ext w = record { right = w.right ∙ next_ext; found = λ h. way_ext h (w.found h); small = w.small }

-- ---- parts

-- below n + 1: below n, or n
pub last : (k n : ℕ) → k < n + 1 → (k < n) ⊎ (k ≡ n)
last k n h = go (dec_lt k n)
  where
    go : Dec (k < n) → (k < n) ⊎ (k ≡ n)
    go (yes l) = inl l
    go (no l) = inr (omega arith)

module _ (starts lanes I : ℕ) where
  -- what a part leaves as it was, if its cases are in the map
  module _ (P : ℕ → ℕ → ℕ → Type 0) {x y : List ℕ} (b : I ≤ max_tall)
      (room : (q₀ q₁ a : ℕ) → P q₀ q₁ a → (q₀ < 12) × (q₁ < 12) × (a < pose_slots))
      (p : CasesMade starts lanes I P x y) where
    pub kept_case : (J q₀ q₁ a : ℕ) → Slot J q₀ q₁ a → (J ≡ suc I → P q₀ q₁ a → ⊥) → SameCase J q₀ q₁ a x y
    unfolding cases_in pointers_in
    kept_case j q₀ q₁ a h away =
        record {
          case = p.kept _
              (λ p₀ p₁ c r. (λ e. same p₀ p₁ c r e, λ e. case_pointer j q₀ q₁ a (suc I) p₀ p₁ c h (slot p₀ p₁ c r) e));
          source = p.kept _ (λ p₀ p₁ c r. (
            λ e. case_pointer (suc I) p₀ p₁ c j q₀ q₁ a (slot p₀ p₁ c r) h (sym e),
            λ e. same p₀ p₁ c r (omega arith),
          ));
        }
      where
        slot : (p₀ p₁ c : ℕ) → P p₀ p₁ c → Slot (suc I) p₀ p₁ c
        slot p₀ p₁ c r = let i = room p₀ p₁ c r in (omega arith, i.0, i.1, i.2)

        same : (p₀ p₁ c : ℕ) → P p₀ p₁ c → case_at j q₀ q₁ + a ≡ case_at (suc I) p₀ p₁ + c → ⊥
        same p₀ p₁ c r e =
            let d = case-one j q₀ q₁ a (suc I) p₀ p₁ c h (slot p₀ p₁ c r) e in
            away d.0 (rw (d.1, d.2, d.3) r)

    pub kept-cost : (row s l q a : ℕ) → row ≤ 1 → l < max_lanes → q < 12 → a < pose_slots
        → costs_in y row s l q a ≡ costs_in x row s l q a
    unfolding costs_in
    kept-cost row s l q a h k i g =
        said_same x y (costs_at row s + q * state_block) a l
        (beside (costs_at row s + q * state_block + flags_from + a) (omega arith) (omega arith))
        (beside (costs_at row s + q * state_block + a * max_lanes + l) (omega arith) (omega arith))
      where
        beside : (k : ℕ) → costs_at row s ≤ k → k < costs_at row s + layer_block → get_or y k 0 ≡ get_or x k 0
        beside k f n =
            p.kept k
            (λ p₀ p₁ c r.
            let m = room p₀ p₁ c r in
            let w = case-beside row s (suc I) p₀ p₁ c h (omega arith, m.0, m.1, m.2) in (
              λ e. ⊎_elim (λ z. omega arith) (λ z. omega arith) w.0,
              λ e. ⊎_elim (λ z. omega arith) (λ z. omega arith) w.1,
            ))

  -- what is read is as before
  pub table-part : {P : ℕ → ℕ → ℕ → Type 0} {x y : List ℕ} → Table starts lanes I x → CasesMade starts lanes I P x y
      → Table starts lanes I y
  table-part t p = record {
    states = t.states;
    few = t.few;
    stage = t.stage;
    long =
        omega (arith, t.long, p.long);
    low = p.low;
  }

  -- no case
  pub part_none : {P : ℕ → ℕ → ℕ → Type 0} {st : List ℕ} → Low st → ((q₀ q₁ a : ℕ) → P q₀ q₁ a → ⊥)
      → CasesMade starts lanes I P st st
  part_none w none =
      record { long = refl; low = w; kept = λ k h. refl; done = λ q₀ q₁ a h. absurd (none q₀ q₁ a h) }

  -- the cases P, then the cases Q: together the cases R
  module _ (P Q R : ℕ → ℕ → ℕ → Type 0) {x y z : List ℕ} (t : Table starts lanes I x)
      (room : (q₀ q₁ a : ℕ) → R q₀ q₁ a → (q₀ < 12) × (q₁ < 12) × (a < pose_slots))
      (either : (q₀ q₁ a : ℕ) → R q₀ q₁ a → (P q₀ q₁ a × (Q q₀ q₁ a → ⊥)) ⊎ Q q₀ q₁ a)
      (first : (q₀ q₁ a : ℕ) → P q₀ q₁ a → R q₀ q₁ a)
      (second : (q₀ q₁ a : ℕ) → Q q₀ q₁ a → R q₀ q₁ a)
    where
      pub part_then : CasesMade starts lanes I P x y → CasesMade starts lanes I Q y z → CasesMade starts lanes I R x z
      part_then p q =
          let b : I ≤ max_tall = t.stage in
          let u = t.states in
          let v = t.few in
          let roomP : (q₀ q₁ a : ℕ) → P q₀ q₁ a → (q₀ < 12) × (q₁ < 12) × (a < pose_slots) =
          λ q₀ q₁ a m. room q₀ q₁ a (first q₀ q₁ a m) in
          let roomQ : (q₀ q₁ a : ℕ) → Q q₀ q₁ a → (q₀ < 12) × (q₁ < 12) × (a < pose_slots) =
          λ q₀ q₁ a m. room q₀ q₁ a (second q₀ q₁ a m) in
          record {
            long = q.long ∙ p.long;
            low = q.low;
            kept = λ k n. q.kept k (λ q₀ q₁ a m. n q₀ q₁ a (second q₀ q₁ a m))
                ∙ p.kept k (λ q₀ q₁ a m. n q₀ q₁ a (first q₀ q₁ a m));
            done = λ q₀ q₁ a r.
                let i = room q₀ q₁ a r in
                ⊎_elim
                (λ m. let e = kept_case Q b roomQ q (suc I) q₀ q₁ a (omega arith, i.0, i.1, i.2) (λ e. m.1) in
                rw (e.case, e.source) (p.done q₀ q₁ a m.0))
                (λ m.
                least_ext starts lanes _ _ _ _ _ _ q₀ q₁ a
                (λ s t l h g k.
                let c = (kept_case P b roomP p I s t l (omega arith, omega arith, omega arith, omega arith)
                (λ e. omega arith)).case in
                let d = kept-cost P b roomP p 0 s l q₀ a (omega arith) (omega arith) i.0 i.2 in
                let e = kept-cost P b roomP p 1 t l q₁ a (omega arith) (omega arith) i.1 i.2 in
                rw (c, d, e) refl)
                (q.done q₀ q₁ a m))
                (either q₀ q₁ a r);
          }

  -- one case, with its source
  pub part-put : (p₀ p₁ b at to v c : ℕ) (st : List ℕ)
      → Table starts lanes I st → Pages (p₀ + 1) st → p₀ < 12 → p₁ < 12 → b < pose_slots → at ≡ case_at (suc I) p₀ p₁ + b
      → to ≡ pointer_at (suc I) p₀ p₁ + b
      → Least (next_in starts lanes I st p₀ p₁ b) (WayIn starts lanes I st p₀ p₁ b) v c
      → CasesMade starts lanes I (OneCase p₀ p₁ b) st (set (set st at v) to c)
  unfolding cases_in pointers_in
  part-put p₀ p₁ b at to v c st t p f h g e d w =
      let r = t.stage in
      let y = set st at v in
      let n : length y ≡ length st = length-set st at v in
      let long = case-room (suc I) p₀ p₁ b st (omega arith, f, h, g) p in
      record {
        long = length-set y to c ∙ n;
        low = low-set to c (low-set at v t.low (omega arith)
            (omega (arith, w.right, next_low starts lanes (cases_in st I) (costs_in st 0) (costs_in st 1) p₀ p₁ b)))
            (omega arith) (omega (arith, w.small));
        kept = λ k away.
            let u = away p₀ p₁ b (refl, refl, refl) in
            get_or-set_other y to k c 0 (λ z. u.1 (z ∙ d)) ∙ get_or-set_other st at k v 0 (λ z. u.0 (z ∙ e));
        done = λ q₀ q₁ a m.
            let d₀ : get_or (set y to c) at 0 ≡ v = get_or-set_other y to at c 0 (omega arith)
            ∙ get_or-set_same st at v 0 (omega arith) in
            let d₁ : get_or (set y to c) to 0 ≡ c = get_or-set_same y to c 0 (omega arith) in
            rw (m.0, m.1, m.2, sym e, sym d, d₀, d₁) w;
      }

  -- one state of row 1 more
  pub pose-more : (p₀ m b : ℕ) {x y z : List ℕ} → Table starts lanes I x → p₀ < 12 → m < 12 → b < pose_slots
      → CasesMade starts lanes I (PoseCases p₀ m b) x y → CasesMade starts lanes I (OneCase p₀ m b) y z
      → CasesMade starts lanes I (PoseCases p₀ (m + 1) b) x z
  pose-more p₀ m b t h g k =
      part_then (PoseCases p₀ m b) (OneCase p₀ m b) (PoseCases p₀ (m + 1) b) t
      (λ q₀ q₁ a r. (omega arith, omega arith, omega arith))
      (λ q₀ q₁ a r. ⊎_elim (λ l. inl ((r.0, l, r.2), λ d. omega arith)) (λ e. inr (r.0, e, r.2)) (last q₁ m r.1))
      (λ q₀ q₁ a d. (d.0, omega arith, d.2))
      (λ q₀ q₁ a d. (d.0, omega arith, d.2))

  -- one pose more
  pub block_more : (p₀ m n : ℕ) {x y z : List ℕ} → Table starts lanes I x → p₀ < 12 → m ≤ 12 → n < pose_slots
      → CasesMade starts lanes I (BlockCases p₀ m n) x y → CasesMade starts lanes I (PoseCases p₀ m n) y z
      → CasesMade starts lanes I (BlockCases p₀ m (n + 1)) x z
  block_more p₀ m n t h g k =
      part_then (BlockCases p₀ m n) (PoseCases p₀ m n) (BlockCases p₀ m (n + 1)) t
      (λ q₀ q₁ a r. (omega arith, omega arith, omega arith))
      (λ q₀ q₁ a r. ⊎_elim (λ l. inl ((r.0, r.1, l), λ d. omega arith)) (λ e. inr (r.0, r.1, e)) (last a n r.2))
      (λ q₀ q₁ a d. (d.0, d.1, omega arith))
      (λ q₀ q₁ a d. (d.0, d.1, omega arith))

  -- one state of row 0 more
  pub stage-more : (k m n : ℕ) {x y z : List ℕ} → Table starts lanes I x → k < 12 → m ≤ 12 → n ≤ pose_slots
      → CasesMade starts lanes I (StageCases k m n) x y → CasesMade starts lanes I (BlockCases k m n) y z
      → CasesMade starts lanes I (StageCases (k + 1) m n) x z
  stage-more k m n t h g j =
      part_then (StageCases k m n) (BlockCases k m n) (StageCases (k + 1) m n) t
      (λ q₀ q₁ a r. (omega arith, omega arith, omega arith))
      (λ q₀ q₁ a r. ⊎_elim (λ l. inl ((l, r.1, r.2), λ d. omega arith)) (λ e. inr (e, r.1, r.2)) (last q₀ k r.0))
      (λ q₀ q₁ a d. (omega arith, d.1, d.2))
      (λ q₀ q₁ a d. (omega arith, d.1, d.2))

  -- all of it
  pub part-joined : {ends poses : ℕ} {x y : List ℕ} → I ≤ max_tall → ends ≤ 12 → poses ≤ pose_slots
      → CasesMade starts lanes I (StageCases ends ends poses) x y
      → Joined starts lanes ends poses I x y
  part-joined {ends} {poses} b h g p =
      record {
        long = p.long;
        low = p.low;
        tables = λ j q₀ q₁ a n m. kept_case (StageCases ends ends poses) b
            (λ q₀ q₁ a r. (omega arith, omega arith, omega arith)) p j q₀ q₁ a m (λ e r. n e);
        done = λ q₀ q₁ a h g k. p.done q₀ q₁ a (h, g, k);
      }

-- ---- what is read beside the tables

module _ (j : Join) (P : ℕ → ℕ → ℕ → Type 0) {x y : List ℕ} (t : JoinTable j x)
    (room : (q₀ q₁ a : ℕ) → P q₀ q₁ a → (q₀ < 12) × (q₁ < 12) × (a < pose_slots)) (p : Made j P x y) where
  -- the cases of the table before
  before : (s t l : ℕ) → s < j.starts → t < j.starts → l < j.lanes → cases_in y j.i s t l ≡ cases_in x j.i s t l
  before s u l h g k =
      let states = t.states in
      let few = t.few in
      let stage = t.stage in
      (kept_case j.starts j.lanes j.i P stage room p j.i s u l
      (omega arith, omega arith, omega arith, omega arith) (λ e. omega arith)).case

  pub commons_part : {commons : List ℕ} → Commons j x commons → Commons j y commons
  commons_part w = commons_ext j y w before

  pub summed-part : {sums : List ℕ} {live : Bool} (q₀ a : ℕ) → q₀ < 12 → a < pose_slots
      → AllSummed j x q₀ a sums live → AllSummed j y q₀ a sums live
  unfolding start_sum
  summed-part q₀ a h g w =
      let few = t.few in
      summed_ext j x q₀ a y w
      (λ s u l i k m.
      omega (
        arith,
        before s u l i k m,
        kept-cost j.starts j.lanes j.i P t.stage room p 0 s l q₀ a (omega arith) (omega arith) h g,
      ))
