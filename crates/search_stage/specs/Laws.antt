-- Laws of the stages: a table is the least over the table before and the costs, from
-- number 0 on; what a stage's parts make together.
use Prim.Native.Nat.{ℕ, zero, suc, ◌+◌, ◌≤◌, ◌<◌, min}
use Rattle.std.specs.Prelude.{◌≡◌, Bool, true, false, cond, ◌⊎◌, List, length, set, ltb}
use Rattle.std.proofs.Math.Path.{refl, ap}
use Rattle.std.proofs.Common.{sym, ◌∙◌, inl, inr, below_more, lt-ltb, le-ltb, add-one}
use Rattle.std.proofs.Math.Decide.{dec_lt}
use native.Mathlib.Omega.{arith}
use Rattle.std.proofs.Math.ListN.{get_or}
use Rattle.std.proofs.Math.Seq.{get_or-set_same}
use Rattle.definition.specs.Job.{max_tall}
use Rattle.search_store.specs.Map.{case_at, Pages, max_lanes, max_poses}
use Rattle.lists.specs.Numbers.{from}
use Rattle.theory_pair.specs.Coded.{lowest}
use Rattle.theory_tables.specs.Steps.{B, Deck, state_count, join_pose, next_cases}
use Rattle.theory_tables.specs.Stages.{case_table}
use Rattle.theory_tables.proofs.States.{counted}
use Rattle.search_lanes.specs.Store.{Low}
use Rattle.search_lanes.specs.Laws.{low-set}
use Rattle.search_join.specs.Tables.{cases_in, pointers_in, costs_in, Table, Least, Way, Joined, AllStates, Closed}
use Rattle.search_join.specs.Laws.{least-lanes}
use Rattle.search_join.specs.Parts.{least_ext}
use Rattle.search_row.specs.declared.Sizes.{Sizes}
use Rattle.search_stage.specs.Stage.{wide, width_of, cost_of, table_of, TableRight, Staged}
use Rattle.search_stage.specs.Stage.{StageDone, Through, StagesDone, BothCosted, StagesGiven, DeadLanes, LanesRun}
use Rattle.search_stage.specs.Starts.{ways-same}

-- ---- counts

pub wide_low : (talls I x y : ℕ) → 1 ≤ y → x ≤ y → wide talls I x ≤ y
unfolding wide
wide_low talls zero x y h g = h
wide_low talls (suc I) x y h g = go (ltb I talls)
  where
    go : (t : Bool) → cond t x 1 ≤ y
    go true = g
    go false = h

-- of more it has more
pub wide_mono : (talls I x y : ℕ) → x ≤ y → wide talls I x ≤ wide talls I y
unfolding wide
wide_mono talls zero x y h = omega arith
wide_mono talls (suc I) x y h = go (ltb I talls)
  where
    go : (t : Bool) → cond t x 1 ≤ cond t y 1
    go true = h
    go false = omega arith

-- a tall cell's table has all
pub wide-all : (talls I x : ℕ) → I < talls → wide talls (suc I) x ≡ x
unfolding wide
wide-all talls I x h = ap (λ t. cond t x 1) (lt-ltb I talls h)

-- the same by tests on the table's number
pub wide-first : (talls I x : ℕ) → I ≡ 0 → 1 ≡ wide talls I x
unfolding wide
wide-first talls I x e = rw e refl

pub wide-last : (talls I x : ℕ) → talls < I → 1 ≡ wide talls I x
unfolding wide
wide-last talls zero x h = refl
wide-last talls (suc I) x h = ap (λ t. cond t x 1) (sym (le-ltb I talls (omega arith)))

pub wide-tall : (talls I x : ℕ) → (I ≡ 0 → ⊥) → I ≤ talls → x ≡ wide talls I x
wide-tall talls zero x n h = absurd (n refl)
wide-tall talls (suc I) x n h = sym (wide-all talls I x (omega arith))

-- the lanes that a table has
width_room : (poses : ℕ) → poses ≤ max_poses → (poses ≤ width_of poses) × (width_of poses ≤ max_lanes)
unfolding width_of
width_room poses h = (omega arith, omega arith)

pub wide-lanes : (talls I poses : ℕ) → poses ≤ max_poses
    → (wide talls I poses ≤ wide talls I (width_of poses)) × (wide talls I (width_of poses) ≤ max_lanes)
wide-lanes talls I poses h =
    let w = width_room poses h in
    (wide_mono talls I poses (width_of poses) w.0, wide_low talls I (width_of poses) max_lanes (omega arith) w.1)

-- no table has more than that of the last tall cell
pub wide-most : (talls I x : ℕ) → 1 ≤ x → wide talls I x ≤ wide talls talls x
wide-most zero zero x h = omega arith
wide-most zero (suc I) x h = omega (arith, wide-first 0 0 x refl, wide-last 0 (suc I) x (omega arith))
wide-most (suc talls) I x h =
    rw (wide-all (suc talls) talls x (omega arith)) (wide_low (suc talls) I x x h (omega arith))

module _ (D₀ D₁ : Deck) (R talls : ℕ) (pos₀ pos₁ : ℕ → ℕ) where
  -- ---- each table from the one before
  pub table_step : (I q₀ q₁ a : ℕ) → I ≤ talls
      → next_cases (wide talls I (state_count R)) (wide talls I D₀.poses) (table_of D₀ D₁ R talls pos₀ pos₁ I)
      (cost_of D₀ R talls pos₀ I) (cost_of D₁ R talls pos₁ I) q₀ q₁ a
      ≡ table_of D₀ D₁ R talls pos₀ pos₁ (suc I) q₀ q₁ a
  unfolding table_of cost_of case_table next_cases join_pose lowest from wide
  table_step zero q₀ q₁ a h = omega arith
  table_step (suc I) q₀ q₁ a h =
      rw (wide-all talls I (state_count R) (omega arith), wide-all talls I D₀.poses (omega arith)) refl

  pub staged-right : (I : ℕ) {st : List ℕ} → Staged D₀ D₁ R talls pos₀ pos₁ I st
      → TableRight D₀ D₁ R talls pos₀ pos₁ (suc I) st
  staged-right I w = record { word = λ q₀ q₁ a h g f. (w.case q₀ q₁ a h g f).right; beyond = w.beyond }

  module _ (few : state_count R ≤ 12) (some : 1 ≤ state_count R) (narrow : D₀.poses ≤ max_poses) where
    wide-states : (I : ℕ) → wide talls I (state_count R) ≤ 12
    wide-states I = wide_low talls I (state_count R) 12 (omega arith) few

    wide-poses : (I : ℕ) → wide talls I D₀.poses ≤ max_poses
    wide-poses I = wide_low talls I D₀.poses max_poses (omega arith) narrow

    -- a stage from its costs and the table before
    pub stage-done : (I lanes : ℕ) {old mid one new table : List ℕ} → I ≤ talls → talls ≤ max_tall
        → lanes ≤ wide talls I (width_of D₀.poses)
        → DeadLanes old I (wide talls I (state_count R)) lanes (wide talls I (width_of D₀.poses))
        → BothCosted (cost_of D₀ R talls pos₀ I) (cost_of D₁ R talls pos₁ I) I (wide talls I (state_count R))
        (min lanes (wide talls I D₀.poses)) (wide talls (suc I) (state_count R)) (wide talls (suc I) D₀.poses)
        (wide talls I (state_count R)) old mid table
        → Joined (wide talls I (state_count R)) lanes (wide talls (suc I) (state_count R))
        (wide talls (suc I) D₀.poses) I mid one
        → Closed (suc I) (wide talls (suc I) D₀.poses) (wide talls (suc I) (width_of D₀.poses))
        (AllStates (wide talls (suc I) (state_count R)) (wide talls (suc I) (state_count R))) one new
        → StageDone D₀ D₁ R talls pos₀ pos₁ I old new table
    stage-done I lanes {old} {mid} {one} {new} h g n dead p j c =
        record {
          long = c.long ∙ j.long ∙ p.long;
          low = c.fits;
          lent = p.lent;
          tables = λ k q₀ q₁ a n m.
              let w = c.kept k q₀ q₁ a m (λ e. absurd (n e)) in
              let u = j.tables k q₀ q₁ a n m in
              let v = p.tables k q₀ q₁ a m in
              record { case = w.case ∙ u.case ∙ v.case; source = w.source ∙ u.source ∙ v.source };
          staged = λ r. record {
            case = λ q₀ q₁ a x y z.
                let m = wide-states (suc I) in
                let n = wide-poses (suc I) in
                let e =
                c.kept (suc I) q₀ q₁ a (omega arith, omega arith, omega arith, omega arith) (λ e k l. omega arith) in
                rw (e.case, e.source) (go r q₀ q₁ a x y z);
            beyond = record { none = λ q₀ q₁ l x y. c.none q₀ q₁ l (x, y) };
          };
        }
      where
        -- a lane is run, or no case goes by it
        run : (s t l : ℕ) → s < wide talls I (state_count R) → t < wide talls I (state_count R)
            → l < wide talls I D₀.poses
            → (l < min lanes (wide talls I D₀.poses)) ⊎ (B ≤ cases_in old I s t l)
        run s t l b d e = go (dec_lt l lanes)
          where
            go : Dec (l < lanes) → (l < min lanes (wide talls I D₀.poses)) ⊎ (B ≤ cases_in old I s t l)
            go (yes k) = inl (omega arith)
            go (no k) =
                let w = wide-lanes talls I D₀.poses narrow in
                inr (dead.none s t l b d (omega arith) (omega arith))

        -- the ways below B are the model's
        same : TableRight D₀ D₁ R talls pos₀ pos₁ I old → (q₀ q₁ a s t l : ℕ) → q₀ < wide talls (suc I) (state_count R)
            → q₁ < wide talls (suc I) (state_count R) → a < wide talls (suc I) D₀.poses
            → s < wide talls I (state_count R) → t < wide talls I (state_count R) → l < wide talls I D₀.poses
            → min (cases_in mid I s t l + (costs_in mid 0 s l q₀ a + costs_in mid 1 t l q₁ a)) B
            ≡ min (table_of D₀ D₁ R talls pos₀ pos₁ I s t l
            + (cost_of D₀ R talls pos₀ I s l q₀ a + cost_of D₁ R talls pos₁ I t l q₁ a)) B
        same r q₀ q₁ a s t l x y z b d e =
            let m = wide-states I in
            let n = wide-poses I in
            let u = (p.tables I s t l (omega arith, omega arith, omega arith, omega arith)).case in
            let v = r.word s t l b d e in
            ways-same _ _ (p.right₀ s b) (p.right₁ t d) q₀ q₁ a l x y z b d (run s t l b d e) u v

        -- no case goes by a lane that is not run
        rest : (s t l : ℕ) → s < wide talls I (state_count R) → t < wide talls I (state_count R) → lanes ≤ l
            → l < wide talls I D₀.poses → B ≤ cases_in mid I s t l
        rest s t l b d u v =
            let m = wide-states I in
            let n = wide-lanes talls I D₀.poses narrow in
            omega (
              arith,
              (p.tables I s t l (omega arith, omega arith, omega arith, omega arith)).case,
              dead.none s t l b d u (omega arith),
            )

        -- nor by one beyond the poses
        beyond : TableRight D₀ D₁ R talls pos₀ pos₁ I old → (s t l : ℕ) → s < wide talls I (state_count R)
            → t < wide talls I (state_count R) → wide talls I D₀.poses ≤ l → l < lanes → B ≤ cases_in mid I s t l
        beyond r s t l b d u v =
            let m = wide-states I in
            let w = wide-lanes talls I D₀.poses narrow in
            omega (
              arith,
              (p.tables I s t l (omega arith, omega arith, omega arith, omega arith)).case,
              r.beyond.none s t l b d u (omega arith),
            )

        go : TableRight D₀ D₁ R talls pos₀ pos₁ I old → (q₀ q₁ a : ℕ) → q₀ < wide talls (suc I) (state_count R)
            → q₁ < wide talls (suc I) (state_count R) → a < wide talls (suc I) D₀.poses
            → Least
            (table_of D₀ D₁ R talls pos₀ pos₁ (suc I) q₀ q₁ a)
            (Way (wide talls I (state_count R)) (wide talls I D₀.poses) (table_of D₀ D₁ R talls pos₀ pos₁ I)
            (cost_of D₀ R talls pos₀ I) (cost_of D₁ R talls pos₁ I) q₀ q₁ a)
            (cases_in one (suc I) q₀ q₁ a)
            (pointers_in one (suc I) q₀ q₁ a)
        go r q₀ q₁ a x y z =
            let d = least-lanes (wide talls I (state_count R)) lanes (wide talls I D₀.poses) (cases_in mid I)
            (costs_in mid 0) (costs_in mid 1) q₀ q₁ a (beyond r) rest (j.done q₀ q₁ a x y z) in
            let w = least_ext (wide talls I (state_count R)) (wide talls I D₀.poses) (cases_in mid I)
            (table_of D₀ D₁ R talls pos₀ pos₁ I)
            (costs_in mid 0) (costs_in mid 1) (cost_of D₀ R talls pos₀ I) (cost_of D₁ R talls pos₁ I) q₀ q₁ a
            (λ s t l b d e. same r q₀ q₁ a s t l x y z b d e) d in
            record { right = w.right ∙ table_step I q₀ q₁ a h; found = w.found; small = w.small }

    -- the same by the code's names
    pub stage-made : (I count starts before lanes ends last width : ℕ) {old mid one new table : List ℕ}
        → starts ≡ wide talls I count → before ≡ wide talls I (width_of D₀.poses) → ends ≡ wide talls (I + 1) count
        → last ≡ wide talls (I + 1) D₀.poses
        → width ≡ wide talls (I + 1) (width_of D₀.poses)
        → count ≡ state_count R → I ≤ talls → talls ≤ max_tall
        → LanesRun old I starts lanes before
        → BothCosted (cost_of D₀ R talls pos₀ I) (cost_of D₁ R talls pos₁ I) I (wide talls I count)
        (min lanes (wide talls I D₀.poses)) (wide talls (suc I) count) (wide talls (suc I) D₀.poses)
        (wide talls I count) old mid table
        → Joined starts lanes ends last I mid one → Closed (I + 1) last width (AllStates ends ends) one new
        → StageDone D₀ D₁ R talls pos₀ pos₁ I old new table
    stage-made I count starts before lanes ends last width e₁ e₂ e₃ e₄ e₅ all h g run p j c =
        let b = rw all at p in
        let d = rw (e₁, e₃, e₄, add-one I, all) at j in
        let f = rw (e₃, e₄, e₅, add-one I, all) at c in
        let w = rw (e₁, e₂, all) at run in
        stage-done I lanes h g w.most w.others b d f

    -- the stages before are kept
    staged-kept : (J I : ℕ) {old new table : List ℕ} → J < I → I ≤ max_tall
        → StageDone D₀ D₁ R talls pos₀ pos₁ I old new table → Staged D₀ D₁ R talls pos₀ pos₁ J old
        → Staged D₀ D₁ R talls pos₀ pos₁ J new
    staged-kept j I h g d w = record {
      case = λ q₀ q₁ a x y z.
          let m = wide-states (suc j) in
          let n = wide-poses (suc j) in
          let e = d.tables (suc j) q₀ q₁ a (λ e. omega arith) (omega arith, omega arith, omega arith, omega arith) in
          rw (e.case, e.source) (w.case q₀ q₁ a x y z);
      beyond = record {
        none = λ q₀ q₁ l x y u v.
            let m = wide-states (suc j) in
            let n = wide-lanes talls (suc j) D₀.poses narrow in
            (d.tables (suc j) q₀ q₁ l (λ e. omega arith) (omega arith, omega arith, omega arith, omega arith)).case
            ∙ w.beyond.none q₀ q₁ l x y u v;
      };
    }

    pub through_more : {I : ℕ} {old mid new table : List ℕ} → I ≤ max_tall → Through D₀ D₁ R talls pos₀ pos₁ I old mid
        → StageDone D₀ D₁ R talls pos₀ pos₁ I mid new table
        → Through D₀ D₁ R talls pos₀ pos₁ (I + 1) old new
    through_more {I} {new = new} b t d =
        record {
          long = d.long ∙ t.long;
          low = d.low;
          right = rw (add-one I) (staged-right I (d.staged t.right));
          staged = below_more (λ (J : ℕ). Staged D₀ D₁ R talls pos₀ pos₁ J new) I
              (λ J h. staged-kept J I h b d (t.staged J h)) (d.staged t.right);
        }

  -- before anything: the word of case (0, 0, 0) is 0
  pub through_none : {st : List ℕ} (at : ℕ) → at ≡ case_at 0 0 0 → Low st → at < length st
      → Through D₀ D₁ R talls pos₀ pos₁ 0 (set st at 0) (set st at 0)
  unfolding cases_in table_of wide
  through_none {st} at e w h =
      record {
        long = refl;
        low = low-set at 0 w h (omega arith);
        right = record {
          word = λ q₀ q₁ a x y z. ap (λ (k : ℕ). get_or (set st at 0) k 0) (omega arith) ∙ get_or-set_same st at 0 0 h;
          beyond = record { none = λ q₀ q₁ l x y u v. absurd (omega arith) };
        };
        staged = λ J h. absurd (omega arith);
      }

  -- all stages
  pub through_all : {I : ℕ} {old mid new : List ℕ} → length mid ≡ length old
      → Through D₀ D₁ R talls pos₀ pos₁ I mid new → talls < I
      → StagesDone D₀ D₁ R talls pos₀ pos₁ old new
  unfolding table_of cost_of
  through_all e t m =
      record {
        long = t.long ∙ e;
        low = t.low;
        right = λ I q₀ q₁ a h x y z. ((t.staged I (omega arith)).case q₀ q₁ a x y z).right;
        way = λ I q₀ q₁ a h x y z b.
            let c = (t.staged (suc I) (omega arith)).case q₀ q₁ a x y z in
            let g = c.found (omega (arith, c.right)) in
            rw (
              wide-all talls I (state_count R) (omega arith),
              wide-all talls I D₀.poses
                  (omega arith),
              c.right,
            ) at g;
      }

-- ---- what a stage is given

module _ {row₀ row₁ st : List ℕ} {z : Sizes} {n₁ : ℕ} (g : StagesGiven row₀ row₁ st z n₁) where
  pub given-states : (z.states ≤ 12) × (1 ≤ z.states) × (z.poses ≤ max_poses) × (z.talls ≤ max_tall)
  given-states =
      let r = g.given₀.grounded in (
        omega (arith, r.all, r.coded.few),
        omega (arith, r.all, (counted z.reordering r.coded.reorder).some),
        r.few,
        g.given₀.few,
      )

  pub given-wide : (I : ℕ) → (wide z.talls I z.states ≤ 12) × (wide z.talls I z.poses ≤ max_poses)
      × Pages (wide z.talls I z.states) st
  given-wide I = (
    wide_low z.talls I z.states 12 (omega arith) given-states.0,
    wide_low z.talls I z.poses max_poses (omega arith) given-states.2,
    omega (arith, g.long, wide-most z.talls I z.states given-states.1),
  )

  -- every table has the case (0, 0, 0)
  pub given-first : (I : ℕ) → I ≤ 25 → case_at I 0 0 < length st
  given-first I h = omega (arith, (given-wide 0).2, wide-first z.talls 0 z.states refl)

  -- the lanes of the table that stage I reads, whatever was written before
  pub given-table : (I lanes : ℕ) (new : List ℕ) → I ≤ z.talls → lanes ≤ max_lanes → length new ≡ length st → Low new
      → Table (wide z.talls I z.states) lanes I new
  given-table I lanes new h n e w =
      let m = given-wide I in
      record {
        states = m.0;
        few = n;
        stage = omega (arith, given-states.3);
        long = omega (arith, m.2);
        low = w;
      }
