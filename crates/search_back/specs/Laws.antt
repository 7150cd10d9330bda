-- Laws of the trace: a case's way gives what both rows are to be traced by, and the case to go on from;
-- later traces keep the places already noted.
use Rattle.std.specs.Prelude.{ℕ, suc, ◌+◌, ◌≤◌, ◌<◌, ◌≡◌, refl, List, length}
use Rattle.std.proofs.Common.{sym, ap, ◌∙◌, inl, inr, arith}
use Rattle.std.proofs.Math.Path.{subst}
use Rattle.std.proofs.Math.Decide.{dec_lt}
use Rattle.search_store.specs.Map.{pointer_at, pages_from, max_kept}
use Rattle.search_row.specs.declared.Sizes.{Sizes}
use Rattle.search_row.specs.Words.{deck_in, pos_in, with_cells, RowGiven}
use Rattle.theory_tables.specs.Steps.{B, Deck, Layer, state_count}
use Rattle.theory_tables.specs.Stages.{placed_with, open_cost, stage_cost, case_table}
use Rattle.theory_tables.specs.Back.{EndTraced, StageTraced}
use Rattle.theory_tables.specs.Notes.{NotedBy, stage-words}
use Rattle.search_lanes.specs.Laws.{frame-refl, frame-join}
use Rattle.search_lanes.specs.Store.{Frame, Low}
use Rattle.search_store.specs.Places.{case-above}
use Rattle.search_join.specs.Tables.{case_state₀, case_state₁, case_pose, pointers_in, Way}
use Rattle.search_stage.specs.Stage.{wide, StagesGiven}
use Rattle.search_stage.specs.Laws.{wide-all, wide-last, given-states, given-wide}
use Rattle.search_back_segment.specs.Traces.{word_at}
use Rattle.search_back_stage.specs.Rows.{start_cells, start_layer, start_end, end_place, Stage, StageNoted}
use Rattle.search_back_stage.proofs.Laws.{end-tall, end-last}
use Rattle.search_back.specs.Trace.{PointerRoom, Ways, LegGiven, Trace, LegDone, TraceDone}

-- ---- one row

-- a traced stage goes on from its start
pub traced-on : (D : Deck) (R talls : ℕ) (pos : ℕ → ℕ) (Noted : ℕ → ℕ → ℕ → Type 0) (I : ℕ) (f : Layer) (i x q a : ℕ)
    → StageTraced D R talls pos Noted I f i x q a
    → i ≤ suc (end_place D.size R talls pos I q)
traced-on D R talls pos Noted I f i x q a w = go (dec_lt I talls)
  where
    ended : EndTraced D R Noted f i x → i ≤ suc D.size
    ended (inl e) = omega arith
    ended (inr (r, b, l)) = omega (arith, l.room)

    go : Dec (I < talls) → i ≤ suc (end_place D.size R talls pos I q)
    go (yes h) = omega (arith, end-tall D.size R talls pos I q h, (w.to_tall h).0)
    go (no h) = omega (arith, end-last D.size R talls pos I q (omega arith), ended (w.to_the_end (omega arith)))

-- what was noted after tall cell J stays when the stages up to it are traced
pub traced-kept : (D : Deck) (R talls : ℕ) (pos : ℕ → ℕ) (J s : ℕ) (f : Layer) (x q a : ℕ) (mid new : List ℕ)
    → J < talls → Frame 1 (suc (end_place D.size R talls pos J s)) mid new
    → StageTraced D R talls pos (NotedBy (word_at mid)) (suc J) f (suc (placed_with R (pos J) s)) x q a
    → StageTraced D R talls pos (NotedBy (word_at new)) (suc J) f (suc (placed_with R (pos J) s)) x q a
traced-kept D R talls pos J s f x q a mid new h n w =
    stage-words D R talls pos (word_at mid) (word_at new) (suc J) f (suc (placed_with R (pos J) s)) x q a
    (λ e u v. sym (n.high e (omega (arith, end-tall D.size R talls pos J s h)))) w

-- the places of a stage and of those before it
pub notes-join : (D : Deck) (R talls : ℕ) (pos : ℕ → ℕ) (J s q : ℕ) {old mid new : List ℕ} → J < talls
    → suc (placed_with R (pos J) s) ≤ suc (end_place D.size R talls pos (suc J) q)
    → Frame (suc (placed_with R (pos J) s)) (suc (end_place D.size R talls pos (suc J) q)) old mid
    → Frame 1 (suc (end_place D.size R talls pos J s)) mid new
    → Frame 1 (suc (end_place D.size R talls pos (suc J) q)) old new
notes-join D R talls pos J s q h l f g =
    frame-join 1 (suc (end_place D.size R talls pos (suc J) q)) f g (omega arith) (omega arith) (omega arith)
    (omega (arith, end-tall D.size R talls pos J s h))

-- one row of a stage, as a traceback wants it
row-stage : {row st path : List ℕ} {z : Sizes} {I s l q a : ℕ}
    → RowGiven row z → Low st → pages_from ≤ length st → max_kept < length path → I ≤ z.talls
    → (0 < I → s < state_count z.reordering) → (0 < I → l < z.poses)
    → q < wide z.talls (suc I) (state_count z.reordering) → a < wide z.talls (suc I) z.poses
    → Stage row st path z I s l q a
row-stage {z = z} {I = I} g w l r i s p x y =
    record {
      start = record { given = g; low = w; long = l; stage = i; state = s; pose = p };
      room = r;
      state = λ h. omega (arith, wide-all z.talls I (state_count z.reordering) h);
      pose = λ h. omega (arith, wide-all z.talls I z.poses h);
    }

-- ---- one stage of both rows

module _ {row₀ row₁ st path₀ path₁ : List ℕ} {z : Sizes} {n₁ I s t l q₀ q₁ a : ℕ}
    (g : LegGiven row₀ row₁ st path₀ path₁ z n₁ I s t l q₀ q₁ a) where
  pub leg_row₀ : Stage row₀ st path₀ z I s l q₀ a
  leg_row₀ =
      row-stage g.both.given.given₀ g.both.given.low (omega (arith, g.both.given.long)) g.both.room₀
      g.stage g.state₀ g.pose g.case.state₀ g.case.pose

  pub leg_row₁ : {mid : List ℕ} → Low mid → length mid ≡ length st → Stage row₁ mid path₁ (with_cells z n₁) I t l q₁ a
  leg_row₁ w e =
      row-stage g.both.given.given₁ w (omega (arith, g.both.given.long)) g.both.room₁ g.stage g.state₁
      g.pose g.case.state₁ g.case.pose

pub leg_done : {D₀ D₁ : Deck} {R talls : ℕ} {pos₀ pos₁ : ℕ → ℕ} {I s t l q₀ q₁ a : ℕ}
    {st mid new path₀ path₀' path₁ path₁' : List ℕ}
    → StageNoted D₀ R talls pos₀ I s l q₀ a st mid path₀ path₀'
    → StageNoted D₁ R talls pos₁ I t l q₁ a mid new path₁ path₁'
    → LegDone D₀ D₁ R talls pos₀ pos₁ I s t l q₀ q₁ a st new path₀ path₀' path₁ path₁'
leg_done v w =
    record {
      frame = frame-join 0 pages_from v.frame w.frame (omega arith) (omega arith) (omega arith) (omega arith);
      low = w.low;
      notes₀ = v.notes;
      notes₁ = w.notes;
      traced₀ = v.row_traced;
      traced₁ = w.row_traced;
    }

-- ---- the first stage

module _ {row₀ row₁ st path₀ path₁ : List ℕ} {z : Sizes} {n₁ I q₀ q₁ a : ℕ}
    (g : Trace row₀ row₁ st path₀ path₁ z n₁ I q₀ q₁ a) where
  trace-at : (K : ℕ) → I ≡ K → Trace row₀ row₁ st path₀ path₁ z n₁ K q₀ q₁ a
  trace-at K e = subst (λ (k : ℕ). Trace row₀ row₁ st path₀ path₁ z n₁ k q₀ q₁ a) e g

  -- the case's back pointer is in the store
  pub pointer_room : PointerRoom I q₀ q₁ a st
  pointer_room =
      let v = g.both.given in
      let p = given-states v in
      let w = given-wide v (suc I) in
      let n = v.given₀.grounded.all in
      let e : wide z.talls (suc I) (state_count z.reordering) ≡ wide z.talls (suc I) z.states =
      ap (wide z.talls (suc I)) (sym n) in
      let c = g.case in
      record {
        stage = omega (arith, g.stage);
        state₀ = omega arith;
        state₁ = omega arith;
        pose = omega arith;
        page = omega (arith, w.2);
      }

  pub open_leg : I ≡ 0 → LegGiven row₀ row₁ st path₀ path₁ z n₁ 0 0 0 0 q₀ q₁ a
  open_leg e =
      let h = trace-at 0 e in
      record {
        both = h.both;
        stage = h.stage;
        state₀ = λ x. absurd (omega arith);
        state₁ = λ x. absurd (omega arith);
        pose = λ x. absurd (omega arith);
        case = h.case;
      }

module _ {D₀ D₁ : Deck} {R talls : ℕ} {pos₀ pos₁ : ℕ → ℕ} {I q₀ q₁ a : ℕ}
    {st new path₀ path₀' path₁ path₁' : List ℕ} where
  done_at : (K : ℕ) → I ≡ K → TraceDone D₀ D₁ R talls pos₀ pos₁ K q₀ q₁ a st new path₀ path₀' path₁ path₁'
      → TraceDone D₀ D₁ R talls pos₀ pos₁ I q₀ q₁ a st new path₀ path₀' path₁ path₁'
  done_at K e w =
      subst (λ (k : ℕ). TraceDone D₀ D₁ R talls pos₀ pos₁ k q₀ q₁ a st new path₀ path₀' path₁ path₁') (sym e) w

  pub open_done : I ≡ 0 → LegDone D₀ D₁ R talls pos₀ pos₁ 0 0 0 0 q₀ q₁ a st new path₀ path₀' path₁ path₁'
      → TraceDone D₀ D₁ R talls pos₀ pos₁ I q₀ q₁ a st new path₀ path₀' path₁ path₁'
  unfolding start_layer start_cells start_end case_table open_cost
  open_done e w = done_at 0 e record {
    frame = w.frame;
    low = w.low;
    long₀ = w.notes₀.long;
    long₁ = w.notes₁.long;
    done = λ x c. record {
      notes₀ = w.notes₀;
      notes₁ = w.notes₁;
      traced =
          (w.traced₀ (omega arith), w.traced₁ (omega arith));
    };
  }

-- ---- a later stage

-- the tables are kept
ways-kept : {D₀ D₁ : Deck} {R talls : ℕ} {pos₀ pos₁ : ℕ → ℕ} {old new : List ℕ} → Frame 0 pages_from old new
    → Ways D₀ D₁ R talls pos₀ pos₁ old → Ways D₀ D₁ R talls pos₀ pos₁ new
unfolding pointers_in
ways-kept f w = record {
  way = λ I q₀ q₁ a h c l. rw (f.high (pointer_at (suc (suc I)) q₀ q₁ + a) (case-above (suc (suc I)) q₀ q₁ a).1)
      (w.way I q₀ q₁ a h c l);
}

module _ {row₀ row₁ st path₀ path₁ : List ℕ} {z : Sizes} {n₁ I q₀ q₁ a : ℕ}
    (g : Trace row₀ row₁ st path₀ path₁ z n₁ I q₀ q₁ a)
    (J code : ℕ) (e : I ≡ suc J) (c : code ≡ pointers_in st (suc I) q₀ q₁ a) where
  abbrev D₀ : Deck
  D₀ = deck_in row₀ z

  abbrev D₁ : Deck
  D₁ = deck_in row₁ (with_cells z n₁)

  abbrev Known : Type 0
  Known = Ways (deck_in row₀ z) (deck_in row₁ (with_cells z n₁)) z.reordering z.talls (pos_in row₀) (pos_in row₁) st
      × (case_table (deck_in row₀ z) (deck_in row₁ (with_cells z n₁)) z.reordering z.talls (pos_in row₀) (pos_in row₁)
      (suc J) q₀ q₁ a < B)

  way : Known → Way (state_count z.reordering) z.poses
      (case_table D₀ D₁ z.reordering z.talls (pos_in row₀) (pos_in row₁) J)
      (stage_cost D₀ z.reordering z.talls (pos_in row₀) J)
      (stage_cost D₁ z.reordering z.talls (pos_in row₁) J)
      q₀
      q₁
      a
      (case_table D₀ D₁ z.reordering z.talls (pos_in row₀) (pos_in row₁) (suc J) q₀ q₁ a)
      code
  way k =
      let h = trace-at g (suc J) e in
      let z = c ∙ ap (λ (k : ℕ). pointers_in st (suc k) q₀ q₁ a) e in
      rw z (k.0.way J q₀ q₁ a (omega (arith, h.stage)) h.case k.1)

  costs : Known → (case_table D₀ D₁ z.reordering z.talls (pos_in row₀) (pos_in row₁) J
      (case_state₀ code) (case_state₁ code) (case_pose code) < B)
      × (stage_cost D₀ z.reordering z.talls (pos_in row₀) J (case_state₀ code) (case_pose code) q₀ a < B)
      × (stage_cost D₁ z.reordering z.talls (pos_in row₁) J (case_state₁ code) (case_pose code) q₁ a < B)
  costs k =
      let l = k.1 in
      let s = (way k).sum in
      (omega arith, omega arith, omega arith)

  -- a code that stands for no case: there is no way
  pub stray_done :
      (case_state₀ code < z.states → case_state₁ code < z.states → case_pose code < z.poses → ⊥)
      → TraceDone D₀ D₁ z.reordering z.talls (pos_in row₀) (pos_in row₁) I q₀ q₁ a st st path₀ path₀ path₁ path₁
  stray_done z =
      let all = g.both.given.given₀.grounded.all in
      done_at (suc J) e record {
        frame = frame-refl 0 pages_from st;
        low = g.both.given.low;
        long₀ = refl;
        long₁ = refl;
        done = λ x y. let w = way (x, y) in absurd (z (omega (arith, w.state₀)) (omega (arith, w.state₁)) w.lane);
      }

  module _ (in₀ : case_state₀ code < z.states) (in₁ : case_state₁ code < z.states)
      (inl' : case_pose code < z.poses) where
    pub back_leg : LegGiven row₀ row₁ st path₀ path₁ z n₁ I (case_state₀ code) (case_state₁ code) (case_pose code) q₀ q₁ a
    back_leg =
        let all = g.both.given.given₀.grounded.all in
        record {
          both = g.both;
          stage = g.stage;
          state₀ = λ y. omega arith;
          state₁ = λ y. omega arith;
          pose = λ y. inl';
          case = g.case;
        }

    module _ {mid mid₀ mid₁ : List ℕ}
        (d : LegDone (deck_in row₀ z) (deck_in row₁ (with_cells z n₁)) z.reordering z.talls (pos_in row₀)
        (pos_in row₁) I (case_state₀ code) (case_state₁ code) (case_pose code) q₀ q₁ a st mid path₀ mid₀ path₁ mid₁) where
      -- the case to go on from
      pub back-rest : Trace row₀ row₁ mid mid₀ mid₁ z n₁ J (case_state₀ code) (case_state₁ code) (case_pose code)
      back-rest =
          let h : J < z.talls = omega (arith, g.stage) in
          let all = g.both.given.given₀.grounded.all in
          record {
            both = record {
              given = record {
                given₀ = g.both.given.given₀;
                given₁ = g.both.given.given₁;
                long = omega (arith, g.both.given.long, d.frame.long);
                low = d.low;
              };
              room₀ = omega (arith, g.both.room₀, d.notes₀.long);
              room₁ = omega (arith, g.both.room₁, d.notes₁.long);
            };
            stage = omega arith;
            case = record {
              state₀ = omega (arith, wide-all z.talls J (state_count z.reordering) h);
              state₁ = omega (arith, wide-all z.talls J (state_count z.reordering) h);
              pose = omega (arith, wide-all z.talls J z.poses h);
            };
          }

      pub back_done : {new new₀ new₁ : List ℕ}
          → TraceDone (deck_in row₀ z) (deck_in row₁ (with_cells z n₁)) z.reordering z.talls (pos_in row₀)
          (pos_in row₁) J (case_state₀ code) (case_state₁ code) (case_pose code) mid new mid₀ new₀ mid₁ new₁
          → TraceDone (deck_in row₀ z) (deck_in row₁ (with_cells z n₁)) z.reordering z.talls (pos_in row₀)
          (pos_in row₁) I q₀ q₁ a st new path₀ new₀ path₁ new₁
      unfolding stage_cost start_layer start_cells start_end
      back_done {new} {new₀} {new₁} r =
          let s = case_state₀ code in
          let t = case_state₁ code in
          let l = case_pose code in
          let h : J < z.talls = omega (arith, g.stage) in
          let u = subst (λ (k : ℕ). LegDone D₀ D₁ z.reordering z.talls (pos_in row₀)
          (pos_in row₁) k s t l q₀ q₁ a st mid path₀ mid₀ path₁ mid₁) e d in
          done_at (suc J) e record {
            frame =
                frame-join 0 pages_from d.frame r.frame (omega arith) (omega arith) (omega arith) (omega arith);
            low = r.low;
            long₀ = r.long₀ ∙ u.notes₀.long;
            long₁ = r.long₁ ∙ u.notes₁.long;
            done = λ x y.
                let k = costs (x, y) in
                let w = way (x, y) in
                let v = r.done (ways-kept d.frame x) k.0 in
                let w₀ = u.traced₀ k.1 in
                let w₁ = u.traced₁ k.2 in
                record {
                  notes₀ = notes-join D₀ z.reordering z.talls (pos_in row₀) J s q₀ h (traced-on D₀ z.reordering
                      z.talls (pos_in row₀) (NotedBy (word_at mid₀)) (suc J) _ _ _ q₀ a w₀) u.notes₀ v.notes₀;
                  notes₁ = notes-join D₁ z.reordering z.talls (pos_in row₁) J t q₁ h (traced-on D₁ z.reordering
                      z.talls (pos_in row₁) (NotedBy (word_at mid₁)) (suc J) _ _ _ q₁ a w₁) u.notes₁ v.notes₁;
                  traced = (
                    s,
                    t,
                    l,
                    record {
                      state₀ = w.state₀;
                      state₁ = w.state₁;
                      pose = w.lane;
                      sum = w.sum;
                      row₀ = traced-kept D₀ z.reordering z.talls
                          (pos_in row₀) J s _ _ q₀ a mid₀ new₀ h v.notes₀ w₀;
                      row₁ = traced-kept D₁ z.reordering z.talls
                          (pos_in row₁) J t _ _ q₁ a mid₁ new₁ h v.notes₁ w₁;
                    },
                    v.traced,
                  );
                };
          }

-- ---- the whole trace

pub trace-given : {row₀ row₁ st path₀ path₁ : List ℕ} {z : Sizes} {n₁ : ℕ}
    → StagesGiven row₀ row₁ st z n₁ → max_kept < length path₀ → max_kept < length path₁
    → Trace row₀ row₁ st path₀ path₁ z n₁ z.talls 0 0 0
trace-given {z = z} g x y =
    record {
      both = record { given = g; room₀ = x; room₁ = y };
      stage = omega arith;
      case = record {
        state₀ = one (state_count z.reordering);
        state₁ = one (state_count z.reordering);
        pose = one z.poses;
      };
    }
  where
    one : (k : ℕ) → 0 < wide z.talls (suc z.talls) k
    one k = omega (arith, wide-last z.talls (suc z.talls) k (omega arith))
