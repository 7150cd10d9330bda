-- A first layer in a dense block: what its functions are given, what they leave, and one state more.
use Rattle.std.specs.Prelude.{ℕ, ◌+◌, ◌*◌, ◌≤◌, ◌<◌, min, ◌≡◌, List, length, get_or}
use Rattle.std.proofs.Common.{◌∙◌, arith, below_more}
use Rattle.definition.specs.Job.{max_cells}
use Rattle.theory_tables.specs.Steps.{B, Layer, pose_slots}
use Rattle.search_store.specs.Map.{kept_layer, max_kept, max_poses}
use Rattle.search_lanes.specs.Store.{Frame, Low, Written}
use Rattle.search_lanes.specs.Laws.{frame-refl, frame-join}
use Rattle.search_row.specs.declared.Sizes.{Sizes}
use Rattle.search_row.specs.Words.{word_of, toll_in, front_in, RowWords, Ground}

-- ---- what is given

-- the cell at position k, and so many words from `at` on, one for each of its poses
pub record PosesGiven (row st : List ℕ) (at k poses : ℕ) : Type 0 where
  pub words : RowWords row
  pub low : Low st
  pub room : at + poses ≤ length st
  pub cell : k < max_cells
  pub few : poses ≤ max_poses

-- a row, and a dense block at `at`
pub record LayerGiven (row st : List ℕ) (z : Sizes) (at : ℕ) : Type 0 where
  pub grounded : Ground row z
  pub low : Low st
  pub room : at + kept_layer ≤ length st

-- one of its states
pub record DenseState (row st : List ℕ) (z : Sizes) (at q : ℕ) : Type 0 where
  pub layer : LayerGiven row st z at
  pub state : q < z.states

-- a tall cell that a segment goes on from: at position p in pose l
pub record TallPose (p l : ℕ) : Type 0 where
  pub cell : p < max_cells
  pub pose : l < max_poses

-- a row, a dense block for the first layer after that cell, i cells placed with it, and a state: the tall cell's or one
-- of that layer
pub record AfterTall (row st : List ℕ) (z : Sizes) (i p l to q : ℕ) : Type 0 where
  pub layer : LayerGiven row st z to
  pub placed : i ≤ max_kept + 1
  pub tall : TallPose p l
  pub state : q < z.states

-- ---- what is left

-- the cell at position k in pose a: first of all, and after pose l of the cell at position p
abbrev pub open_pose : List ℕ → ℕ → ℕ → ℕ
open_pose row k a = min (word_of row k a + front_in row k a) B

abbrev pub after_pose : List ℕ → ℕ → ℕ → ℕ → ℕ → ℕ
after_pose row p l k a = min (word_of row k a + toll_in row p l k a) B

-- the states below `count` of the layer f, with so many poses, are in the block
-- at `to`; nothing outside the block changed
pub record Begun (f : Layer) (poses count to : ℕ) (old new : List ℕ) : Type 0 where
  pub frame : Frame to (to + kept_layer) old new
  pub low : Low new
  pub right : (q a : ℕ) → q < count → a < poses → get_or new (to + q * pose_slots + a) 0 ≡ f q a

pub begun-none : (f : Layer) (poses to : ℕ) {st : List ℕ} → Low st → Begun f poses 0 to st st
begun-none f poses to {st} w = record { frame = frame-refl _ _ st; low = w; right = λ q a h. absurd (omega arith) }

pub begun_more :
    {f : Layer} {poses to : ℕ} {old mid new : List ℕ} (q : ℕ)
    → poses ≤ pose_slots → q < 12 → Begun f poses q to old mid → Written (f q) (to + q * pose_slots) poses mid new
    → Begun f poses (q + 1) to old new
begun_more {f} {poses} {to} {new = new} q k h s w =
    record {
      frame = frame-join to (to + kept_layer) s.frame w.frame (omega arith) (omega arith) (omega arith)
          (omega arith);
      low = w.low;
      right = λ p a x y. below_more (λ (p : ℕ). (a : ℕ) → a < poses → get_or new (to + p * pose_slots + a) 0 ≡ f p a) q
          (λ p x a y. w.frame.low (to + p * pose_slots + a) (omega arith) ∙ s.right p a x y)
          (λ a y. w.words a y)
          p x a y;
    }

-- the same of an equal layer
pub begun_ext : {f g : Layer} {poses count to : ℕ} {old new : List ℕ} → Begun f poses count to old new
    → ((q a : ℕ) → f q a ≡ g q a) → Begun g poses count to old new
begun_ext w same = record { frame = w.frame; low = w.low; right = λ q a h k. w.right q a h k ∙ same q a }
