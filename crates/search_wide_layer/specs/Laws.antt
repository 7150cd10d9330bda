-- Laws of one layer in the store: what is written beside it keeps it.
use Rattle.std.specs.Prelude.{ℕ, ◌+◌, ◌*◌, ◌≤◌, ◌<◌, ◌≡◌, List, get_or}
use Rattle.std.proofs.Common.{arith}
use Rattle.std.proofs.Math.Decide.{dec_lt}
use Rattle.search_store.specs.Map.{layer_block, state_block, flags_from, max_lanes, max_poses}
use Rattle.search_row.specs.declared.Sizes.{Sizes}
use Rattle.theory_tables.specs.Steps.{Deck, state_count, next_layer}
use Rattle.search_lanes.specs.Store.{Frame, Low, layer_in}
use Rattle.search_lanes.specs.Laws.{said_same}
use Rattle.search_buckets.specs.Next.{next_ext}
use Rattle.search_wide_layer.specs.Loops.{WideGiven, Beside}

-- a block's entries are as they were
pub record BlockKept (at : ℕ) (old new : List ℕ) : Type 0 where
  pub word : (k : ℕ) → at ≤ k → k < at + layer_block → get_or new k 0 ≡ get_or old k 0

-- what is written in one block keeps the other
pub beside-kept : {st old new : List ℕ} {at to a b : ℕ} → Beside st at to → Frame a b old new → to ≤ a
    → b ≤ to + layer_block → BlockKept at old new
beside-kept {old = old} {new = new} {at} {to} {a} {b} v f p q =
    record { word = λ k x y. go k x y (dec_lt k a) (dec_lt k b) }
  where
    go : (k : ℕ) → at ≤ k → k < at + layer_block → Dec (k < a) → Dec (k < b) → get_or new k 0 ≡ get_or old k 0
    go k x y (yes h) t = f.low k h
    go k x y (no h) (no t) = f.high k (omega arith)
    go k x y (no h) (yes t) = absurd (v.apart k x y (omega arith) (omega arith))

pub next-kept :
    (D : Deck) (R : ℕ) {at : ℕ} {old new : List ℕ} (i q a l : ℕ)
    → BlockKept at old new → state_count R ≤ 12 → D.poses ≤ max_poses → l < max_lanes
    → next_layer D R (layer_in new at l) i q a ≡ next_layer D R (layer_in old at l) i q a
next-kept D R {at} {old} {new} i q a l s w p h =
    next_ext D R (layer_in new at l) (layer_in old at l)
    (λ q b x y. said_same old new (at + q * state_block) b l
    (s.word (at + q * state_block + flags_from + b) (omega arith) (omega arith))
    (s.word (at + q * state_block + b * max_lanes + l) (omega arith) (omega arith)))
    i q a

-- what a function was given holds on, whatever another one wrote
pub given-on :
    {row old new : List ℕ} {z : Sizes} {lanes i at a b : ℕ}
    → WideGiven row old z lanes i at → Frame a b old new → Low new
    → WideGiven row new z lanes i at
given-on g f w =
    record { grounded = g.grounded; low = w; narrow = g.narrow; early = g.early; room = omega (arith, g.room, f.long) }

pub beside-on : {old new : List ℕ} {at to a b : ℕ} → Beside old at to → Frame a b old new → Beside new at to
beside-on v f = record { room = omega (arith, v.room, f.long); apart = v.apart }
