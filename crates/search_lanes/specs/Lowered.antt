-- Words of the store that are lowered, lane by lane.
use Rattle.std.specs.Prelude.{ℕ, ◌+◌, ◌-◌, ◌≤◌, ◌<◌, min, ◌≡◌, List, length, get_or, set}
use Rattle.std.proofs.Common.{sym, ap, ◌∙◌, arith, below_more, get_or-set_same, get_or-set_other}
use Rattle.std.proofs.Math.Decide.{dec_lt}
use Rattle.theory_tables.specs.Steps.{B}
use Rattle.search_lanes.specs.Store.{Frame, Low}
use Rattle.search_lanes.specs.Laws.{frame-refl, frame-set}

-- the words from `to` on, so many of them, are lowered to f's; nothing else changed
pub record LoweredAt (f : ℕ → ℕ) (to lanes : ℕ) (old new : List ℕ) : Type 0 where
  pub frame : Frame to (to + lanes) old new
  pub done : (l : ℕ) → l < lanes → get_or new (to + l) 0 ≡ min (get_or old (to + l) 0) (f l)

pub lowered_at-none : (f : ℕ → ℕ) (to : ℕ) (l : List ℕ) → LoweredAt f to 0 l l
lowered_at-none f to l = record { frame = frame-refl to (to + 0) l; done = λ k h. absurd (omega arith) }

-- one lane more
pub lowered_at-more :
    {f : ℕ → ℕ} {to : ℕ} {old new : List ℕ} (l v : ℕ)
    → LoweredAt f to l old new → to + l < length old → v ≡ min (get_or old (to + l) 0) (f l)
    → LoweredAt f to (l + 1) old (set new (to + l) v)
lowered_at-more {f} {to} {old} {new} l v w h e =
    let n = w.frame.long in
    record {
      frame = frame-set (to + (l + 1)) (to + l) v w.frame (omega arith) (omega arith) (omega arith);
      done = below_more (λ (k : ℕ). get_or (set new (to + l) v) (to + k) 0 ≡ min (get_or old (to + k) 0) (f k)) l
          (λ k g. get_or-set_other new (to + l) (to + k) v 0 (omega arith) ∙ w.done k g)
          (get_or-set_same new (to + l) v 0 (omega arith) ∙ e);
    }

-- one word
pub lowered_at-one : (f : ℕ → ℕ) (to v : ℕ) {l : List ℕ} → to < length l → v ≡ min (get_or l to 0) (f 0)
    → LoweredAt f to 1 l (set l to v)
lowered_at-one f to v {l} h e =
    let z : to + 0 ≡ to = omega arith in
    rw z at (lowered_at-more 0 v (lowered_at-none f to l) (omega arith)
    (e ∙ ap (λ (k : ℕ). min (get_or l k 0) (f 0)) (sym z)))

-- what is lowered stays at most B
pub lowered_at-low : {f : ℕ → ℕ} {to lanes : ℕ} {old new : List ℕ} → LoweredAt f to lanes old new → Low old → Low new
lowered_at-low {f} {to} {lanes} {old} {new} v w = record { word = λ k. go k (dec_lt k to) (dec_lt k (to + lanes)) }
  where
    go : (k : ℕ) → Dec (k < to) → Dec (k < to + lanes) → get_or new k 0 ≤ B
    go k (yes p) q = omega (arith, v.frame.low k p, w.word k)
    go k (no p) (no q) = omega (arith, v.frame.high k (omega arith), w.word k)
    go k (no p) (yes q) =
        let e : to + (k - to) ≡ k = omega arith in
        let d : get_or new k 0 ≡ min (get_or old (to + (k - to)) 0) (f (k - to)) = ap (λ (j : ℕ). get_or new j 0) (sym e)
        ∙ v.done (k - to) (omega arith) in
        omega (arith, w.word (to + (k - to)))

-- the same by another name
pub lowered_at_ext : {f g : ℕ → ℕ} {to lanes : ℕ} {old new : List ℕ} → LoweredAt f to lanes old new
    → ((l : ℕ) → l < lanes → f l ≡ g l) → LoweredAt g to lanes old new
lowered_at_ext {to = to} {old = old} w e =
    record { frame = w.frame; done = λ l h. w.done l h ∙ ap (min (get_or old (to + l) 0)) (e l h) }
