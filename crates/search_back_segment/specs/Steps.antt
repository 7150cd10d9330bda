-- The traceback step by step: an entry is noted, its source is found, and from
-- there on it is a traceback of one layer less.
use Prim.Native.Nat.{ℕ, suc, ◌+◌, ◌-◌, ◌*◌, ◌≤◌, ◌<◌}
use Rattle.std.specs.Prelude.{◌≡◌, Bool, List, length, set}
use Rattle.std.proofs.Math.Path.{refl, ap}
use Rattle.std.proofs.Common.{sym, ◌∙◌, subst, inl, inr, arith, get_or-set_same}
use Rattle.std.proofs.Math.Bool.{true, false, cond}
use borrow.Author.Tests.{le-leb, lt-leb, eqb-true}
use Rattle.std.proofs.Math.Dec.{eqb}
use Rattle.search_row.specs.declared.Sizes.{Sizes}
use Rattle.theory_tables.specs.Steps.{B, Deck, Layer, state_count, last_at, next_layer, layers, ends, cost_end, pose_slots}
use Rattle.theory_tables.specs.Back.{Source, SegmentTraced, Last}
use Rattle.theory_tables.specs.Notes.{NotedBy}
use Rattle.search_lanes.specs.Laws.{frame-refl, frame-set, frame-join}
use Rattle.search_lanes.specs.Store.{Frame}
use Rattle.search_buckets.specs.Next.{next_ext, ends_ext}
use Rattle.search_dense_layer.specs.Kept.{kept_in, KeptLayers}
use Rattle.search_dense_layer.specs.KeptLaws.{kept-fewer}
use Rattle.search_row.specs.Words.{deck_in}
use Rattle.search_back_segment.specs.Traces.{EntrySource, Entry, SegmentTrace, End}
use Rattle.search_back_segment.specs.Traces.{word_at, SegmentTraceDone, EndDone, LastFound}

-- ---- kept layers

-- each kept layer comes from the one before
pub kept_next : {D : Deck} {R : ℕ} {f : Layer} {i m : ℕ} {st : List ℕ} (j q a : ℕ) → i + suc j ≤ m → q < state_count R
    → a < D.poses → KeptLayers D R f i m st
    → kept_in st (suc (i + j)) q a ≡ next_layer D R (kept_in st (i + j)) (i + j) q a
unfolding layers
kept_next {D} {R} {f} {i} {st = st} j q a h x y k =
    ap (λ (e : ℕ). kept_in st e q a) (omega arith)
    ∙ k.right (suc j) q a h x y
    ∙ next_ext D R (layers D R f i j)
    (kept_in st (i + j)) (λ p b u v. sym (k.right j p b (omega arith) u v)) (i + j) q a

-- ---- a traceback

-- an entry of a later layer
pub trace-entry : {row st path : List ℕ} {z : Sizes} {i d q a : ℕ} → 0 < d → SegmentTrace row st path z i d q a
    → Entry row st z (i + (d - 1)) q a
trace-entry {st = st} {i = i} {d = d} {q = q} {a = a} h w =
    let e : i + d ≡ suc (i + (d - 1)) = omega arith in
    record {
      back = w.back;
      some = omega (arith, w.some);
      last = omega (arith, w.last);
      state = w.state;
      pose = w.pose;
      cost = subst (λ (j : ℕ). kept_in st j q a < B) e w.cost;
      next = kept_next (d - 1) q a (omega arith) w.state w.pose w.kept;
    }

-- the traceback from its source
pub trace-rest : {row st old new : List ℕ} {z : Sizes} {i d q a p b : ℕ} → 0 < d → length new ≡ length old
    → SegmentTrace row st old z i d q a
    → EntrySource (deck_in row z) z.reordering st (i + (d - 1)) q a p b → SegmentTrace row st new z i (d - 1) p b
trace-rest {i = i} {d = d} h l w s =
    record {
      back = w.back;
      room = omega (arith, w.room);
      some = w.some;
      last = omega (arith, w.last);
      state = s.state;
      pose = s.pose;
      first = w.first;
      kept = kept-fewer (i + (d - 1)) (omega arith) w.kept;
      cost = omega (arith, s.sum, (trace-entry h w).cost);
    }

module _ (D : Deck) (R : ℕ) (st : List ℕ) (i : ℕ) where
  -- the entry is noted
  abbrev Noted : ℕ → ℕ → ℕ → List ℕ → List ℕ → Type 0
  Noted d q a old new = new ≡ set old (i + d) (last_at R (i + d) q * pose_slots + a)

  noted-frame : (d q a : ℕ) {old new : List ℕ} → Noted d q a old new → Frame i (suc (i + d)) old new
  noted-frame d q a {old} e =
      subst (λ (l : List ℕ). Frame i (suc (i + d)) old l) (sym e) (frame-set (suc (i + d)) (i + d)
      (last_at R (i + d) q * pose_slots + a) (frame-refl i i old) (omega arith) (omega arith) (omega arith))

  noted-word : (d q a : ℕ) (old new : List ℕ) → Noted d q a old new → i + d < length old
      → word_at new (i + d) ≡ last_at R (i + d) q * pose_slots + a
  noted-word d q a old new e h =
      ap (λ (l : List ℕ). word_at l (i + d)) e ∙ get_or-set_same old (i + d) (last_at R (i + d) q * pose_slots + a) 0 h

  -- an entry of the first layer
  pub trace-none : (d q a : ℕ) {old new : List ℕ} → d ≡ 0 → Noted d q a old new → i + d < length old
      → SegmentTraceDone D R st i d q a old new
  trace-none d q a {old} {new} z e h =
      let y : i + d ≡ i = omega arith in
      record {
        frame = noted-frame d q a e;
        row_traced = λ f k. subst (λ c. SegmentTraced D R (NotedBy (word_at new)) f i c q a) (sym z)
            (subst (λ (j : ℕ). word_at new j ≡ last_at R j q * pose_slots + a) y (noted-word d q a old new e h));
      }

  -- an entry of a later layer, noted before the rest is traced
  pub trace-more : (d e q a p b : ℕ) {old mid new : List ℕ}
      → d ≡ suc e → Noted d q a old mid → i + d < length old → q < state_count R → a < D.poses
      → EntrySource D R st (i + e) q a p b
      → SegmentTraceDone D R st i e p b mid new → SegmentTraceDone D R st i d q a old new
  trace-more d e q a p b {old} {mid} {new} z y h u v s w =
      record {
        frame = frame-join i (suc (i + d)) (noted-frame d q a y) w.frame (omega arith) (omega arith)
            (omega arith) (omega arith);
        row_traced = λ f k. subst (λ c. SegmentTraced D R (NotedBy (word_at new)) f i c q a) (sym z)
            (noted, p, b, source f k, w.row_traced f (kept-fewer (i + e) (omega arith) k));
      }
    where
      c : i + d ≡ suc (i + e)
      c = omega arith

      noted : word_at new (suc (i + e)) ≡ last_at R (suc (i + e)) q * pose_slots + a
      noted = subst (λ (j : ℕ). word_at new j ≡ last_at R j q * pose_slots + a) c
          (w.frame.high (i + d) (omega arith) ∙ noted-word d q a old mid y h)

      source : (f : Layer) → KeptLayers D R f i (i + d) st → Source D R (NotedBy (word_at new)) f i e q a p b
      source f k =
          record {
            state = s.state;
            pose = s.pose;
            source = s.source;
            sum = sym (k.right (suc e) q a (omega arith) u v)
                ∙ ap (λ (j : ℕ). kept_in st j q a) (omega arith)
                ∙ s.sum
                ∙ ap (λ (j : ℕ). D.own (last_at R (suc (i + e)) q) a + (j + D.toll (last_at R (i + e) p) b
                (last_at R (suc (i + e)) q) a)) (k.right e p b (omega arith) s.state s.pose);
          }

-- ---- the row's end

module _ (D : Deck) (R : ℕ) (f : Layer) (i e : ℕ) where
  -- the cost is that of the last layer, or nothing was left to place
  pub end-room : i ≤ D.size → cost_end D R f i e ≡ ends D R (layers D R f i (D.size - i))
  unfolding cost_end
  end-room h = ap (λ t. cond t (ends D R (layers D R f i (D.size - i))) (cond (eqb i (suc D.size)) e B))
      (le-leb i D.size h)

  pub end_full : D.size < i → cost_end D R f i e < B → i ≡ suc D.size
  unfolding cost_end
  end_full h l =
      let x = ap (λ t. cond t (ends D R (layers D R f i (D.size - i))) (cond (eqb i (suc D.size)) e B))
      (lt-leb i D.size h) in
      go (eqb i (suc D.size)) refl (subst (λ (y : ℕ). y < B) x l)
    where
      go : (t : Bool) → eqb i (suc D.size) ≡ t → cond t e B < B → i ≡ suc D.size
      go true y z = eqb-true i (suc D.size) y
      go false y z = absurd (omega arith)

-- the last layer, as kept
last-kept : {D : Deck} {R : ℕ} (f : Layer) {i : ℕ} {st : List ℕ} → i ≤ D.size → KeptLayers D R f i D.size st
    → (q a : ℕ) → q < state_count R → a < D.poses
    → kept_in st D.size q a ≡ layers D R f i (D.size - i) q a
last-kept {D} f {i} {st} h k q a x y =
    ap (λ (j : ℕ). kept_in st j q a) (omega arith) ∙ k.right (D.size - i) q a (omega arith) x y

-- it has the end's cost
pub end_kept : {D : Deck} {R : ℕ} (f : Layer) {i : ℕ} (e : ℕ) {st : List ℕ} → i ≤ D.size
    → KeptLayers D R f i D.size st
    → cost_end D R f i e ≡ ends D R (kept_in st D.size)
end_kept {D} {R} f {i} e {st} h k =
    end-room D R f i e h
    ∙ ends_ext D R (layers D R f i (D.size - i)) (kept_in st D.size) (λ q b x y. sym (last-kept f h k q b x y))

pub end_none : (D : Deck) (R : ℕ) (st : List ℕ) (i : ℕ) (path : List ℕ) → D.size < i → EndDone D R st i path path
end_none D R st i path h =
    record { frame = frame-refl i (suc D.size) path; row_traced = λ f e k l. inl (end_full D R f i e h l) }

pub end-traced : {D : Deck} {R : ℕ} {st : List ℕ} {i d q b : ℕ} {old new : List ℕ} → i ≤ D.size → d ≡ D.size - i
    → LastFound D R (kept_in st D.size) q b → SegmentTraceDone D R st i d q b old new → EndDone D R st i old new
end-traced {D} {R} {st} {i} {d} {q} {b} {old} {new} h z l w =
    record {
      frame = frame-join i (suc D.size) (frame-refl i i old) w.frame (omega arith) (omega arith)
          (omega arith) (omega arith);
      row_traced = λ f e k c. inr (q, b, last f e k);
    }
  where
    last : (f : Layer) (e : ℕ) → KeptLayers D R f i D.size st → Last D R (NotedBy (word_at new)) f i e q b
    last f e k =
        record {
          room = h;
          state = l.state;
          pose = l.pose;
          there = l.there;
          single = l.single;
          segment_cost = end_kept f e h k ∙ sym l.word
              ∙ ap (λ (x : ℕ). x + D.back (last_at R D.size q) b) (last-kept f h k q b l.state l.pose);
          row_traced = subst (λ (j : ℕ). SegmentTraced D R (NotedBy (word_at new)) f i j q b) z
              (w.row_traced f (kept-fewer (i + d) (omega arith) k));
        }

-- the row cannot end
pub end-closed : {D : Deck} {R : ℕ} {st : List ℕ} {i : ℕ} (path : List ℕ) → i ≤ D.size
    → B ≤ ends D R (kept_in st D.size) → EndDone D R st i path path
end-closed {D} {i = i} path h b = record {
  frame = frame-refl i
      (suc D.size) path;
  row_traced = λ f e k l. absurd (omega (arith, end_kept f e h k));
}

-- the traceback from where the least is found
pub end-trace : {row st path : List ℕ} {z : Sizes} {i q b : ℕ} → i ≤ z.cells → End row st path z i
    → LastFound (deck_in row z) z.reordering (kept_in st z.cells) q b
    → kept_in st z.cells q b < B → SegmentTrace row st path z i (z.cells - i) q b
end-trace {st = st} {z = z} {i = i} {q = q} {b = b} h w l c =
    let e : z.cells ≡ i + (z.cells - i) = omega arith in
    record {
      back = w.back;
      room = w.room;
      some = w.some;
      last = omega (arith, w.back.grounded.size);
      state = l.state;
      pose = l.pose;
      first = w.first;
      kept = kept-fewer (i + (z.cells - i)) (omega arith) w.kept;
      cost = subst (λ (j : ℕ). kept_in st j q b < B) e c;
    }
