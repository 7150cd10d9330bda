-- Laws of what is found in the buckets, and of dense layers, one state more at a time.
use Rattle.std.specs.Prelude.{ℕ, zero, suc, ◌+◌, ◌*◌, ◌-◌, ◌/◌, ◌%◌, ◌≤◌, ◌<◌, min, ◌≡◌, refl, ◌≢◌, Bool, true, false, cond, List, length, get_or, set, eqb}
use Rattle.std.proofs.Common.{sym, ap, ap₂, ◌∙◌, arith, below_more, length-set, get_or-set_same, get_or-set_other}
use Rattle.std.proofs.lemmas.List.{length-replicate, get_or-replicate}
use Rattle.lists.specs.Compare.{Eq?, same, differs, eq?}
use Rattle.lists.specs.Numbers.{from}
use Rattle.theory_pair.specs.Coded.{lowest, lowest-from}
use Rattle.theory_tables.specs.Steps.{B, Deck, state_count, next_layer, pose_slots}
use Rattle.search_store.specs.Map.{bucket_rows, kept_layer, max_poses}
use Rattle.search_lanes.specs.Store.{Low, Written}
use Rattle.search_lanes.specs.Laws.{frame-refl, frame-join, low-set, nones_low}
use Rattle.search_buckets.specs.Gaps.{paying}
use Rattle.search_buckets.specs.Loops.{lowest_ext}
use Rattle.search_buckets.specs.Rows.{found}
use Rattle.search_buckets.specs.Next.{next_ext}
use Rattle.search_dense_layer.specs.Laws.{apart_yes, lent-on}
use Rattle.search_dense_layer.specs.declared.Buckets.{Buckets}
use Rattle.search_dense_layer.specs.Thin.{variant_words, empty_buckets, thin_in, ThinArrays, ThinGathered}
use Rattle.search_dense_layer.specs.Thin.{FarRunUp, RunUp, shared, found_by, Put, Stepped}

-- ---- what is found

-- before anything ran up
pub run_none : {far : List ℕ} → Low far → FarRunUp 1 far far
unfolding lowest from
run_none {far} w = record { long = refl; low = w; far = λ t h. go t h; rest = λ t h. refl }
  where
    go : (t : ℕ) → t < 1 → get_or far t 0 ≡ lowest B (λ s. get_or far s 0) (from 0 (suc t))
    go zero h = omega (arith, w.word 0)
    go (suc t) h = absurd (omega arith)

-- one row more
pub run_more :
    {old new : List ℕ} (t z : ℕ)
    → FarRunUp (t + 1) old new → t + 1 < length old → z ≡ min (get_or new (t + 1) 0) (get_or new t 0)
    → FarRunUp (t + 1 + 1) old (set new (t + 1) z)
run_more {old} {new} t z w h e =
    let n = w.long in
    record {
      long = length-set new (t + 1) z ∙ w.long;
      low = low-set (t + 1) z w.low (omega arith) (omega (arith, e, w.low.word t));
      far = below_more (λ (s : ℕ). get_or (set new (t + 1) z) s 0 ≡ lowest B at (from 0 (suc s))) (t + 1)
          (λ s g. get_or-set_other new (t + 1) s z 0 (omega arith) ∙ w.far s g)
          (get_or-set_same new (t + 1) z 0 (omega arith) ∙ last);
      rest = λ s g. get_or-set_other new (t + 1) s z 0 (omega arith) ∙ w.rest s (omega arith);
    }
  where
    at : ℕ → ℕ
    at s = get_or old s 0

    last : z ≡ lowest B at (from 0 (suc (t + 1)))
    last =
        let y : at (0 + (t + 1)) ≡ at (t + 1) = ap at (omega arith) in
        let d : lowest B at (from 0 (suc t)) ≡ lowest B at (from 0 (t + 1)) =
        ap (λ (k : ℕ). lowest B at (from 0 k)) (omega arith) in
        omega (arith, e, y, d, w.far t (omega arith), w.rest (t + 1) (omega arith), lowest-from B at 0 (t + 1))

paying-min : (h : ℕ → ℕ) → h 3 ≤ B → lowest B h paying ≡ min (h 0) (min (h 2) (h 3))
unfolding lowest
paying-min h l = omega arith

-- the words that a pose looks up, where the arrays have the buckets
pub found-words :
    (bucket : ℕ → ℕ → ℕ) (b : Buckets) (a : ℕ)
    → ((v t : ℕ) → bucket v t ≤ B)
    → ((v t : ℕ) → v < 4 → t < bucket_rows → get_or b.near (t * 4 + v) 0 ≡ bucket (1 + v) t)
    → ((v t : ℕ) → v < 4 → t < bucket_rows → get_or b.apart (t * 4 + v) 0 ≡ bucket (5 + v) t)
    → ((t : ℕ) → t < 15 → get_or b.far t 0 ≡ lowest B (bucket 0) (from 0 (suc t)))
    → a < max_poses → found_by b (a / 4) (a % 4) ≡ found bucket a
unfolding found
found-words bucket b a low n p f h =
    let e : ℕ = a / 4 in
    let v : ℕ = a % 4 in
    let x0 : bucket (1 + v) (e + 4) ≡ bucket (1 + v) (e + 4 - 0) = ap (bucket (1 + v)) (omega arith) in
    let x2 : bucket (5 + v) (e + 2) ≡ bucket (5 + v) (e + 4 - 2) = ap (bucket (5 + v)) (omega arith) in
    let x3 : bucket (5 + v) (e + 1) ≡ bucket (5 + v) (e + 4 - 3) = ap (bucket (5 + v)) (omega arith) in
    ap₂ min
    (ap₂ min (n v (e + 4) (omega arith) (omega arith) ∙ x0)
    (ap₂ min (p v (e + 2) (omega arith) (omega arith) ∙ x2) (p v (e + 1) (omega arith) (omega arith) ∙ x3))
    ∙ sym (paying-min (λ gap. bucket (cond (eqb gap 0) (1 + a % 4) (5 + a % 4)) (a / 4 + 4 - gap))
    (low (5 + a % 4) (a / 4 + 4 - 3))))
    (f (a / 4) (omega arith))

-- arrays in which nothing is gathered yet
pub lent_none : ThinArrays empty_buckets
lent_none =
    record {
      near_long = length-replicate {A = ℕ} variant_words B;
      apart_long = length-replicate {A = ℕ} variant_words B;
      far_long = length-replicate {A = ℕ} bucket_rows B;
      near_low = nones_low variant_words;
      apart_low = nones_low variant_words;
      far_low = nones_low bucket_rows;
    }

lent_shared : {b : Buckets} (needed : ℕ) → ThinArrays b → ThinArrays (shared needed b)
lent_shared {b} needed l = go (eqb needed 9)
  where
    go : (z : Bool) → ThinArrays (record b { apart = cond z b.apart b.near })
    go true = l
    go false =
        record {
          near_long = l.near_long;
          apart_long = l.near_long;
          far_long = l.far_long;
          near_low = l.near_low;
          apart_low = l.near_low;
          far_low = l.far_low;
        }

-- what is gathered from there, once the far rows ran up, is what is found: all
-- buckets are needed, or four serve for eight
module _
    {bucket : ℕ → ℕ → ℕ} {needed : ℕ} {none full up : Buckets} (e : none ≡ empty_buckets)
    (g : ThinGathered bucket needed none full) (r : RunUp full up)
  where
    pub lent_found : {look : Buckets} (n : ℕ) → look ≡ shared n up → ThinArrays look
    lent_found n s =
        let l : ThinArrays full = lent-on (rw e lent_none) g in
        rw s
        (lent_shared n
        record {
          near_long = ap length r.near ∙ l.near_long;
          apart_long = ap length r.apart ∙ l.apart_long;
          far_long = r.far.long ∙ l.far_long;
          near_low = rw r.near l.near_low;
          apart_low = rw r.apart l.apart_low;
          far_low = r.far.low;
        })

    module _ (low : (v t : ℕ) → bucket v t ≤ B) where
      near-words : (v t : ℕ) → v < 4 → t < bucket_rows → get_or up.near (t * 4 + v) 0 ≡ bucket (1 + v) t
      near-words v t h i =
          let j : ℕ = t * 4 + v in
          let y : bucket (1 + j % 4) (j / 4) ≡ bucket (1 + v) t =
          ap₂ (λ (x y : ℕ). bucket (1 + x) y) (omega arith) (omega arith) in
          omega (
            arith,
            ap (λ (b : List ℕ). get_or b j 0) r.near,
            g.near_to.done j (omega arith),
            ap (λ (b : Buckets). get_or b.near j 0) e,
            get_or-replicate variant_words j B 0 (omega arith),
            y,
            low (1 + v) t,
          )

      apart_words : needed ≡ 9 → (v t : ℕ) → v < 4 → t < bucket_rows → get_or up.apart (t * 4 + v) 0 ≡ bucket (5 + v) t
      apart_words n v t h i =
          let j : ℕ = t * 4 + v in
          let y : bucket (5 + j % 4) (j / 4) ≡ bucket (5 + v) t =
          ap₂ (λ (x y : ℕ). bucket (5 + x) y) (omega arith) (omega arith) in
          omega (
            arith,
            ap (λ (b : List ℕ). get_or b j 0) r.apart,
            g.apart_to.done j (omega arith),
            ap (λ (b : Buckets). get_or b.apart j 0) e,
            get_or-replicate variant_words j B 0 (omega arith),
            apart_yes (eqb needed 9) (bucket (5 + j % 4) (j / 4)) (eq? needed 9) n,
            y,
            low (5 + v) t,
          )

      far-words : (t : ℕ) → t < 15 → get_or up.far t 0 ≡ lowest B (bucket 0) (from 0 (suc t))
      far-words t h =
          r.far.far t h
          ∙ lowest_ext (λ s. get_or full.far s 0) (bucket 0) 0 (suc t)
          (λ s i. omega (
            arith,
            g.far_to.done s (omega arith),
            ap (λ (b : Buckets). get_or b.far s 0) e,
            get_or-replicate bucket_rows s B 0 (omega arith),
            low 0 s,
          ))

      pub found-there :
          {look : Buckets} {n : ℕ}
          → look ≡ shared n up → n ≡ needed → (needed ≢ 9 → (v t : ℕ) → v < 4 → bucket (5 + v) t ≡ bucket (1 + v) t)
          → (a : ℕ) → a < max_poses → found_by look (a / 4) (a % 4) ≡ found bucket a
      found-there s d f a h =
          ap (λ (b : Buckets). found_by b (a / 4) (a % 4)) (s ∙ ap (λ (k : ℕ). shared k up) d)
          ∙ go (eqb needed 9) (eq? needed 9)
        where
          go : (z : Bool) → Eq? needed 9 z
              → found_by (record up { apart = cond z up.apart up.near }) (a / 4) (a % 4) ≡ found bucket a
          go true (same n) = found-words bucket up a low near-words (apart_words n) far-words h
          go false (differs n) = found-words bucket (record up { apart = up.near }) a low near-words
              (λ v t i j. near-words v t i j ∙ sym (f n v t i)) far-words h

-- ---- a layer from the layer before

-- a state's words
pub put-words :
    {f : ℕ → ℕ} (D : Deck) (R i from q : ℕ) {n : ℕ} {old new : List ℕ}
    → Written f (from + kept_layer + q * pose_slots) n old new → D.poses ≤ n → n ≤ pose_slots
    → ((a : ℕ) → a < D.poses → next_layer D R (thin_in old from) i q a ≡ f a)
    → Put D R i from q old new
put-words D R i from q {old = old} w h k e =
    record {
      frame = frame-join (from + kept_layer + q * pose_slots) (from + kept_layer + q * pose_slots + pose_slots)
          (frame-refl (from + kept_layer + q * pose_slots) (from + kept_layer + q * pose_slots) old) w.frame
          (omega arith) (omega arith) (omega arith) (omega arith);
      low = w.low;
      right = λ a l. w.words a (omega arith) ∙ sym (e a l);
    }

-- one state more: the layer before is as it was
pub stepped_more :
    {D : Deck} {R i from : ℕ} {old mid new : List ℕ} (q : ℕ)
    → Stepped D R q i from old mid → Put D R i from q mid new → q < 12 → state_count R ≤ 12 → D.poses ≤ max_poses
    → Stepped D R (q + 1) i from old new
stepped_more {D} {R} {i} {from} {old} {mid} {new} q s w h c p =
    record {
      frame = frame-join (from + kept_layer) (from + 2 * kept_layer) s.frame w.frame (omega arith) (omega arith)
          (omega arith) (omega arith);
      low = w.low;
      right = λ r a l k.
          below_more (λ (r : ℕ). (a : ℕ) → a < D.poses
          → thin_in new (from + kept_layer) r a ≡ next_layer D R (thin_in old from) i r a) q
          (λ r l a k. w.frame.low (from + kept_layer + r * pose_slots + a) (omega arith) ∙ s.right r a l k)
          (λ a k. w.right a k ∙ next_ext D R (thin_in mid from) (thin_in old from)
          (λ r b x y. s.frame.low (from + r * pose_slots + b) (omega arith)) i q a)
          r l a k;
    }
