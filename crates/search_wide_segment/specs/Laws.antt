-- Laws of segments: the layers run on, what is kept, and costs as far as the layers have come.
use Prim.Native.Nat.{ℕ, suc, ◌+◌, ◌*◌, ◌-◌, ◌≤◌, ◌<◌}
use Rattle.std.specs.Prelude.{◌≡◌, refl, Bool, List, length, get_or, leb}
use Rattle.std.proofs.Common.{sym, subst, ◌∙◌, inl, inr, add-one, lt-ltb, le-ltb, le-leb, eq-eqb, ne_eqb}
use Rattle.std.proofs.Math.Path.{ap}
use Rattle.std.proofs.Math.Bool.{cond}
use native.Mathlib.Omega.{arith}
use Rattle.std.proofs.Math.Decide.{ℕ_discrete}
use Rattle.std.proofs.lemmas.Bool.{lt-leb}
use Rattle.search_store.specs.Map.{kept_from, layer_block, state_block, flags_from, max_lanes}
use Rattle.search_row.specs.declared.Sizes.{Sizes}
use Rattle.theory_tables.specs.Steps.{B, Deck, Layer, state_count, offset, layers, cost_to}
use Rattle.search_lanes.specs.Store.{Frame, layer_in, Filled}
use Rattle.search_lanes.specs.Laws.{said_same, said-below, said-above}
use Rattle.search_row.specs.Words.{deck_in}
use Rattle.search_wide_buckets.specs.Table.{TableLent}
use Rattle.search_wide_layer.specs.Loops.{next_from, WideGiven, Beside, LayerMade}
use Rattle.search_buckets.specs.Next.{next_ext, layers_ext}
use Rattle.search_wide_segment.specs.Runs.{Buffer, Running, SizesSmall, Outside, CostRoom, late_in}
use Rattle.search_wide_segment.specs.Runs.{delivered, last_in, CostedBy, CostedRun, SegmentCosted}

-- ---- the two blocks by turns

pub buffer-low : {at : ℕ} → Buffer at → at ≤ layer_block
buffer-low (inl e) = omega arith
buffer-low (inr e) = omega arith

pub buffer_turn : {at : ℕ} → Buffer at → Buffer (layer_block - at)
buffer_turn (inl e) = inr (omega arith)
buffer_turn (inr e) = inl (omega arith)

pub buffer-beside : {st : List ℕ} {at : ℕ} → Buffer at → kept_from ≤ length st → Beside st at (layer_block - at)
buffer-beside (inl e) h = record { room = omega arith; apart = λ k x y z w. omega arith }
buffer-beside (inr e) h = record { room = omega arith; apart = λ k x y z w. omega arith }

pub buffer-costs : {st : List ℕ} {at costs : ℕ} → Buffer at → CostRoom st costs → Beside st at costs
buffer-costs b h = record { room = h.room; apart = λ k x y z w. omega (arith, buffer-low b, h.over) }

-- ---- the layers run on

pub given-small :
    {row st : List ℕ} {z : Sizes} {lanes i at : ℕ}
    → WideGiven row st z lanes i at → SizesSmall (deck_in row z) z.reordering lanes
given-small g = record { narrow = g.narrow; few = g.grounded.few; states = g.grounded.coded.few }

pub run_none :
    (D : Deck) (R lanes i : ℕ) {old st : List ℕ}
    → SizesSmall D R lanes → ((k : ℕ) → k < layer_block → get_or st k 0 ≡ get_or old k 0) → Running D R lanes i 0 0 old st
unfolding layers
run_none D R lanes i {old} {st} s e =
    record {
      buffer = inl refl;
      right = λ q a l x y z. said_same old st (0 + q * state_block) a l
          (e (0 + q * state_block + flags_from + a) (omega (arith, s.few, s.states)))
          (e (0 + q * state_block + a * max_lanes + l) (omega (arith, s.narrow, s.few, s.states)));
    }

-- the layer after the one at `at`
next-run :
    {D : Deck} {R lanes i d at : ℕ} {old st : List ℕ}
    → Running D R lanes i d at old st → (q a l : ℕ) → l < lanes
    → next_from D R st at (i + d) l q a ≡ layers D R (layer_in old 0 l) i (suc d) q a
unfolding layers
next-run {D} {R} {i = i} {d} {at} {old} {st} r q a l z =
    next_ext D R (layer_in st at l) (layers D R (layer_in old 0 l) i d) (λ p b v w. r.right p b l v w z) (i + d) q a

pub run_more :
    {D : Deck} {R lanes i d at count : ℕ} {old mid new : List ℕ}
    → count ≡ state_count R → Running D R lanes i d at old mid
    → Filled (next_from D R mid at (i + d)) lanes D.poses (layer_block - at) count mid new
    → Running D R lanes i (d + 1) (layer_block - at) old new
run_more {D} {R} {i = i} {d} {old = old} c r f =
    record {
      buffer = buffer_turn r.buffer;
      right = λ q a l x y z. f.right q (omega arith) a l y z ∙ next-run r q a l z
          ∙ ap (λ (k : ℕ). layers D R (layer_in old 0 l) i k q a) (sym (add-one d));
    }

-- what is written above the layers keeps them
pub run-kept :
    {D : Deck} {R lanes i d at a b : ℕ} {old mid new : List ℕ}
    → SizesSmall D R lanes → Running D R lanes i d at old mid → Frame a b mid new → kept_from ≤ a
    → Running D R lanes i d at old new
run-kept {at = at} s r f h =
    record {
      buffer = r.buffer;
      right = λ q a l x y z.
          said-below f (at + q * state_block) a l (omega (arith, s.states, buffer-low r.buffer))
          (omega (arith, s.few)) (omega (arith, s.narrow))
          ∙ r.right q a l x y z;
    }

-- ---- what is kept

pub outside_refl : (costs wide : ℕ) (st : List ℕ) → Outside costs wide st st
outside_refl costs wide st = record { long = refl; below = λ k x y. refl; above = λ k x. refl }

pub outside-join : {costs wide : ℕ} {x y z : List ℕ} → Outside costs wide x y → Outside costs wide y z
    → Outside costs wide x z
outside-join f g =
    record {
      long = g.long ∙ f.long;
      below = λ k x y. g.below k x y ∙ f.below k x y;
      above = λ k x. g.above k x ∙ f.above k x;
    }

pub outside-layers : {costs wide a b : ℕ} {old new : List ℕ} → kept_from ≤ costs → Frame a b old new → b ≤ kept_from
    → Outside costs wide old new
outside-layers p f h =
    record { long = f.long; below = λ k x y. f.high k (omega arith); above = λ k x. f.high k (omega arith) }

pub outside-costs : {costs wide a b : ℕ} {old new : List ℕ} → Frame a b old new → costs ≤ a → b ≤ costs + wide
    → Outside costs wide old new
outside-costs f p q =
    record { long = f.long; below = λ k x y. f.low k (omega arith); above = λ k x. f.high k (omega arith) }

-- ---- the cost of a state by the layer that it comes with

module _ (D : Deck) (R : ℕ) (f : Layer) (i p : ℕ) where
  cost_to-past : (q a : ℕ) → p + suc R < i + offset R q → cost_to D R f i p q a ≡ B
  unfolding cost_to
  cost_to-past q a h = rw (lt-leb (i + offset R q) (p + suc R) h)

  cost_to-at : (q a d : ℕ) → i + d + offset R q ≡ p + suc R → cost_to D R f i p q a ≡ layers D R f i d q a
  unfolding cost_to
  cost_to-at q a d e =
      let z : p + suc R - offset R q - i ≡ d = omega arith in
      rw (le-leb (i + offset R q) (p + suc R) (omega arith)) (ap (λ (k : ℕ). layers D R f i k q a) z)

-- ---- states that come with no layer

module _ (R i p : ℕ) (st : List ℕ) (costs l q a : ℕ) where
  pub late-skip : i + offset R q ≤ p + suc R → late_in R i p st costs l q a ≡ layer_in st costs l q a
  late-skip h = ap (λ (t : Bool). cond t B (layer_in st costs l q a)) (le-ltb (p + suc R) (i + offset R q) h)

  pub late-take : p + suc R < i + offset R q → late_in R i p st costs l q a ≡ B
  late-take h = ap (λ (t : Bool). cond t B (layer_in st costs l q a)) (lt-ltb (p + suc R) (i + offset R q) h)

-- ---- delivering

module _ (R i p : ℕ) (st : List ℕ) (at costs l q a : ℕ) where
  pub delivered-skip : (i + offset R q ≡ p + suc R → ⊥) → delivered R i p st at costs l q a ≡ layer_in st costs l q a
  delivered-skip n = ap (λ (t : Bool). cond t (layer_in st at l q a) (layer_in st costs l q a)) (ne_eqb _ _ n)

  pub delivered-take : i + offset R q ≡ p + suc R → delivered R i p st at costs l q a ≡ layer_in st at l q a
  delivered-take e = ap (λ (t : Bool). cond t (layer_in st at l q a) (layer_in st costs l q a)) (eq-eqb _ _ e)

-- one layer more is delivered
pub costed-more :
    {D : Deck} {R lanes i p d at costs count : ℕ} {old mid new : List ℕ}
    → count ≡ state_count R → Running D R lanes i d at old mid → CostedBy D R lanes i p d costs old mid
    → Filled (delivered R (i + d) p mid at costs) lanes D.poses costs count mid new
    → CostedBy D R lanes i p (d + 1) costs old new
costed-more {D} {R} {lanes} {i} {p} {d} {at = at} {costs = costs} {old = old} {mid = mid} {new = new} c r b f =
    record {
      right = λ q a l x y z h. f.right q (omega arith) a l y z
          ∙ go q a l x y z h (ℕ_discrete (i + d + offset R q) (p + suc R));
    }
  where
    go : (q a l : ℕ) → q < state_count R → a < D.poses → l < lanes → p + suc R < i + (d + 1) + offset R q
        → Dec (i + d + offset R q ≡ p + suc R)
        → delivered R (i + d) p mid at costs l q a ≡ cost_to D R (layer_in old 0 l) i p q a
    go q a l x y z h (yes e) =
        delivered-take R (i + d) p mid at costs l q a e ∙ r.right q a l x y z
        ∙ sym (cost_to-at D R (layer_in old 0 l) i p q a d e)
    go q a l x y z h (no n) = delivered-skip R (i + d) p mid at costs l q a n ∙ b.right q a l x y z (omega arith)

-- one step more of the segment: a layer, and what it delivers
pub costed-step :
    {D : Deck} {R lanes i p d at costs count : ℕ} {old mid step new table table' : List ℕ}
    → SizesSmall D R lanes → count ≡ state_count R → kept_from ≤ costs → CostedRun D R lanes i p d at costs old mid table
    → LayerMade (next_from D R mid at (i + d)) lanes D.poses (layer_block - at) count mid step table'
    → Filled (delivered R (i + (d + 1)) p step (layer_block - at) costs) lanes D.poses costs count step new
    → CostedRun D R lanes i p (d + 1) (layer_block - at) costs old new table'
costed-step {D} {R} {lanes} {i} {p} {d} {at} {costs} s c h r m g =
    let f = m.filled in
    let run = run_more c r.running f in
    let b = buffer-low r.running.buffer in
    record {
      running = run-kept s run g.frame h;
      costed = costed-more c run
          (record {
            right = λ q a l x y z k. said-above f.frame (costs + q * state_block) a l (omega arith)
                ∙ r.costed.right q a l x y z k;
          })
          g;
      outside = outside-join r.outside (outside-join (outside-layers h f.frame (omega arith))
          (outside-costs g.frame (omega arith) (omega arith)));
      low = g.low;
      lent = m.lent;
    }

-- the segment begins: the costs of the states that come with no layer are B, and the first layer is delivered
pub costed-start :
    (D : Deck) (R lanes i p costs count : ℕ) {old mid new table : List ℕ}
    → SizesSmall D R lanes → count ≡ state_count R → kept_from ≤ costs → TableLent table
    → Filled (late_in R i p old costs) lanes D.poses costs count old mid
    → Filled (delivered R i p mid 0 costs) lanes D.poses costs count mid new
    → CostedRun D R lanes i p 0 0 costs new new table
costed-start D R lanes i p costs count {old} {mid} {new} s c h t late g =
    let first = run_none D R lanes i {old = new} {st = mid} s (λ k v. sym (g.frame.low k (omega arith))) in
    let e : i ≡ i + 0 = omega arith in
    record {
      running = run_none D R lanes i s (λ k v. refl);
      costed = costed-more c first
          (record {
            right = λ q a l x y z k.
                late.right q (omega arith) a l y z
                ∙ late-take R i p old costs l q a (omega arith)
                ∙ sym (cost_to-past D R (layer_in new 0 l) i p q a (omega arith));
          })
          (subst (λ (j : ℕ). Filled (delivered R j p mid 0 costs) lanes D.poses costs count mid new) e g);
      outside = outside_refl costs layer_block new;
      low = g.low;
      lent = t;
    }

-- ---- only the entries of the first layer count

module _ (D : Deck) (R : ℕ) (f g : Layer) (same : (q b : ℕ) → q < state_count R → b < D.poses → f q b ≡ g q b) where
  pub cost_to_ext : (i p q a : ℕ) → q < state_count R → a < D.poses → cost_to D R f i p q a ≡ cost_to D R g i p q a
  unfolding cost_to
  cost_to_ext i p q a x y = ap (λ (z : ℕ). cond (leb (i + offset R q) (p + suc R)) z B)
      (layers_ext D R f g same i (p + suc R - offset R q - i) q a x y)

-- what came before a segment left its first layer as it was
pub costed-from :
    {D : Deck} {R lanes i p d at costs : ℕ} {old mid new table : List ℕ}
    → SizesSmall D R lanes → ((k : ℕ) → k < layer_block → get_or mid k 0 ≡ get_or old k 0) → Outside costs layer_block old mid
    → CostedRun D R lanes i p d at costs mid new table → CostedRun D R lanes i p d at costs old new table
costed-from {D} {R} {lanes} {i} {p} {d} {old = old} {mid = mid} s e o r =
    record {
      running = record {
        buffer = r.running.buffer;
        right = λ q a l x y z. r.running.right q a l x y z
            ∙ layers_ext D R (layer_in mid 0 l) (layer_in old 0 l) (same l z) i d q a x y;
      };
      costed = record {
        right = λ q a l x y z h. r.costed.right q a l x y z h
            ∙ cost_to_ext D R (layer_in mid 0 l) (layer_in old 0 l) (same l z) i p q a x y;
      };
      outside = outside-join o r.outside;
      low = r.low;
      lent = r.lent;
    }
  where
    same : (l : ℕ) → l < lanes → (q b : ℕ) → q < state_count R → b < D.poses → layer_in mid 0 l q b ≡ layer_in old 0 l q b
    same l z q b x y =
        said_same old mid (0 + q * state_block) b l
        (e (0 + q * state_block + flags_from + b) (omega (arith, s.few, s.states)))
        (e (0 + q * state_block + b * max_lanes + l) (omega (arith, s.narrow, s.few, s.states)))

-- ---- the last layer

module _ (D : Deck) (R i p : ℕ) (st : List ℕ) (at costs l q a : ℕ) where
  pub last-skip : (suc i + offset R q ≡ p + suc R → ⊥) → last_in D R i p st at costs l q a ≡ layer_in st costs l q a
  last-skip n = ap (λ (t : Bool). cond t (next_from D R st at i l q a) (layer_in st costs l q a)) (ne_eqb _ _ n)

  pub last-take : suc i + offset R q ≡ p + suc R → last_in D R i p st at costs l q a ≡ next_from D R st at i l q a
  last-take e = ap (λ (t : Bool). cond t (next_from D R st at i l q a) (layer_in st costs l q a)) (eq-eqb _ _ e)

-- the layers have come past the tall cell: nothing is left to deliver
pub costed-past :
    {D : Deck} {R lanes i p d at costs : ℕ} {old new table : List ℕ}
    → CostedRun D R lanes i p d at costs old new table → p + R < i + d → SegmentCosted D R lanes i p costs old new table
costed-past r h =
    record {
      outside = r.outside;
      low = r.low;
      lent = r.lent;
      right = λ q a l x y z. r.costed.right q a l x y z (omega arith);
    }

-- one layer is left, and is delivered from the layer before
pub costed-last :
    {D : Deck} {R lanes i p d at costs count : ℕ} {old mid new table table' : List ℕ}
    → count ≡ state_count R → CostedRun D R lanes i p d at costs old mid table → p + R ≡ i + d
    → LayerMade (last_in D R (p + R) p mid at costs) lanes D.poses costs count mid new table'
    → SegmentCosted D R lanes i p costs old new table'
costed-last {D} {R} {lanes} {i} {p} {d} {at} {costs} {old = old} {mid = mid} c r h m =
    let f = m.filled in
    record {
      outside = outside-join r.outside (outside-costs f.frame (omega arith) (omega arith));
      low = f.low;
      lent = m.lent;
      right = λ q a l x y z. f.right q (omega arith) a l y z
          ∙ go q a l x y z (ℕ_discrete (suc (p + R) + offset R q) (p + suc R));
    }
  where
    go : (q a l : ℕ) → q < state_count R → a < D.poses → l < lanes → Dec (suc (p + R) + offset R q ≡ p + suc R)
        → last_in D R (p + R) p mid at costs l q a ≡ cost_to D R (layer_in old 0 l) i p q a
    go q a l x y z (yes e) =
        last-take D R (p + R) p mid at costs l q a e
        ∙ ap (λ (j : ℕ). next_from D R mid at j l q a) h
        ∙ next-run r.running q a l z
        ∙ sym (cost_to-at D R (layer_in old 0 l) i p q a (suc d) (omega arith))
    go q a l x y z (no n) = last-skip D R (p + R) p mid at costs l q a n ∙ r.costed.right q a l x y z (omega arith)
