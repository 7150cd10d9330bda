-- Laws of stores and of lanes: what one write keeps, what a loop that writes one word after the other has written.
use Rattle.std.specs.Prelude.{ℕ, zero, suc, ◌+◌, ◌*◌, ◌-◌, ◌≤◌, ◌<◌, min, ◌≡◌, refl, Bool, cond, List, length, get_or, set, replicate}
use Rattle.std.proofs.Common.{sym, ap, ap₂, ◌∙◌, ⊎_elim, inl, inr, arith, below_more, ne_eqb, length-set, get_or-set_same, get_or-set_other}
use Rattle.std.proofs.Math.Decide.{ℕ_discrete, dec_lt}
use Rattle.std.proofs.lemmas.List.{length-replicate, get_or-replicate}
use Rattle.std.proofs.Math.ListN.{get_or-eq_default}
use Rattle.search_store.specs.Map.{layer_block, state_block, flags_from, max_lanes, max_poses}
use Rattle.theory_tables.specs.Steps.{B, Layer}
use Rattle.search_lanes.specs.Lanes.{Lowered, always}
use Rattle.search_lanes.specs.Store.{Frame, Low, Written, WrittenRows, said, said_in, RowSaid, RowsSaid}
use Rattle.search_lanes.specs.Store.{layer_in, FilledState, Filled}

-- ---- lanes

pub lowered_none : (f : ℕ → ℕ) (l : List ℕ) → Lowered f 0 l l
lowered_none f l = record { long = refl; done = λ k h. absurd (omega arith); rest = λ k h. refl }

-- one lane more
pub lowered_more :
    {f : ℕ → ℕ} {old new : List ℕ} (l v : ℕ)
    → Lowered f l old new → l < length old → v ≡ min (get_or old l 0) (f l)
    → Lowered f (l + 1) old (set new l v)
lowered_more {f} {old} {new} l v w h e =
    let n = w.long in
    record {
      long = length-set new l v ∙ w.long;
      done = below_more (λ (k : ℕ). get_or (set new l v) k 0 ≡ min (get_or old k 0) (f k)) l
          (λ k g. get_or-set_other new l k v 0 (omega arith) ∙ w.done k g)
          (get_or-set_same new l v 0 (omega arith) ∙ e);
      rest = λ k g. get_or-set_other new l k v 0 (omega arith) ∙ w.rest k (omega arith);
    }

-- all lanes are at most B already
pub lowered_to : {f : ℕ → ℕ} (n : ℕ) {acc : List ℕ} → Low acc → ((k : ℕ) → k < n → B ≤ f k) → Lowered f n acc acc
lowered_to n w h = record { long = refl; done = λ k p. omega (arith, w.word k, h k p); rest = λ k p. refl }

-- lowered to the same, by another name
pub lowered_ext : {f g : ℕ → ℕ} {n : ℕ} {old new : List ℕ} → Lowered f n old new → ((k : ℕ) → k < n → g k ≡ f k)
    → Lowered g n old new
lowered_ext w e = record { long = w.long; done = λ k p. omega (arith, w.done k p, e k p); rest = w.rest }

-- lowered twice
pub lowered_join :
    {f g h : ℕ → ℕ} {n : ℕ} {old mid new : List ℕ}
    → Lowered f n old mid → Lowered g n mid new → ((k : ℕ) → k < n → h k ≡ min (f k) (g k))
    → Lowered h n old new
lowered_join v w e =
    record {
      long = w.long ∙ v.long;
      done = λ k p. omega (arith, w.done k p, v.done k p, e k p);
      rest = λ k p. w.rest k p ∙ v.rest k p;
    }

-- what is lowered stays at most B
pub lowered_low : {f : ℕ → ℕ} {n : ℕ} {old new : List ℕ} → Lowered f n old new → Low old → Low new
lowered_low {n = n} {new = new} v w = record { word = λ k. go k (dec_lt k n) }
  where
    go : (k : ℕ) → Dec (k < n) → get_or new k 0 ≤ B
    go k (yes p) = omega (arith, v.done k p, w.word k)
    go k (no p) = omega (arith, v.rest k (omega arith), w.word k)

-- ---- frames

pub frame-refl : (a b : ℕ) (l : List ℕ) → Frame a b l l
frame-refl a b l = record { long = refl; low = λ k h. refl; high = λ k h. refl }

-- one word more is set
pub frame-set : {a b : ℕ} {old new : List ℕ} (d k v : ℕ) → Frame a b old new → a ≤ k → k < d → b ≤ d
    → Frame a d old (set new k v)
frame-set {new = new} d k v f p q r =
    record {
      long = length-set new k v ∙ f.long;
      low = λ j h. get_or-set_other new k j v 0 (omega arith) ∙ f.low j h;
      high = λ j h. get_or-set_other new k j v 0 (omega arith) ∙ f.high j (omega arith);
    }

-- one part after the other
pub frame-join :
    {a b c d : ℕ} {x y z : List ℕ} (l h : ℕ)
    → Frame a b x y → Frame c d y z → l ≤ a → l ≤ c → b ≤ h → d ≤ h
    → Frame l h x z
frame-join l h f g p q r s =
    record {
      long = g.long ∙ f.long;
      low = λ j w. g.low j (omega arith) ∙ f.low j (omega arith);
      high = λ j w. g.high j (omega arith) ∙ f.high j (omega arith);
    }

-- ---- words that are at most B

pub low-set : {st : List ℕ} (k v : ℕ) → Low st → k < length st → v ≤ B → Low (set st k v)
low-set {st} k v w h b = record { word = λ j. go j (ℕ_discrete j k) }
  where
    go : (j : ℕ) → Dec (j ≡ k) → get_or (set st k v) j 0 ≤ B
    go j (yes e) = rw e (omega (arith, get_or-set_same st k v 0 h))
    go j (no d) = omega (arith, get_or-set_other st k j v 0 d, w.word j)

-- ---- words written one after the other

pub written_none : (f : ℕ → ℕ) (at : ℕ) {st : List ℕ} → Low st → Written f at 0 st st
written_none f at {st} w = record { frame = frame-refl at (at + 0) st; words = λ k h. absurd (omega arith); low = w }

pub written-more :
    {f : ℕ → ℕ} {at : ℕ} {old new : List ℕ} (l v : ℕ)
    → Written f at l old new → at + l < length old → v ≡ f l → v ≤ B
    → Written f at (l + 1) old (set new (at + l) v)
written-more {f} {at} {old} {new} l v w h e b =
    let n = w.frame.long in
    record {
      frame = frame-set (at + (l + 1)) (at + l) v w.frame (omega arith) (omega arith) (omega arith);
      words = below_more (λ (k : ℕ). get_or (set new (at + l) v) (at + k) 0 ≡ f k) l
          (λ k g. get_or-set_other new (at + l) (at + k) v 0 (omega arith) ∙ w.words k g)
          (get_or-set_same new (at + l) v 0 (omega arith) ∙ e);
      low = low-set (at + l) v w.low (omega arith) b;
    }

-- one word
pub written_one : (f : ℕ → ℕ) (at v : ℕ) {st : List ℕ} → Low st → at < length st → v ≡ f 0 → v ≤ B
    → Written f at 1 st (set st at v)
written_one f at v w h e b =
    let z : at + 0 ≡ at = omega arith in
    rw z at (written-more 0 v (written_none f at w) (omega arith) e b)

-- the same by another name
pub written_ext : {f g : ℕ → ℕ} {at n : ℕ} {old new : List ℕ} → Written f at n old new → ((k : ℕ) → k < n → g k ≡ f k)
    → Written g at n old new
written_ext w e = record { frame = w.frame; words = λ k p. w.words k p ∙ sym (e k p); low = w.low }

-- ---- rows written one after the other

pub rows_none : (f : ℕ → ℕ → ℕ) (at lanes : ℕ) {st : List ℕ} → Low st → WrittenRows f at 0 lanes st st
rows_none f at lanes {st} w =
    record { frame = frame-refl at (at + 0 * max_lanes) st; words = λ a l h. absurd (omega arith); low = w }

pub rows_more :
    {f : ℕ → ℕ → ℕ} {g : ℕ → ℕ} {at lanes : ℕ} {old mid new : List ℕ} (a : ℕ)
    → lanes ≤ max_lanes → WrittenRows f at a lanes old mid → Written g (at + a * max_lanes) lanes mid new
    → ((l : ℕ) → l < lanes → f a l ≡ g l)
    → WrittenRows f at (a + 1) lanes old new
rows_more {f} {g} {at} {lanes} {new = new} a n s w e =
    record {
      frame = frame-join at (at + (a + 1) * max_lanes) s.frame w.frame (omega arith) (omega arith)
          (omega arith) (omega arith);
      words = λ b l p r. below_more (λ (b : ℕ). (l : ℕ) → l < lanes → get_or new (at + b * max_lanes + l) 0 ≡ f b l) a
          (λ b p l r. w.frame.low (at + b * max_lanes + l) (omega arith) ∙ s.words b l p r)
          (λ l r. w.words l r ∙ sym (e l r))
          b p l r;
      low = w.low;
    }

-- ---- rows with flags

pub said-none : (flag word : ℕ) → flag ≡ 0 → said flag word ≡ B
unfolding said
said-none flag word e = rw e refl

pub said-word : (flag word : ℕ) → (flag ≡ 0 → ⊥) → said flag word ≡ word
unfolding said
said-word flag word d = ap (λ (t : Bool). cond t B word) (ne_eqb flag 0 d)

pub said-low : {st : List ℕ} → Low st → (flag k : ℕ) → said flag (get_or st k 0) ≤ B
said-low {st} w zero k = omega (arith, said-none 0 (get_or st k 0) refl)
said-low {st} w (suc n) k = omega (arith, said-word (suc n) (get_or st k 0) (λ z. omega arith), w.word k)

-- what a row says depends on its flag and its words alone
pub said_same : (old new : List ℕ) (at a l : ℕ) → get_or new (at + flags_from + a) 0 ≡ get_or old (at + flags_from + a) 0
    → get_or new (at + a * max_lanes + l) 0 ≡ get_or old (at + a * max_lanes + l) 0 → said_in new at a l ≡ said_in old at a l
said_same old new at a l e d = ap₂ said e d

-- the same outside a part that changed
pub said-below : {a b : ℕ} {old new : List ℕ} → Frame a b old new → (at p l : ℕ) → at + state_block ≤ a → p < max_poses
    → l < max_lanes → said_in new at p l ≡ said_in old at p l
said-below {old = old} {new = new} f at p l h x y =
    said_same old new at p l (f.low (at + flags_from + p) (omega arith)) (f.low (at + p * max_lanes + l) (omega arith))

pub said-above : {a b : ℕ} {old new : List ℕ} → Frame a b old new → (at p l : ℕ) → b ≤ at
    → said_in new at p l ≡ said_in old at p l
said-above {old = old} {new = new} f at p l h =
    said_same old new at p l (f.high (at + flags_from + p) (omega arith))
    (f.high (at + p * max_lanes + l) (omega arith))

-- a row's words are written, then its flag, which is 0 only if they are all B
pub row_flagged :
    {f g : ℕ → ℕ} {at lanes : ℕ} {old mid : List ℕ} (a v : ℕ)
    → lanes ≤ max_lanes → a < max_poses → at + state_block ≤ length old → Written g (at + a * max_lanes) lanes old mid
    → v ≤ B → (v ≡ 0 → (l : ℕ) → l < lanes → f l ≡ B) → ((l : ℕ) → l < lanes → f l ≡ g l)
    → RowSaid f at a lanes old (set mid (at + flags_from + a) v)
row_flagged {f} {g} {at} {lanes} {old} {mid} a v n h room w b z e =
    record {
      long = length-set mid (at + flags_from + a) v ∙ w.frame.long;
      kept = λ k p d. get_or-set_other mid (at + flags_from + a) k v 0 d
          ∙ ⊎_elim (λ q. w.frame.low k q) (λ q. w.frame.high k (omega arith)) p;
      words = λ l p. says l p (ℕ_discrete v 0);
      low = low-set (at + flags_from + a) v w.low (omega (arith, w.frame.long)) b;
    }
  where
    flag : get_or (set mid (at + flags_from + a) v) (at + flags_from + a) 0 ≡ v
    flag = get_or-set_same mid (at + flags_from + a) v 0 (omega (arith, w.frame.long))

    says : (l : ℕ) → l < lanes → Dec (v ≡ 0) → said_in (set mid (at + flags_from + a) v) at a l ≡ f l
    says l p (yes q) = said-none _ _ (flag ∙ q) ∙ sym (z q l p)
    says l p (no q) =
        said-word _ _ (λ r. q (sym flag ∙ r))
        ∙ get_or-set_other mid (at + flags_from + a) (at + a * max_lanes + l) v 0 (omega arith) ∙ w.words l p ∙ sym (e l p)

-- its flag alone is written: it is 0
pub row-closed :
    {f : ℕ → ℕ} {at lanes : ℕ} {st : List ℕ} (a : ℕ)
    → a < max_poses → at + state_block ≤ length st → Low st → ((l : ℕ) → l < lanes → f l ≡ B)
    → RowSaid f at a lanes st (set st (at + flags_from + a) 0)
row-closed {f} {at} {lanes} {st} a h room w e =
    record {
      long = length-set st (at + flags_from + a) 0;
      kept = λ k p d. get_or-set_other st (at + flags_from + a) k 0 0 d;
      words = λ l p. said-none _ _ (get_or-set_same st (at + flags_from + a) 0 0 (omega arith)) ∙ sym (e l p);
      low = low-set (at + flags_from + a) 0 w (omega arith) (omega arith);
    }

-- the same of the first row
pub first_flagged :
    {f g : ℕ → ℕ} {at lanes : ℕ} {old mid : List ℕ} (v : ℕ)
    → lanes ≤ max_lanes → at + state_block ≤ length old → Written g at lanes old mid
    → v ≤ B → (v ≡ 0 → (l : ℕ) → l < lanes → f l ≡ B) → ((l : ℕ) → l < lanes → f l ≡ g l)
    → RowSaid f at 0 lanes old (set mid (at + flags_from) v)
first_flagged {g = g} {at} {lanes} {old} {mid} v n room w b z e =
    let y : at + 0 * max_lanes ≡ at = omega arith in
    let x : at + flags_from + 0 ≡ at + flags_from = omega arith in
    let u : Written g (at + 0 * max_lanes) lanes old mid = rw y w in
    rw x at (row_flagged 0 v n (omega arith) room u b z e)

pub first-closed :
    {f : ℕ → ℕ} {at lanes : ℕ} {st : List ℕ}
    → at + state_block ≤ length st → Low st → ((l : ℕ) → l < lanes → f l ≡ B)
    → RowSaid f at 0 lanes st (set st (at + flags_from) 0)
first-closed {at = at} room w e =
    let x : at + flags_from + 0 ≡ at + flags_from = omega arith in
    rw x at (row-closed 0 (omega arith) room w e)

pub said-none_yet : (f : ℕ → ℕ → ℕ) (at lanes : ℕ) {st : List ℕ} → Low st → RowsSaid f at 0 lanes st st
said-none_yet f at lanes {st} w =
    record { frame = frame-refl at (at + state_block) st; words = λ a l h. absurd (omega arith); low = w }

-- one row more
pub said_more :
    {f : ℕ → ℕ → ℕ} {g : ℕ → ℕ} {at lanes : ℕ} {old mid new : List ℕ} (a : ℕ)
    → lanes ≤ max_lanes → a < max_poses → RowsSaid f at a lanes old mid → RowSaid g at a lanes mid new
    → ((l : ℕ) → l < lanes → f a l ≡ g l)
    → RowsSaid f at (a + 1) lanes old new
said_more {f} {g} {at} {lanes} {mid = mid} {new = new} a n h s w e =
    record {
      frame = record {
        long = w.long ∙ s.frame.long;
        low = λ k p. w.kept k (inl (omega arith)) (λ z. omega arith) ∙ s.frame.low k p;
        high = λ k p. w.kept k (inr (omega arith)) (λ z. omega arith) ∙ s.frame.high k p;
      };
      words = λ b l p r. below_more (λ (b : ℕ). (l : ℕ) → l < lanes → said_in new at b l ≡ f b l) a
          (λ b p l r. said_same mid new at b l
          (w.kept (at + flags_from + b) (inr (omega arith)) (λ z. omega arith))
          (w.kept (at + b * max_lanes + l) (inl (omega arith)) (λ z. omega arith)) ∙ s.words b l p r)
          (λ l r. w.words l r ∙ sym (e l r))
          b p l r;
      low = w.low;
    }

-- some rows, then flags of the rows that follow
pub said-join :
    {f h : ℕ → ℕ → ℕ} {at n all lanes : ℕ} {old mid new : List ℕ}
    → lanes ≤ max_lanes → n ≤ all → all ≤ max_poses → RowsSaid f at n lanes old mid
    → Written (always 0) (at + flags_from + n) (all - n) mid new
    → ((a l : ℕ) → a < n → l < lanes → h a l ≡ f a l)
    → ((a l : ℕ) → n ≤ a → a < all → l < lanes → h a l ≡ B)
    → RowsSaid h at all lanes old new
said-join {f} {h} {at} {n} {all} {lanes} {mid = mid} {new = new} k m few s w d e =
    record {
      frame = frame-join at (at + state_block) s.frame w.frame (omega arith) (omega arith)
          (omega arith) (omega arith);
      words = λ a l p r. go a l p r (dec_lt a n);
      low = w.low;
    }
  where
    go : (a l : ℕ) → a < all → l < lanes → Dec (a < n) → said_in new at a l ≡ h a l
    go a l p r (yes q) =
        said_same mid new at a l (w.frame.low (at + flags_from + a) (omega arith))
        (w.frame.low (at + a * max_lanes + l) (omega arith))
        ∙ s.words a l q r ∙ sym (d a l q r)
    go a l p r (no q) =
        let z : at + flags_from + n + (a - n) ≡ at + flags_from + a = omega arith in
        said-none _ _ (rw z at (w.words (a - n) (omega arith))) ∙ sym (e a l (omega arith) p r)

-- no row says anything but B
said-closed :
    {h : ℕ → ℕ → ℕ} {at rows lanes : ℕ} {old new : List ℕ}
    → lanes ≤ max_lanes → rows ≤ max_poses → Low old → Written (always 0) (at + flags_from) rows old new
    → ((a l : ℕ) → a < rows → l < lanes → h a l ≡ B)
    → RowsSaid h at rows lanes old new
said-closed {h} {at} {rows} {lanes} {old} k few low w e =
    let z : at + flags_from + 0 ≡ at + flags_from = omega arith in
    let y : rows - 0 ≡ rows = omega arith in
    said-join {f = h} k (omega arith) few (said-none_yet h at lanes low) (rw (z, y) w) (λ a l p r. refl)
    (λ a l p q r. e a l q r)

-- ---- layers: the rows of a state's block, and one block more

-- the same by another name
pub state_ext :
    {F G : ℕ → Layer} {lanes to q m : ℕ} {old new : List ℕ}
    → FilledState G lanes to q m old new → ((a l : ℕ) → a < m → l < lanes → F l q a ≡ G l q a)
    → FilledState F lanes to q m old new
state_ext w e = record { frame = w.frame; low = w.low; right = λ a p l r. w.right a p l r ∙ sym (e a l p r) }

-- so many rows of a state's block
pub state-rows :
    {F : ℕ → Layer} {f : ℕ → ℕ → ℕ} {lanes to q m : ℕ} {old new : List ℕ}
    → RowsSaid f (to + q * state_block) m lanes old new → ((a l : ℕ) → a < m → l < lanes → F l q a ≡ f a l)
    → FilledState F lanes to q m old new
state-rows w e =
    record {
      frame = w.frame;
      low = w.low;
      right = λ a p l r. w.words a l p r ∙ sym (e a l p r);
    }

-- all of them closed
pub state-closed :
    {F : ℕ → Layer} {lanes to q m : ℕ} {old new : List ℕ}
    → lanes ≤ max_lanes → m ≤ max_poses → Low old → Written (always 0) (to + q * state_block + flags_from) m old new
    → ((a l : ℕ) → a < m → l < lanes → F l q a ≡ B)
    → FilledState F lanes to q m old new
state-closed {F} {q = q} n few low w e =
    state-rows (said-closed {h = λ a l. F l q a} n few low w e) (λ a l p r. refl)

pub filled_none : (F : ℕ → Layer) (lanes poses to : ℕ) {st : List ℕ} → Low st → Filled F lanes poses to 0 st st
filled_none F lanes poses to {st} w = record { frame = frame-refl _ _ st; low = w; right = λ q h. absurd (omega arith) }

pub filled_more :
    {F G : ℕ → Layer} {lanes poses to : ℕ} {old mid new : List ℕ} (q : ℕ)
    → lanes ≤ max_lanes → poses ≤ max_poses → q < 12 → Filled F lanes poses to q old mid
    → FilledState G lanes to q poses mid new
    → ((a l : ℕ) → a < poses → l < lanes → F l q a ≡ G l q a)
    → Filled F lanes poses to (q + 1) old new
filled_more {F} {G} {lanes} {poses} {to} {new = new} q n k h s w e =
    record {
      frame =
          frame-join to (to + layer_block) s.frame w.frame (omega arith) (omega arith) (omega arith) (omega arith);
      low = w.low;
      right = below_more (λ (q : ℕ). (a l : ℕ) → a < poses → l < lanes → layer_in new to l q a ≡ F l q a) q
          (λ p j a l x y. said-below w.frame (to + p * state_block) a l (omega arith) (omega arith) (omega arith)
          ∙ s.right p j a l x y)
          (λ a l x y. w.right a x l y ∙ sym (e a l x y));
    }

-- ---- the same word alone

pub same_low : (n x : ℕ) → x ≤ B → Low (replicate n x)
same_low n x b = record { word = λ k. go k (dec_lt k n) }
  where
    go : (k : ℕ) → Dec (k < n) → get_or (replicate n x) k 0 ≤ B
    go k (yes h) = omega (arith, get_or-replicate n k x 0 h)
    go k (no h) = omega (arith, get_or-eq_default (replicate n x) 0 {n = k} (omega (arith, length-replicate n x)))

pub zeros_low : (n : ℕ) → Low (replicate n 0)
zeros_low n = same_low n 0 (omega arith)

pub none-at : (l : ℕ) → l < max_lanes → get_or (replicate max_lanes B) l 0 ≡ B
none-at l h = get_or-replicate max_lanes l B 0 h

pub nones_low : (n : ℕ) → Low (replicate n B)
nones_low n = same_low n B (omega arith)

pub none-low : Low (replicate max_lanes B)
none-low = nones_low max_lanes
