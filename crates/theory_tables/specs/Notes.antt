-- The notes of a traceback as words; and what was traced stays traced when
-- other notes keep those of the places it passed.
use Rattle.std.specs.Prelude.{ℕ, zero, suc, ◌+◌, ◌-◌, ◌*◌, ◌≤◌, ◌<◌, ◌≡◌, Bool, leb}
use Rattle.std.proofs.Common.{sym, ◌∙◌, inl, inr, arith}
use Rattle.lists.specs.Compare.{Le?, low, high, le?}
use Rattle.theory_tables.specs.Steps.{Deck, pose_slots, marks, last_at, Layer, first_after, first_open, offset}
use Rattle.theory_tables.specs.Stages.{placed_with}
use Rattle.theory_tables.specs.Back.{Source, SegmentTraced, EndTraced, StageTraced, StageBack, Traced}

-- word i of a path notes the i-th placed cell: its position times pose_slots, and its pose number
abbrev pub NotedBy : (ℕ → ℕ) → ℕ → ℕ → ℕ → Type 0
NotedBy w i k a = w i ≡ k * pose_slots + a

-- ---- one segment: the places i to i + j

module _ (D : Deck) (R : ℕ) (Noted Noted' : ℕ → ℕ → ℕ → Type 0) (f : Layer) (i : ℕ) where
  source-keep : (j q a r b : ℕ) → Source D R Noted f i j q a r b → Source D R Noted' f i j q a r b
  source-keep j q a r b o = record { state = o.state; pose = o.pose; source = o.source; sum = o.sum }

  pub segment-traced-keep : (j q a : ℕ) → ((e k b : ℕ) → i ≤ e → e ≤ i + j → Noted e k b → Noted' e k b)
      → SegmentTraced D R Noted f i j q a → SegmentTraced D R Noted' f i j q a
  segment-traced-keep zero q a g w = g i (last_at R i q) a (omega arith) (omega arith) w
  segment-traced-keep (suc j) q a g w = (
    g (suc (i + j)) (last_at R (suc (i + j)) q) a (omega arith) (omega arith) w.0,
    w.1,
    w.2,
    source-keep j q a w.1 w.2 w.3,
    segment-traced-keep j w.1 w.2 (λ e k b l h. g e k b l (omega arith)) w.4,
  )

  pub end-keep : (x : ℕ) → ((e k b : ℕ) → i ≤ e → e ≤ D.size → Noted e k b → Noted' e k b) → EndTraced D R Noted f i x
      → EndTraced D R Noted' f i x
  end-keep x g (inl e) = inl e
  end-keep x g (inr (r, b, w)) =
      let room = w.room in
      inr (
        r,
        b,
        record {
          room = w.room;
          state = w.state;
          pose = w.pose;
          there = w.there;
          single = w.single;
          segment_cost = w.segment_cost;
          row_traced = segment-traced-keep (D.size - i) r b (λ e k c l h. g e k c l (omega arith)) w.row_traced;
        },
      )

-- ---- one stage in a row: from place i to its tall cell, or to the row's end

-- place e is not beyond the end of stage I
pub record NotBeyond (D : Deck) (R talls : ℕ) (pos : ℕ → ℕ) (I q e : ℕ) : Type 0 where
  pub to_tall : I < talls → e ≤ placed_with R (pos I) q
  pub to_the_end : talls ≤ I → e ≤ D.size

module _ (D : Deck) (R talls : ℕ) (pos : ℕ → ℕ) where
  -- a bound of all stages
  pub not_beyond : (n : ℕ) → ((I : ℕ) → I < talls → pos I + suc R ≤ n) → D.size ≤ n → (I q e : ℕ)
      → NotBeyond D R talls pos I q e → e ≤ n
  not_beyond n g h I q e u = go (leb (suc I) talls) (le? (suc I) talls)
    where
      go : (t : Bool) → Le? (suc I) talls t → e ≤ n
      go t (low b) = let x = u.to_tall b in let y = g I b in omega arith
      go t (high b) = let x = u.to_the_end (omega arith) in omega arith

  module _ (Noted Noted' : ℕ → ℕ → ℕ → Type 0) where
    pub stage-keep : (I : ℕ) (f : Layer) (i x q a : ℕ)
        → ((e k b : ℕ) → i ≤ e → NotBeyond D R talls pos I q e → Noted e k b → Noted' e k b)
        → StageTraced D R talls pos Noted I f i x q a → StageTraced D R talls pos Noted' I f i x q a
    stage-keep I f i x q a g w = record {
      to_tall = λ h.
          let r = w.to_tall h in
          let x = r.0 in (
            r.0,
            segment-traced-keep D R Noted Noted' f i (pos I + suc R - offset R q - i) q a
                (λ e k b l u. g e k b l record { to_tall = λ z. omega arith; to_the_end = λ z. absurd (omega arith) }) r.1,
          );
      to_the_end = λ h. end-keep D R Noted Noted' f i x
          (λ e k b l u. g e k b l record { to_tall = λ z. absurd (omega arith); to_the_end = λ z. u }) (w.to_the_end h);
    }

-- ---- all stages of two rows

module _ (D₀ D₁ : Deck) (R talls : ℕ) (pos₀ pos₁ : ℕ → ℕ) (Noted₀ Noted₁ Noted₀' Noted₁' : ℕ → ℕ → ℕ → Type 0) where
  -- stage I + 1: the places after those of tall cell I
  pub back_keep : (I q₀ q₁ a s t l : ℕ)
      → ((e k b : ℕ) → placed_with R (pos₀ I) s < e → NotBeyond D₀ R talls pos₀ (suc I) q₀ e → Noted₀ e k b
      → Noted₀' e k b)
      → ((e k b : ℕ) → placed_with R (pos₁ I) t < e → NotBeyond D₁ R talls pos₁ (suc I) q₁ e → Noted₁ e k b
      → Noted₁' e k b)
      → StageBack D₀ D₁ R talls pos₀ pos₁ Noted₀ Noted₁ I q₀ q₁ a s t l
      → StageBack D₀ D₁ R talls pos₀ pos₁ Noted₀' Noted₁' I q₀ q₁ a s t l
  back_keep I q₀ q₁ a s t l g₀ g₁ w =
      let i₀ = placed_with R (pos₀ I) s in
      let i₁ = placed_with R (pos₁ I) t in
      record {
        state₀ = w.state₀;
        state₁ = w.state₁;
        pose = w.pose;
        sum = w.sum;
        row₀ = stage-keep D₀ R talls pos₀ Noted₀ Noted₀' (suc I) (first_after D₀ R i₀ (marks R s) (pos₀ I) l) (suc i₀)
            (D₀.back (pos₀ I) l) q₀ a (λ e k b h. g₀ e k b (omega arith)) w.row₀;
        row₁ = stage-keep D₁ R talls pos₁ Noted₁ Noted₁' (suc I) (first_after D₁ R i₁ (marks R t) (pos₁ I) l) (suc i₁)
            (D₁.back (pos₁ I) l) q₁ a (λ e k b h. g₁ e k b (omega arith)) w.row₁;
      }

  -- all stages up to stage I
  pub traced-keep : (I q₀ q₁ a : ℕ)
      → ((K q e k b : ℕ) → 0 < e → NotBeyond D₀ R talls pos₀ K q e → Noted₀ e k b → Noted₀' e k b)
      → ((K q e k b : ℕ) → 0 < e → NotBeyond D₁ R talls pos₁ K q e → Noted₁ e k b → Noted₁' e k b)
      → Traced D₀ D₁ R talls pos₀ pos₁ Noted₀ Noted₁ I q₀ q₁ a
      → Traced D₀ D₁ R talls pos₀ pos₁ Noted₀' Noted₁' I q₀ q₁ a
  traced-keep zero q₀ q₁ a g₀ g₁ w = (
    stage-keep D₀ R talls pos₀ Noted₀ Noted₀' 0 (first_open D₀ R) 1 0 q₀ a
        (λ e k b h. g₀ 0 q₀ e k b (omega arith)) w.0,
    stage-keep D₁ R talls pos₁ Noted₁ Noted₁' 0 (first_open D₁ R) 1 0 q₁ a
        (λ e k b h. g₁ 0 q₁ e k b (omega arith)) w.1,
  )
  traced-keep (suc I) q₀ q₁ a g₀ g₁ w =
      let s = w.0 in
      let t = w.1 in
      let l = w.2 in (
        s,
        t,
        l,
        back_keep I q₀ q₁ a s t l (λ e k b h. g₀ (suc I) q₀ e k b (omega arith))
            (λ e k b h. g₁ (suc I) q₁ e k b (omega arith)) w.3,
        traced-keep I s t l g₀ g₁ w.4,
      )

-- ---- the same for words that agree on those places

module _ (D : Deck) (R : ℕ) (w w' : ℕ → ℕ) (f : Layer) (i : ℕ) where
  pub segment-traced-words : (j q a : ℕ) → ((e : ℕ) → i ≤ e → e ≤ i + j → w e ≡ w' e)
      → SegmentTraced D R (NotedBy w) f i j q a → SegmentTraced D R (NotedBy w') f i j q a
  segment-traced-words j q a g =
      segment-traced-keep D R (NotedBy w) (NotedBy w') f i j q a (λ e k b l h x. sym (g e l h) ∙ x)

  pub end-words : (x : ℕ) → ((e : ℕ) → i ≤ e → e ≤ D.size → w e ≡ w' e) → EndTraced D R (NotedBy w) f i x
      → EndTraced D R (NotedBy w') f i x
  end-words x g = end-keep D R (NotedBy w) (NotedBy w') f i x (λ e k b l h y. sym (g e l h) ∙ y)

pub stage-words : (D : Deck) (R talls : ℕ) (pos : ℕ → ℕ) (w w' : ℕ → ℕ) (I : ℕ) (f : Layer) (i x q a : ℕ)
    → ((e : ℕ) → i ≤ e → NotBeyond D R talls pos I q e → w e ≡ w' e)
    → StageTraced D R talls pos (NotedBy w) I f i x q a → StageTraced D R talls pos (NotedBy w') I f i x q a
stage-words D R talls pos w w' I f i x q a g =
    stage-keep D R talls pos (NotedBy w) (NotedBy w') I f i x q a (λ e k b l h y. sym (g e l h) ∙ y)

module _ (D₀ D₁ : Deck) (R talls : ℕ) (pos₀ pos₁ : ℕ → ℕ) (w₀ w₁ w₀' w₁' : ℕ → ℕ) where
  pub back-words : (I q₀ q₁ a s t l : ℕ)
      → ((e : ℕ) → placed_with R (pos₀ I) s < e → NotBeyond D₀ R talls pos₀ (suc I) q₀ e → w₀ e ≡ w₀' e)
      → ((e : ℕ) → placed_with R (pos₁ I) t < e → NotBeyond D₁ R talls pos₁ (suc I) q₁ e → w₁ e ≡ w₁' e)
      → StageBack D₀ D₁ R talls pos₀ pos₁ (NotedBy w₀) (NotedBy w₁) I q₀ q₁ a s t l
      → StageBack D₀ D₁ R talls pos₀ pos₁ (NotedBy w₀') (NotedBy w₁') I q₀ q₁ a s t l
  back-words I q₀ q₁ a s t l g₀ g₁ =
      back_keep D₀ D₁ R talls pos₀ pos₁ (NotedBy w₀) (NotedBy w₁) (NotedBy w₀') (NotedBy w₁') I q₀ q₁ a s t l
      (λ e k b z h x. sym (g₀ e z h) ∙ x) (λ e k b z h x. sym (g₁ e z h) ∙ x)

  pub traced-words : (I q₀ q₁ a : ℕ)
      → ((K q e : ℕ) → 0 < e → NotBeyond D₀ R talls pos₀ K q e → w₀ e ≡ w₀' e)
      → ((K q e : ℕ) → 0 < e → NotBeyond D₁ R talls pos₁ K q e → w₁ e ≡ w₁' e)
      → Traced D₀ D₁ R talls pos₀ pos₁ (NotedBy w₀) (NotedBy w₁) I q₀ q₁ a
      → Traced D₀ D₁ R talls pos₀ pos₁ (NotedBy w₀') (NotedBy w₁') I q₀ q₁ a
  traced-words I q₀ q₁ a g₀ g₁ =
      traced-keep D₀ D₁ R talls pos₀ pos₁ (NotedBy w₀) (NotedBy w₁) (NotedBy w₀') (NotedBy w₁') I q₀ q₁ a
      (λ K q e k b z h x. sym (g₀ K q e z h) ∙ x) (λ K q e k b z h x. sym (g₁ K q e z h) ∙ x)
