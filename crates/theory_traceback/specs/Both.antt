-- Two rows, stage by stage: what the traceback left of the stages is a path in each row, the tall cells in the same
-- poses in both and noted by the same numbers, and the two paths cost what the case table says.
use Rattle.std.specs.Prelude.{◌≡◌, List, [], ◌∷◌, ◌++◌, length}
use Rattle.std.proofs.Math.Path.{refl, sym}
use Rattle.std.proofs.Common.{ap, ◌∙◌, subst}
use Prim.Native.Nat.{ℕ, zero, suc, ◌+◌, ◌≤◌, ◌<◌}
use native.Mathlib.Omega.{arith}
use Rattle.std.proofs.Math.Decide.{ℕ_discrete}
use Rattle.std.proofs.Math.ListN.{length-append}
use Rattle.theory_pair.specs.Whole.{picks}
use Rattle.theory_pair.proofs.Cut.{picks_snoc}
use Rattle.theory_tables.specs.Steps.{B}
use Rattle.theory_tables.specs.Stages.{placed_with, open_cost, stage_cost, case_table}
use Rattle.theory_tables.specs.Back.{Traced}
use Rattle.theory_traceback.specs.Noted.{NotedUpto}
use Rattle.theory_traceback.specs.Rows.{RowWithTalls, Within, Stood, RowTo, row_begin, row_on}

-- a row's path with one tall cell more, which stands in the pose p
picks_more : {A : Type 0} (R : ℕ) (site_of : A → ℕ) (talls : ℕ) (W : RowWithTalls site_of talls)
    (Noted : ℕ → ℕ → ℕ → Type 0) (I l q a n x : ℕ) (ps : List A) (p : A) → length ps ≡ I → W.pose (W.pos I) l ≡ p
    → RowTo R site_of talls W Noted (suc I) q a (picks W.pos 0 ps ++ ((W.pos I, W.pose (W.pos I) l) ∷ [])) n x
    → RowTo R site_of talls W Noted (suc I) q a (picks W.pos 0 (ps ++ (p ∷ []))) n x
picks_more R site_of talls W Noted I l q a n x ps p e z r =
    subst (λ ts. RowTo R site_of talls W Noted (suc I) q a ts n x)
    (ap (λ y. picks W.pos 0 ps ++ ((W.pos I, y) ∷ [])) z ∙ sym (picks_snoc W.pos 0 I ps p (omega arith))) r

-- a tall cell has the same poses in both
pub record Twins {A : Type 0} {site_of : A → ℕ} {talls : ℕ} (W₀ W₁ : RowWithTalls site_of talls) : Type 0 where
  pub poses : W₀.deck.poses ≡ W₁.deck.poses
  pub pose : (I l : ℕ) → I < talls → W₀.pose (W₀.pos I) l ≡ W₁.pose (W₁.pos I) l

module _ {A : Type 0} (R : ℕ) (site_of : A → ℕ) (talls : ℕ) (W₀ W₁ : RowWithTalls site_of talls)
    (Noted₀ Noted₁ : ℕ → ℕ → ℕ → Type 0) where
  -- tall cell K was noted by the same number in both rows, among the first n₀ cells and the first n₁
  pub record TallNoted (K n₀ n₁ : ℕ) : Type 0 where
    pub number : ℕ
    pub below : number < W₀.deck.poses
    pub first : NotedUpto Noted₀ n₀ (W₀.pos K) number
    pub second : NotedUpto Noted₁ n₁ (W₁.pos K) number

  -- a path in each row up to stage I, which ends in the case (q₀, q₁, a); the tall cells passed stand in the poses ps
  pub record BothTo (I q₀ q₁ a x : ℕ) : Type 0 where
    pub ps : List A
    pub size : length ps ≡ I
    pub n₀ : ℕ
    pub n₁ : ℕ
    pub x₀ : ℕ
    pub x₁ : ℕ
    pub first : RowTo R site_of talls W₀ Noted₀ I q₀ a (picks W₀.pos 0 ps) n₀ x₀
    pub second : RowTo R site_of talls W₁ Noted₁ I q₁ a (picks W₁.pos 0 ps) n₁ x₁
    pub tall : (K : ℕ) → K < I → TallNoted K n₀ n₁
    pub sum : x₀ + x₁ ≡ x

  -- one tall cell more
  tall-more : (I s t l n₀ n₁ j₀ j₁ : ℕ) → placed_with R (W₀.pos I) s ≡ suc n₀ → placed_with R (W₁.pos I) t ≡ suc n₁
      → l < W₀.deck.poses → Stood R site_of talls W₀ Noted₀ I s l
      → Stood R site_of talls W₁ Noted₁ I t l → ((K : ℕ) → K < I → TallNoted K n₀ n₁) → (K : ℕ) → K < suc I
      → TallNoted K (suc n₀ + j₀) (suc n₁ + j₁)
  tall-more I s t l n₀ n₁ j₀ j₁ z₀ z₁ h d₀ d₁ f K u = go (ℕ_discrete K I)
    where
      go : Dec (K ≡ I) → TallNoted K (suc n₀ + j₀) (suc n₁ + j₁)
      go (yes e) = rw e record {
        number = l;
        below = h;
        first = record { place = suc n₀; low = omega arith; high = omega arith; noted = rw z₀ at d₀.noted };
        second = record { place = suc n₁; low = omega arith; high = omega arith; noted = rw z₁ at d₁.noted };
      }
      go (no e) =
          let r = f K (omega arith) in
          let h₀ = r.first.high in
          let h₁ = r.second.high in
          record {
            number = r.number;
            below = r.below;
            first =
                record { place = r.first.place; low = r.first.low; high = omega arith; noted = r.first.noted };
            second =
                record { place = r.second.place; low = r.second.low; high = omega arith; noted = r.second.noted };
          }

  abbrev table : ℕ → ℕ → ℕ → ℕ → ℕ
  table I q₀ q₁ a = case_table W₀.deck W₁.deck R talls W₀.pos W₁.pos I q₀ q₁ a

  abbrev Traces : ℕ → ℕ → ℕ → ℕ → Type 0
  Traces I q₀ q₁ a = Traced W₀.deck W₁.deck R talls W₀.pos W₁.pos Noted₀ Noted₁ I q₀ q₁ a

  -- all stages, where tall cells have the same poses in both rows
  module _ (poses : W₀.deck.poses ≡ W₁.deck.poses)
      (pose : (K b : ℕ) → K < talls → W₀.pose (W₀.pos K) b ≡ W₁.pose (W₁.pos K) b) where
    pub both_on : (I q₀ q₁ a : ℕ) → I ≤ talls → Within R site_of talls W₀ I q₀ a
        → Within R site_of talls W₁ I q₁ a → table I q₀ q₁ a < B → Traces I q₀ q₁ a
        → BothTo I q₀ q₁ a (table I q₀ q₁ a)
    unfolding case_table picks
    both_on zero q₀ q₁ a h g₀ g₁ u w =
        let e : table 0 q₀ q₁ a
        ≡ open_cost W₀.deck R talls W₀.pos q₀ a + open_cost W₁.deck R talls W₁.pos q₁ a = omega arith in
        let f₀ = row_begin R site_of talls W₀ Noted₀ q₀ a g₀ (omega arith) w.0 in
        let f₁ = row_begin R site_of talls W₁ Noted₁ q₁ a g₁ (omega arith) w.1 in
        record {
          ps = [];
          size = refl;
          n₀ = f₀.0;
          n₁ = f₁.0;
          x₀ = open_cost W₀.deck R talls W₀.pos q₀ a;
          x₁ = open_cost W₁.deck R talls W₁.pos q₁ a;
          first = f₀.1;
          second = f₁.1;
          tall = λ K z. absurd {A = TallNoted K f₀.0 f₁.0} (omega arith);
          sum = sym e;
        }
    both_on (suc I) q₀ q₁ a h g₀ g₁ u w =
        let s = w.0 in
        let t = w.1 in
        let l = w.2 in
        let k = w.3 in
        let e₀ = k.sum in
        let l₀ = k.pose in
        let l₁ : l < W₁.deck.poses = omega (arith, poses) in
        let r = both_on I s t l (omega arith) (λ b. (k.state₀, l₀)) (λ b. (k.state₁, l₁)) (omega arith) w.4 in
        let f₀ = row_on R site_of talls W₀ Noted₀ I s l q₀ a (picks W₀.pos 0 r.ps) r.n₀ r.x₀ h
        k.state₀ l₀ g₀ r.first (omega arith) k.row₀ in
        let f₁ = row_on R site_of talls W₁ Noted₁ I t l q₁ a (picks W₁.pos 0 r.ps) r.n₁ r.x₁ h
        k.state₁ l₁ g₁ r.second (omega arith) k.row₁ in
        let p = W₀.pose (W₀.pos I) l in
        let n₀ = suc r.n₀ + f₀.1 in
        let n₁ = suc r.n₁ + f₁.1 in
        let x₀ = r.x₀ + stage_cost W₀.deck R talls W₀.pos I s l q₀ a in
        let x₁ = r.x₁ + stage_cost W₁.deck R talls W₁.pos I t l q₁ a in
        let e₁ = r.sum in
        let e₂ = r.size in
        let e₃ = length-append r.ps (p ∷ []) in
        record {
          ps = r.ps ++ (p ∷ []);
          size = omega arith;
          n₀ = n₀;
          n₁ = n₁;
          x₀ = x₀;
          x₁ = x₁;
          first = picks_more R site_of talls W₀ Noted₀ I l q₀ a n₀ x₀ r.ps p e₂ refl f₀.2;
          second = picks_more R site_of talls W₁ Noted₁ I l q₁ a n₁ x₁ r.ps p e₂ (sym (pose I l h)) f₁.2;
          tall = tall-more I s t l r.n₀ r.n₁ f₀.1 f₁.1 f₀.0 f₁.0 l₀ (r.first.stood h)
              (r.second.stood h) r.tall;
          sum = omega arith;
        }
