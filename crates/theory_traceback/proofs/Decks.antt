-- Two decks by themselves: each stands for a row whose poses are their numbers. So what a traceback through their
-- tables noted says by itself, whatever pair of rows they stand for, that each place holds another position, and that
-- a tall cell has one pose number in both rows.
use Rattle.std.specs.Prelude.{◌≡◌, refl, map, true, ℕ, ◌/◌, ◌%◌, ◌≤◌, ◌<◌, eqb}
use Rattle.std.proofs.Common.{sym, ◌∙◌, arith}
use Rattle.lists.specs.Numbers.{from}
use Rattle.theory_pair.specs.Pick.{pick}
use Rattle.theory_pair.specs.Segment.{Line}
use Rattle.theory_pair.specs.Whole.{picks}
use Rattle.theory_tables.specs.Steps.{Deck, pose_slots}
use Rattle.theory_tables.specs.Stages.{least_cost}
use Rattle.theory_tables.specs.Notes.{NotedBy}
use Rattle.theory_traceback.specs.Words.{Places, number_is}
use Rattle.theory_traceback.specs.Rows.{RowWithTalls}
use Rattle.theory_traceback.specs.Both.{BothTo}
use Rattle.theory_traceback.proofs.Both.{both_to}
use Rattle.theory_traceback.specs.Whole.{WholePath, row-ended, whole-size, whole-places}
use Rattle.theory_traceback.specs.Decks.{Standing, DecksTraced}

-- every pose is offered, and every two fit
abbrev numbered : Deck → Line ℕ
numbered D = record {
  size = D.size;
  options = λ k. map (λ a. a) (pick (λ a. true) (from 0 D.poses));
  wide = λ k a. 0;
  own = D.own;
  pay = λ x y. D.toll x.0 x.1 y.0 y.1;
  tall = D.tall;
  opens = λ k a. eqb (D.front k a) 0;
  closes = λ k a. eqb (D.back k a) 0;
}

abbrev nowhere : ℕ → ℕ
nowhere a = 0

abbrev row_of : (D : Deck) (talls : ℕ) (pos : ℕ → ℕ) → Standing D talls pos → RowWithTalls nowhere talls
row_of D talls pos S = record {
  line = numbered D;
  deck = D;
  pose = λ k a. a;
  offered = λ k a. true;
  matched = record {
    size = refl;
    options = λ k h. refl;
    tall = λ k h. refl;
    own = λ k a h l. refl;
    front = λ k a h l o. S.front k a;
    back = λ k a h l o. S.back k a;
    pays = λ k b m a h l g u o p f. refl;
    barred = λ k b m a h l g u o p f. absurd (f (omega arith, λ z. omega arith));
  };
  pos = pos;
  stands = record { tall = S.tall; inside = S.inside; only = S.only };
}

module _ {D₀ D₁ : Deck} {R talls : ℕ} {pos₀ pos₁ w₀ w₁ : ℕ → ℕ} (T : DecksTraced D₀ D₁ R talls pos₀ pos₁ w₀ w₁) where
  abbrev W₀ : RowWithTalls nowhere talls
  W₀ = row_of D₀ talls pos₀ T.first

  abbrev W₁ : RowWithTalls nowhere talls
  W₁ = row_of D₁ talls pos₁ T.second

  paths : BothTo R nowhere talls W₀ W₁ (NotedBy w₀) (NotedBy w₁) talls 0 0 0 (least_cost D₀ D₁ R talls pos₀ pos₁)
  paths =
      both_to R nowhere talls W₀ W₁ (NotedBy w₀) (NotedBy w₁) record { poses = T.poses; pose = λ I l h. refl }
      talls 0 0 0 (omega arith) (λ h. absurd (omega arith)) (λ h. absurd (omega arith)) T.cost T.traced

  path₀ : WholePath R nowhere talls W₀ w₀ (picks pos₀ 0 paths.ps) paths.n₀ paths.x₀
  path₀ = row-ended R nowhere talls W₀ w₀ (picks pos₀ 0 paths.ps) paths.n₀ paths.x₀ paths.first

  path₁ : WholePath R nowhere talls W₁ w₁ (picks pos₁ 0 paths.ps) paths.n₁ paths.x₁
  path₁ = row-ended R nowhere talls W₁ w₁ (picks pos₁ 0 paths.ps) paths.n₁ paths.x₁ paths.second

  small₁ : D₁.poses ≤ pose_slots
  small₁ = omega (arith, T.poses, T.small)

  -- each place of a row holds another position
  pub places₀ : Places D₀.size D₀.poses w₀
  places₀ = whole-places R nowhere talls W₀ w₀ T.small (picks pos₀ 0 paths.ps) paths.n₀ paths.x₀ path₀

  pub places₁ : Places D₁.size D₁.poses w₁
  places₁ = whole-places R nowhere talls W₁ w₁ small₁ (picks pos₁ 0 paths.ps) paths.n₁ paths.x₁ path₁

  -- a tall cell has the same number in both rows
  pub talls-agree : (I i j : ℕ) → I < talls → 0 < i → i ≤ D₀.size → 0 < j → j ≤ D₁.size
      → w₀ i / pose_slots ≡ pos₀ I → w₁ j / pose_slots ≡ pos₁ I → w₀ i % pose_slots ≡ w₁ j % pose_slots
  talls-agree I i j h l₀ u₀ l₁ u₁ e₀ e₁ =
      let t = paths.tall I h in
      let b = t.below in
      let s = T.small in
      let z₀ = whole-size R nowhere talls W₀ w₀ T.small (picks pos₀ 0 paths.ps) paths.n₀ paths.x₀ path₀ in
      let z₁ = whole-size R nowhere talls W₁ w₁ small₁ (picks pos₁ 0 paths.ps) paths.n₁ paths.x₁ path₁ in
      let d₀ = number_is D₀.size D₀.poses w₀ places₀ (pos₀ I) t.number (omega arith) (rw z₀ at t.first) i
      l₀ u₀ e₀ in
      let d₁ = number_is D₁.size D₁.poses w₁ places₁ (pos₁ I) t.number (omega arith) (rw z₁ at t.second) j
      l₁ u₁ e₁ in
      d₀ ∙ sym d₁
