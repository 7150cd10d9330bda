-- What the words of both rows' paths say, if the traceback noted by them: the placement by these numbers is legal and
-- costs the least cost that the tables have.
use Rattle.std.specs.Prelude.{◌≡◌, refl, Bool, ℕ, suc, ◌+◌, ◌/◌, ◌%◌, ◌≤◌, ◌<◌, length}
use Rattle.std.proofs.Common.{sym, ap, ap₂, ◌∙◌, subst, arith}
use mathlib.Core.List.{List, [], ◌∷◌, Memᴰ as In}
use Rattle.theory_pair.specs.Whole.{picks}
use Rattle.theory_pair.specs.Members.{at}
use Rattle.theory_pair.specs.Cells.{Side, row₀, row₁, PairJob, tall_cells}
use Rattle.theory_pair.specs.Cells.{line, pos, tall_count, cell, LegalPair, total}
use Rattle.theory_pair.proofs.Lines.{cell-pos, line-talls}
use Rattle.theory_pair.proofs.Trace.{trace}
use Rattle.theory_tables.specs.Steps.{B, Deck, pose_slots}
use Rattle.theory_tables.specs.Stages.{least_cost}
use Rattle.theory_tables.specs.Matched.{Matched}
use Rattle.theory_tables.specs.Back.{Traced}
use Rattle.theory_tables.specs.Notes.{NotedBy}
use Rattle.theory_traceback.specs.Rows.{RowWithTalls, RowTo}
use Rattle.theory_traceback.specs.Both.{BothTo, both_on}
use Rattle.theory_traceback.specs.Whole.{WholePath, row-ended, whole_obeys}

picks-same : {A : Type 0} (f g : ℕ → ℕ) (i : ℕ) (ps : List A) → ((I : ℕ) → I < i + length ps → f I ≡ g I)
    → picks f i ps ≡ picks g i ps
unfolding picks
picks-same f g i [] e = refl
picks-same f g i (p ∷ ps) e =
    ap₂ (λ x y. (x, p) ∷ y) (e i (omega arith)) (picks-same f g (suc i) ps (λ I h. e I (omega arith)))

-- the numbers that the search has for row s: a deck that stands for it, by the poses
-- of its cells; and where its tall cells are
pub record Searched {A : Type 0} (site_of : A → ℕ) (J : PairJob A) (pose_of : ℕ → ℕ → A) (offer_of : ℕ → ℕ → Bool)
    (s : Side) (D : Deck) (tall_at : ℕ → ℕ) : Type 0 where
  pub matched : Matched site_of (line J s) D (λ p a. pose_of (cell J s p) a) (λ p a. offer_of (cell J s p) a)
  pub stands : (I : ℕ) → I < tall_count J → tall_at I ≡ pos J s I

-- a search of both rows whose traceback noted by the words w₀ and w₁
pub record TracedBack {A : Type 0} (R : ℕ) (site_of : A → ℕ) (J : PairJob A) (pose_of : ℕ → ℕ → A)
    (offer_of : ℕ → ℕ → Bool) (D₀ D₁ : Deck) (tallAt₀ tallAt₁ w₀ w₁ : ℕ → ℕ) : Type 0 where
  pub first : Searched site_of J pose_of offer_of row₀ D₀ tallAt₀
  pub second : Searched site_of J pose_of offer_of row₁ D₁ tallAt₁
  pub poses : D₀.poses ≡ D₁.poses
  pub small : D₀.poses ≤ pose_slots
  pub cost : least_cost D₀ D₁ R (tall_count J) tallAt₀ tallAt₁ < B
  pub traced : Traced D₀ D₁ R (tall_count J) tallAt₀ tallAt₁ (NotedBy w₀) (NotedBy w₁) (tall_count J) 0 0 0

module _ {A : Type 0} (R : ℕ) (site_of : A → ℕ) (J : PairJob A) (pose_of : ℕ → ℕ → A) (offer_of : ℕ → ℕ → Bool) where
  -- ---- one row

  module _ (s : Side) (D : Deck) (tall_at : ℕ → ℕ) (S : Searched site_of J pose_of offer_of s D tall_at) where
    abbrev row_of : RowWithTalls site_of (tall_count J)
    row_of = record {
      line = line J s;
      deck = D;
      pose = λ p a. pose_of (cell J s p) a;
      offered = λ p a. offer_of (cell J s p) a;
      matched = S.matched;
      pos = tall_at;
      stands = record {
        tall = λ I h. ap (line J s).tall (S.stands I h) ∙ (line-talls J s).tall I h;
        inside = λ I h. rw (S.stands I h) ((line-talls J s).inside I h);
        only = λ k h e. let r = (line-talls J s).only k h e in (r.0, r.1, r.2 ∙ sym (S.stands r.0 r.1));
      };
    }

    tall-cell : (I : ℕ) → I < tall_count J → cell J s (tall_at I) ≡ at (tall_cells J) I
    tall-cell I h = ap (cell J s) (S.stands I h) ∙ (cell-pos J s I h).0

    -- the path up to the last stage goes to the row's end, over its tall cells
    row-whole : (w : ℕ → ℕ) (ps : List A) (n x : ℕ) → length ps ≡ tall_count J
        → RowTo R site_of (tall_count J) row_of (NotedBy w) (tall_count J) 0 0 (picks tall_at 0 ps) n x
        → WholePath R site_of (tall_count J) row_of w (picks (pos J s) 0 ps) n x
    row-whole w ps n x e r =
        subst (λ ts. WholePath R site_of (tall_count J) row_of w ts n x)
        (picks-same tall_at (pos J s) 0 ps (λ I h. S.stands I (omega arith)))
        (row-ended R site_of (tall_count J) row_of w (picks tall_at 0 ps) n x r)

  -- ---- both rows

  module _ (D₀ D₁ : Deck) (tallAt₀ tallAt₁ w₀ w₁ : ℕ → ℕ)
      (W : TracedBack R site_of J pose_of offer_of D₀ D₁ tallAt₀ tallAt₁ w₀ w₁) where
    abbrev least : ℕ
    least = least_cost D₀ D₁ R (tall_count J) tallAt₀ tallAt₁

    abbrev W₀ : RowWithTalls site_of (tall_count J)
    W₀ = row_of row₀ D₀ tallAt₀ W.first

    abbrev W₁ : RowWithTalls site_of (tall_count J)
    W₁ = row_of row₁ D₁ tallAt₁ W.second

    paths : BothTo R site_of (tall_count J) W₀ W₁ (NotedBy w₀) (NotedBy w₁) (tall_count J) 0 0 0 least
    paths =
        let n = tall_count J in
        both_on R site_of n W₀ W₁ (NotedBy w₀) (NotedBy w₁) W.poses
        (λ I l h. ap (λ k. pose_of k l)
        (tall-cell row₀ D₀ tallAt₀ W.first I h ∙ sym (tall-cell row₁ D₁ tallAt₁ W.second I h)))
        n 0 0 0 (omega arith) (λ h. absurd (omega arith)) (λ h. absurd (omega arith)) W.cost W.traced

    path₀ : WholePath R site_of (tall_count J) W₀ w₀ (picks (pos J row₀) 0 paths.ps) paths.n₀ paths.x₀
    path₀ = row-whole row₀ D₀ tallAt₀ W.first w₀ paths.ps paths.n₀ paths.x₀ paths.size paths.first

    path₁ : WholePath R site_of (tall_count J) W₁ w₁ (picks (pos J row₁) 0 paths.ps) paths.n₁ paths.x₁
    path₁ = row-whole row₁ D₁ tallAt₁ W.second w₁ paths.ps paths.n₁ paths.x₁ paths.size paths.second

    -- the placement by the numbers noted, cell by cell
    pub placed-legal : ((k : ℕ) (a : A) → In a (J.offers k) → 0 < J.wide k a) → (out_of : ℕ → ℕ)
        → ((i : ℕ) → 0 < i → i ≤ (line J row₀).size → out_of (cell J row₀ (w₀ i / pose_slots)) ≡ w₀ i % pose_slots)
        → ((i : ℕ) → 0 < i → i ≤ (line J row₁).size → out_of (cell J row₁ (w₁ i / pose_slots)) ≡ w₁ i % pose_slots)
        → LegalPair R site_of J (λ k. pose_of k (out_of k)) × (total site_of J (λ k. pose_of k (out_of k)) ≡ least)
    placed-legal wide out_of g₀ g₁ =
        let o₀ = whole_obeys R site_of (tall_count J) W₀ w₀ W.small (picks (pos J row₀) 0 paths.ps) paths.n₀
        paths.x₀ path₀ (λ p. out_of (cell J row₀ p)) g₀ in
        let o₁ = whole_obeys R site_of (tall_count J) W₁ w₁ (omega (arith, W.poses, W.small))
        (picks (pos J row₁) 0 paths.ps) paths.n₁ paths.x₁ path₁ (λ p. out_of (cell J row₁ p)) g₁ in
        let r = trace R site_of J wide (pose_of 0 0) (λ k. pose_of k (out_of k)) paths.ps paths.x₀ paths.x₁
        paths.size path₀.upto o₀ path₁.upto o₁ in
        (r.0, r.1 ∙ paths.sum)
