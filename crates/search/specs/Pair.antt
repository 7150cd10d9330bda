-- For every pair of rows that the words stand for: what the search asks of the words holds, and what it finds is a
-- cheapest legal placement of the pair.
use Rattle.std.specs.Prelude.{ℕ, ◌/◌, ◌<◌, ◌≡◌, refl, Bool, true, List, length, get_or}
use Rattle.std.proofs.Common.{sym, ap, ◌∙◌, arith}
use Rattle.definition.specs.Job.{max_cells}
use Rattle.theory_pair.specs.Cells.{Side, row₀, row₁, PairJob, is_tall, members, cell, tall_count}
use Rattle.theory_pair.proofs.Lines.{line-talls}
use Rattle.theory_pair.specs.Cells.{LegalPair, total}
use Rattle.theory_tables.specs.Steps.{Deck, pose_slots}
use Rattle.theory_tables.specs.Stages.{least_cost}
use Rattle.theory_traceback.proofs.Decks.{places₀, places₁}
use Rattle.theory_traceback.specs.Members.{cell_below, cells-apart, shared-tall}
use Rattle.theory_traceback.specs.Placed.{Searched, TracedBack, placed-legal}
use Rattle.theory_traceback.specs.Found.{Wide, least_pair, PairFound, tables-least}
use Rattle.search_row.specs.declared.Sizes.{Sizes}
use Rattle.search_row.specs.Words.{deck_in, pos_in, with_cells, RowGiven}
use Rattle.search.specs.Rows.{number_at, RowAsked, RowsAsked}
use Rattle.search.specs.Found.{deck₀, deck₁, least, RowsFound}
use Rattle.search.specs.Answer.{traced-back}

-- words that stand for row s of a pair: its deck and its tall cells, and `name` is what number a cell bears
pub record RowOf {A : Type 0} (site_of : A → ℕ) (J : PairJob A) (pose_of : ℕ → ℕ → A) (offer_of : ℕ → ℕ → Bool)
    (name : ℕ → ℕ) (s : Side) (row : List ℕ) (z : Sizes) : Type 0 where
  pub searched : Searched site_of J pose_of offer_of s (deck_in row z) (pos_in row)
  pub number : (p : ℕ) → p < z.cells → number_at row p ≡ name (cell J s p)
  pub talls : z.talls ≡ tall_count J

-- both rows; no two cells bear one number
pub record PairOf {A : Type 0} (site_of : A → ℕ) (J : PairJob A) (pose_of : ℕ → ℕ → A) (offer_of : ℕ → ℕ → Bool)
    (name : ℕ → ℕ) (words₀ words₁ : List ℕ) (z : Sizes) (n₁ : ℕ) : Type 0 where
  pub first : RowOf site_of J pose_of offer_of name row₀ words₀ z
  pub second : RowOf site_of J pose_of offer_of name row₁ words₁ (with_cells z n₁)
  pub small : (k : ℕ) → k < J.count → name k < max_cells
  pub apart : (k m : ℕ) → k < J.count → m < J.count → name k ≡ name m → k ≡ m

module _ {A : Type 0} {site_of : A → ℕ} {J : PairJob A} {pose_of : ℕ → ℕ → A} {offer_of : ℕ → ℕ → Bool}
    {name : ℕ → ℕ} where
  -- ---- what is asked

  module _ {s : Side} {row : List ℕ} {z : Sizes} (r : RowOf site_of J pose_of offer_of name s row z) where
    row_inside : (p : ℕ) → p < z.cells → p < length (members J s)
    row_inside p h = omega (arith, r.searched.matched.size)

    row-asked : ((k : ℕ) → k < J.count → name k < max_cells)
        → ((k m : ℕ) → k < J.count → m < J.count → name k ≡ name m → k ≡ m) → RowGiven row z → RowAsked row z
    row-asked small apart g = record {
      given = g;
      tall = λ I h.
          let i : I < tall_count J = omega (arith, r.talls) in
          r.searched.matched.tall (pos_in row I) (row_inside (pos_in row I) (g.inside I h))
          ∙ ap (λ p. is_tall (J.kind (cell J s p))) (r.searched.stands I i) ∙ (line-talls J s).tall I i;
      only = λ k h e.
          let t = (line-talls J s).only k (row_inside k h) (sym (r.searched.matched.tall k (row_inside k h)) ∙ e) in
          (t.0, omega (arith, r.talls, t.1), t.2 ∙ sym (r.searched.stands t.0 t.1));
      small = λ k h. omega (arith, r.number k h, small (cell J s k) (cell_below J s k (row_inside k h)));
      apart = λ k m h l e.
          cells-apart J s k m (row_inside k h) (row_inside m l)
          (apart (cell J s k) (cell J s m) (cell_below J s k (row_inside k h)) (cell_below J s m (row_inside m l))
          (sym (r.number k h) ∙ e ∙ r.number m l));
    }

  module _ {words₀ words₁ : List ℕ} {z : Sizes} {n₁ : ℕ}
      (p : PairOf site_of J pose_of offer_of name words₀ words₁ z n₁) where
    pub pair-asked : RowGiven words₀ z → RowGiven words₁ (with_cells z n₁) → RowsAsked words₀ words₁ z n₁
    pair-asked g₀ g₁ = record {
      first = row-asked p.first p.small p.apart g₀;
      second = row-asked p.second p.small p.apart g₁;
      shared = λ k m h l e.
          let i₀ = row_inside p.first k h in
          let i₁ = row_inside p.second m l in
          let I = shared-tall J k m i₀ i₁
          (p.apart (cell J row₀ k) (cell J row₁ m) (cell_below J row₀ k i₀) (cell_below J row₁ m i₁)
          (sym (p.first.number k h) ∙ e ∙ p.second.number m l)) in (
            I.0,
            omega (arith, p.first.talls, I.1),
            I.2 ∙ sym (p.first.searched.stands I.0 I.1),
            I.3 ∙ sym (p.second.searched.stands I.0 I.1),
          );
    }

    -- ---- what is found

    module _ (wide : Wide J) (r : RowsAsked words₀ words₁ z n₁) {found : Bool} {x : ℕ} {poses : List ℕ}
        (f : RowsFound words₀ words₁ z n₁ found x poses) where
      abbrev D₀ : Deck
      D₀ = deck₀ words₀ words₁ z n₁

      abbrev D₁ : Deck
      D₁ = deck₁ words₀ words₁ z n₁

      abbrev number_of : ℕ → ℕ
      number_of k = get_or poses (name k) 0

      -- the tables have the pair's tall cells
      same-talls : least words₀ words₁ z n₁
          ≡ least_cost D₀ D₁ z.reordering (tall_count J) (pos_in words₀) (pos_in words₁)
      same-talls = rw p.first.talls

      least-is : least words₀ words₁ z n₁ ≡ least_pair z.reordering site_of J wide
      least-is =
          same-talls
          ∙ tables-least z.reordering site_of J wide pose_of offer_of D₀ D₁ (pos_in words₀) (pos_in words₁)
          p.first.searched p.second.searched refl

      placed : found ≡ true → LegalPair z.reordering site_of J (λ k. pose_of k (number_of k))
          × (total site_of J (λ k. pose_of k (number_of k)) ≡ least words₀ words₁ z n₁)
      placed e =
          let q = f.posed e in
          let b = traced-back r (f.some_when e) q.traced in
          let W : TracedBack z.reordering site_of J pose_of offer_of D₀ D₁ (pos_in words₀) (pos_in words₁) q.path₀
          q.path₁ = record {
            first = p.first.searched;
            second = p.second.searched;
            poses = refl;
            small = b.small;
            cost = rw p.first.talls at (f.some_when e);
            traced = rw p.first.talls at q.traced;
          } in
          let z₀ = p.first.searched.matched.size in
          let z₁ = p.second.searched.matched.size in
          let t = placed-legal z.reordering site_of J pose_of offer_of D₀ D₁ (pos_in words₀) (pos_in words₁) q.path₀
          q.path₁ W wide number_of
          (λ i h l. ap (λ (c : ℕ). get_or poses c 0) (sym (p.first.number (q.path₀ i / pose_slots)
          ((places₀ b).inside i h (omega arith)))) ∙ q.posed₀ i h (omega arith))
          (λ i h l. ap (λ (c : ℕ). get_or poses c 0) (sym (p.second.number (q.path₁ i / pose_slots)
          ((places₁ b).inside i h (omega arith)))) ∙ q.posed₁ i h (omega arith)) in
          (t.0, t.1 ∙ sym same-talls)

      pub pair_found : PairFound z.reordering site_of J wide pose_of found x number_of
      pair_found = record {
        none_when = λ e. sym least-is ∙ f.none_when e;
        some_when = λ e. (placed e).0;
        stated = λ e. (placed e).1 ∙ sym (f.stated e);
        least = λ e. f.stated e ∙ least-is;
      }
