-- Theorems on the definitions of specs/Cells.
-- The pair of rows, whole: the cheapest stages are the cheapest legal placement.
use Rattle.std.specs.Prelude.{◌≡◌, refl, ◌↔◌, ◌⊎◌, Bool, true, ℕ, ◌+◌, ◌≤◌, ◌<◌, length}
use Rattle.std.proofs.Common.{sym, ap, ap₂, ◌∙◌, subst, inl, inr}
use mathlib.Core.List.{List, Memᴰ as In}
use Rattle.std.proofs.Math.Option.{Option, none, some}
use native.Mathlib.Omega.{arith}
use Rattle.lists.specs.Numbers.{from}
use Rattle.theory_row.specs.Order.{order, place}
use Rattle.theory_row.specs.Rules.{Clear, sum, sum_neighbours}
use Rattle.theory_row.specs.Cheapest.{◌⊑◌}
use Rattle.theory_row.specs.Choices.{along, cells}
use Rattle.theory_pair.specs.Segment.{last}
use Rattle.theory_pair.specs.Ends.{Ended}
use Rattle.theory_pair.specs.Whole.{site_in, opens_in, closes_in, row_total, RowPlaced, Wide, picks}
use Rattle.theory_pair.proofs.Whole.{placed_same}
use Rattle.theory_pair.specs.Cut.{Upto}
use Rattle.theory_pair.specs.Pair.{ending}
use Rattle.theory_pair.proofs.Pair.{table_below, table-met}
use Rattle.theory_pair.proofs.Agree.{agree_stages, stages_agree, paths-agree}
use Rattle.theory_pair.specs.Legal.{members, tall_cells}
use Rattle.theory_pair.specs.Legal.{Side, row₀, row₁, Kind, one, both, PairJob, in_row, is_tall, own_in}
use Rattle.theory_pair.specs.Legal.{site, width, RowEnded, neighbours, total, LegalPair}
use Rattle.theory_pair.specs.Members.{at, at_in, at_place, place_at, images-all, sort-order}
use Rattle.theory_pair.specs.Members.{ended-images, sum-images, sum_neighbours-images, row_positions}
use Rattle.theory_pair.specs.Members.{positions_row}
use Rattle.theory_pair.specs.Lines.{cell, line, tall_count, pos}
use Rattle.theory_pair.proofs.Lines.{cell-pos, line-talls}
use Rattle.theory_pair.proofs.Lines.{members_in, in_members, members-distinct, talls_in_lem, in_talls}
use Rattle.theory_pair.proofs.Lines.{talls-rising, tall_in_row, same-options, split-sum}
use Rattle.theory_pair.specs.Cells as defs

module _ {A : Type 0} (R : ℕ) (site_of : A → ℕ) (J : PairJob A) where
  abbrev Agreed : (ℕ → A) → (ℕ → A) → Type 0
  Agreed = defs.Agreed R site_of J

  -- a placement, as the poses of a row's positions
  abbrev by : (ℕ → A) → Side → ℕ → A
  by f s p = f (cell J s p)

  -- what the ends say of a row's cells, said of their positions
  ends_positions : (f : ℕ → A) (s : Side) → RowEnded site_of J f s ↔ Ended (opens_in site_of (line J s) (by f s))
      (closes_in site_of (line J s) (by f s)) (order (site_in site_of (line J s) (by f s)) (line J s).size)
  ends_positions f s =
      let opens : ℕ → Bool = λ k. J.opens k (f k) in
      let closes : ℕ → Bool = λ k. J.closes k (f k) in
      let e = sort-order (site site_of J f) (members J s) in
      let r = ended-images opens closes (cell J s) (order (site_in site_of (line J s) (by f s)) (line J s).size) in
      (λ h. r.0 (subst (Ended opens closes) e h), λ h. subst (Ended opens closes) (sym e) (r.1 h))

  pub legal-placed : (f : ℕ → A) → LegalPair R site_of J f → (s : Side) → RowPlaced R site_of (line J s) (by f s)
  legal-placed f p s = record {
    offered = λ k h. p.offered (cell J s k) (members_in J s (at_in (members J s) k h)).0;
    legal = row_positions R (site site_of J f) (width site_of J f) (members J s) (members-distinct J s) (p.rows s);
    ended = (ends_positions f s).0 (p.ended s);
  }

  -- what a row costs, by cells
  row-total : (f : ℕ → A) (s : Side) → row_total site_of (line J s) (by f s)
      ≡ sum (λ k. own_in s (J.kind k) (J.own k (f k))) (members J s) + neighbours site_of J f s
  row-total f s =
      let ms = members J s in
      let l = order (λ p. site_of (f (at ms p))) (length ms) in
      let pays : ℕ → ℕ → ℕ = λ a b. J.pay s (a, f a) (b, f b) in
      let owns : ℕ → ℕ = λ k. own_in s (J.kind k) (J.own k (f k)) in
      ap₂ ◌+◌ (sym (sum-images owns (at ms) (from 0 (length ms))) ∙ ap (sum owns) (images-all ms))
      (sym (sum_neighbours-images pays (at ms) l) ∙ ap (sum_neighbours pays) (sym (sort-order (site site_of J f) ms)))

  pub total-rows : (f : ℕ → A)
      → row_total site_of (line J row₀) (by f row₀) + row_total site_of (line J row₁) (by f row₁) ≡ total site_of J f
  unfolding members
  total-rows f =
      let a = row-total f row₀ in
      let b = row-total f row₁ in
      let c = split-sum J (λ k. J.own k (f k)) (from 0 J.count) in
      omega arith

  -- ---- a placement gives two rows that agree, and two rows that agree give a placement

  -- the pose of a cell of some kind, from that in row 0 and that in row 1
  abbrev merge : Kind → A → A → A
  merge (one row₀) a b = a
  merge (one row₁) a b = b
  merge both a b = a

  abbrev join_rows : (ℕ → A) → (ℕ → A) → ℕ → A
  join_rows g₀ g₁ k = merge (J.kind k) (g₀ (place k (members J row₀))) (g₁ (place k (members J row₁)))

  module _ (w : (k : ℕ) (a : A) → In a (J.offers k) → 0 < J.wide k a) where
    abbrev StagesTo : ℕ → Type 0
    StagesTo = defs.StagesTo R site_of J w

    abbrev answer : Option ℕ
    answer = defs.answer R site_of J w

    wide-line : (s : Side) → Wide (line J s)
    wide-line s k a m = w (cell J s k) a m

    legal-agree : (f : ℕ → A) → LegalPair R site_of J f → Agreed (by f row₀) (by f row₁)
    legal-agree f p = record {
      row₀ = legal-placed f p row₀;
      row₁ = legal-placed f p row₁;
      shared = λ I h. ap f ((cell-pos J row₀ I h).0 ∙ sym (cell-pos J row₁ I h).0);
      keeps = keeps;
    }
      where
        strict : (j k : ℕ) → In j (members J row₀) → In k (members J row₀) → site_of (f j) ≤ site_of (f k)
            → Clear (site site_of J f) (width site_of J f) j k ⊎ Clear (site site_of J f) (width site_of J f) k j
            → site_of (f j) < site_of (f k)
        strict j k m q h (inl c) = let z = w j (f j) (p.offered j (members_in J row₀ m).0) in omega arith
        strict j k m q h (inr c) = absurd (let z = w k (f k) (p.offered k (members_in J row₀ q).0) in omega arith)

        keeps : (I K : ℕ) → I < K → K < tall_count J
            → site_of (f (cell J row₀ (pos J row₀ I))) < site_of (f (cell J row₀ (pos J row₀ K)))
        keeps I K h l =
            let i : I < tall_count J = omega arith in
            let a = cell-pos J row₀ I i in
            let b = cell-pos J row₀ K l in
            let j = at (tall_cells J) I in
            let k = at (tall_cells J) K in
            let tj = talls_in_lem J (at_in (tall_cells J) I i) in
            let tk = talls_in_lem J (at_in (tall_cells J) K l) in
            let r = talls-rising J I K h l in
            let mj = in_members J row₀ j tj.0 (tall_in_row J row₀ (J.kind j) tj.1) in
            let mk = in_members J row₀ k tk.0 (tall_in_row J row₀ (J.kind k) tk.1) in
            let z : site_of (f j) < site_of (f k) = strict j k mj mk (p.talls_in_order j k r tk.0 tj.1 tk.1)
            ((p.rows row₀).rule4 j k mj mk (λ e. omega arith)) in
            let ea = ap (λ x. site_of (f x)) a.0 in
            let eb = ap (λ x. site_of (f x)) b.0 in
            omega arith

    module _ (g₀ g₁ : ℕ → A) (agree : Agreed g₀ g₁) where
      is₀ : (p : ℕ) → p < length (members J row₀) → g₀ p ≡ join_rows g₀ g₁ (cell J row₀ p)
      is₀ p h = go (J.kind (cell J row₀ p)) (members_in J row₀ (at_in (members J row₀) p h)).1
        where
          here₀ : g₀ p ≡ g₀ (place (cell J row₀ p) (members J row₀))
          here₀ = ap g₀ (sym (place_at (members J row₀) p (members-distinct J row₀) h))

          go : (t : Kind) → in_row row₀ t ≡ true → g₀ p
              ≡ merge t (g₀ (place (cell J row₀ p) (members J row₀))) (g₁ (place (cell J row₀ p) (members J row₁)))
          go (one row₀) e = here₀
          go (one row₁) e = absurd (let y : ◌≡◌ {A = ℕ} 0 1 = cc in omega arith)
          go both e = here₀

      is₁ : (p : ℕ) → p < length (members J row₁) → g₁ p ≡ join_rows g₀ g₁ (cell J row₁ p)
      is₁ p h = go (J.kind (cell J row₁ p)) refl (members_in J row₁ (at_in (members J row₁) p h)).1
        where
          k : ℕ
          k = cell J row₁ p

          shared : is_tall (J.kind k) ≡ true → g₁ p ≡ g₀ (place k (members J row₀))
          shared e =
              let o = (line-talls J row₁).only p h e in
              let I = o.0 in
              let c : k ≡ at (tall_cells J) I = ap (cell J row₁) o.2 ∙ (cell-pos J row₁ I o.1).0 in
              ap g₁ o.2 ∙ sym (agree.shared I o.1) ∙ ap (λ x. g₀ (place x (members J row₀))) (sym c)

          go : (t : Kind) → J.kind k ≡ t → in_row row₁ t ≡ true
              → g₁ p ≡ merge t (g₀ (place k (members J row₀))) (g₁ (place k (members J row₁)))
          go (one row₀) z e = absurd (let y : ◌≡◌ {A = ℕ} 0 1 = cc in omega arith)
          go (one row₁) z e = ap g₁ (sym (place_at (members J row₁) p (members-distinct J row₁) h))
          go both z e = shared (ap is_tall z)

    -- a placement that has the poses of two rows that agree
    module _ (f g₀ g₁ : ℕ → A) (agree : Agreed g₀ g₁) (is₀ : (p : ℕ) → p < length (members J row₀) → g₀ p ≡ by f row₀ p)
        (is₁ : (p : ℕ) → p < length (members J row₁) → g₁ p ≡ by f row₁ p) where
      placed : (s : Side) → RowPlaced R site_of (line J s) (by f s)
      placed row₀ = (placed_same R site_of (line J row₀) (wide-line row₀) g₀ (by f row₀) is₀ agree.row₀).0
      placed row₁ = (placed_same R site_of (line J row₁) (wide-line row₁) g₁ (by f row₁) is₁ agree.row₁).0

      agree-total : total site_of J f ≡ row_total site_of (line J row₀) g₀ + row_total site_of (line J row₁) g₁
      agree-total =
          let a = (placed_same R site_of (line J row₀) (wide-line row₀) g₀ (by f row₀) is₀ agree.row₀).1 in
          let b = (placed_same R site_of (line J row₁) (wide-line row₁) g₁ (by f row₁) is₁ agree.row₁).1 in
          let c = total-rows f in
          omega arith

      agree-offered : (k : ℕ) → k < J.count → In (f k) (J.offers k)
      agree-offered k h = go (J.kind k) refl
        where
          from_row : (s : Side) → in_row s (J.kind k) ≡ true → In (f k) (J.offers k)
          from_row s e =
              let m = at_place (members J s) k (in_members J s k h e) in
              subst (λ x. In (f x) (J.offers x)) m.0 ((placed s).offered (place k (members J s)) m.1)

          go : (t : Kind) → J.kind k ≡ t → In (f k) (J.offers k)
          go (one row₀) z = from_row row₀ (ap (in_row row₀) z)
          go (one row₁) z = from_row row₁ (ap (in_row row₁) z)
          go both z = from_row row₀ (ap (in_row row₀) z)

      agree-order : (j k : ℕ) → j < k → k < J.count → is_tall (J.kind j) ≡ true → is_tall (J.kind k) ≡ true
          → site_of (f j) ≤ site_of (f k)
      agree-order j k l h tj tk = go (native.Mathlib.Decide.dec_lt I K)
        where
          I : ℕ
          I = place j (tall_cells J)

          K : ℕ
          K = place k (tall_cells J)

          mj : (at (tall_cells J) I ≡ j) × (I < tall_count J)
          mj = at_place (tall_cells J) j (in_talls J j (omega arith) tj)

          mk : (at (tall_cells J) K ≡ k) × (K < tall_count J)
          mk = at_place (tall_cells J) k (in_talls J k h tk)

          pose : (i I : ℕ) → (at (tall_cells J) I ≡ i) × (I < tall_count J) → site_of (g₀ (pos J row₀ I)) ≡ site_of (f i)
          pose i I m =
              ap site_of (is₀ (pos J row₀ I) (cell-pos J row₀ I m.1).1 ∙ ap f ((cell-pos J row₀ I m.1).0 ∙ m.0))

          wrong : Dec (I ≡ K) → ¬ (I < K) → ⊥
          wrong (yes e) n = let a = ap (at (tall_cells J)) e in omega (arith, mj.0, mk.0)
          wrong (no e) n = let a = talls-rising J K I (omega arith) mj.1 in omega (arith, mj.0, mk.0)

          go : Dec (I < K) → site_of (f j) ≤ site_of (f k)
          go (yes e) = let a = agree.keeps I K e mk.1 in let b = pose j I mj in let c = pose k K mk in omega arith
          go (no e) = absurd (wrong (native.Mathlib.Decide.ℕ_discrete I K) e)

      pub agree-legal : LegalPair R site_of J f
      agree-legal = record {
        offered = agree-offered;
        rows = λ s. positions_row R (site site_of J f) (width site_of J f) (members J s) (members-distinct J s)
            (placed s).legal;
        talls_in_order = agree-order;
        ended = λ s. (ends_positions f s).1 (placed s).ended;
      }

    -- ---- the theorem

    -- a legal placement is cut into stages that cost what it costs
    pub cut : (f : ℕ → A) → LegalPair R site_of J f → StagesTo (total site_of J f)
    cut f p =
        subst StagesTo (total-rows f)
        (agree_stages R site_of (line J row₀) (line J row₁) (pos J row₀) (pos J row₁) (tall_count J) (wide-line row₀)
        (wide-line row₁) (line-talls J row₀) (line-talls J row₁) (same-options J)
        (by f row₀) (by f row₁) (legal-agree f p))

    -- stages to the end join to a legal placement that costs what they cost
    pub join : A → (x : ℕ) → StagesTo x → (f : ℕ → A) × LegalPair R site_of J f × (total site_of J f ≡ x)
    join d x s =
        let r =
        stages_agree R site_of (line J row₀) (line J row₁) (pos J row₀) (pos J row₁) (tall_count J) (wide-line row₀)
        (wide-line row₁) (line-talls J row₀) (line-talls J row₁) (same-options J) d x s
        in
        let f = join_rows r.0 r.1 in
        let i₀ = is₀ r.0 r.1 r.2 in
        let i₁ = is₁ r.0 r.1 r.2 in
        (f, agree-legal f r.0 r.1 r.2 i₀ i₁, agree-total f r.0 r.1 r.2 i₀ i₁ ∙ r.3)

    -- what a trace owes: a path to the end of each row, the tall cells with the same poses in
    -- both, and a placement that has the paths' poses
    pub traced : A → (f : ℕ → A) (ps : List A) (x₀ x₁ : ℕ) → length ps ≡ tall_count J
        → (u₀ : Upto R site_of (line J row₀) (last R site_of (line J row₀)) (picks (pos J row₀) 0 ps) x₀)
        → along (by f row₀) (cells u₀.path) ≡ u₀.path
        → (u₁ : Upto R site_of (line J row₁) (last R site_of (line J row₁)) (picks (pos J row₁) 0 ps) x₁)
        → along (by f row₁) (cells u₁.path) ≡ u₁.path
        → LegalPair R site_of J f × (total site_of J f ≡ x₀ + x₁)
    traced d f ps x₀ x₁ s u₀ b₀ u₁ b₁ =
        let r =
        paths-agree R site_of (line J row₀) (line J row₁) (pos J row₀) (pos J row₁) (tall_count J) (wide-line row₀)
        (wide-line row₁) (line-talls J row₀) (line-talls J row₁) (same-options J)
        d (by f row₀) (by f row₁) ps x₀ x₁ s u₀ b₀ u₁ b₁
        in (
          agree-legal f (by f row₀) (by f row₁) r.0 (λ p h. refl) (λ p h. refl),
          agree-total f (by f row₀) (by f row₁) r.0 (λ p h. refl) (λ p h. refl) ∙ r.1,
        )

    -- no legal placement is cheaper than the answer
    pub answer-below : (f : ℕ → A) → LegalPair R site_of J f → answer ⊑ total site_of J f
    answer-below f p =
        table_below R site_of (line J row₀) (line J row₁) (pos J row₀) (pos J row₁) (tall_count J)
        (ending R site_of (line J row₀) (line J row₁) (pos J row₀) (pos J row₁)) (total site_of J f) (cut f p)

    -- if there is an answer, some legal placement costs just that
    pub answer-met : A → (x : ℕ) → answer ≡ some x → (f : ℕ → A) × LegalPair R site_of J f × (total site_of J f ≡ x)
    answer-met d x e =
        join d x
        (table-met R site_of (line J row₀) (line J row₁) (pos J row₀) (pos J row₁) (tall_count J)
        (ending R site_of (line J row₀) (line J row₁) (pos J row₀) (pos J row₁)) x e)

    -- there is no answer just if no placement is legal
    pub answer-none : A → (answer ≡ none) ↔ ((f : ℕ → A) → ¬ LegalPair R site_of J f)
    answer-none d = (λ e f p. subst (λ o. o ⊑ total site_of J f) e (answer-below f p), λ n. go answer refl n)
      where
        go : (o : Option ℕ) → answer ≡ o → ((f : ℕ → A) → ¬ LegalPair R site_of J f) → answer ≡ none
        go none e n = e
        go (some x) e n = absurd (let r = answer-met d x e in n r.0 r.1)
