-- Of a legal placement each row that holds a cell can be filled. From left to right its cells do not overlap (rule 4),
-- the last ends inside (rule 2), and nowhere is just one site empty (rules 5 and 8); so each gap is the difference of
-- two sites, and cells and gaps add up to all of them.
use Rattle.std.specs.Prelude.{ℕ, ◌+◌, ◌-◌, ◌≤◌, ◌<◌, ◌≡◌, refl, ◌≢◌, ◌⊎◌, true, not, length}
use Rattle.std.proofs.Common.{sym, ◌∙◌, subst, inl, inr}
use Rattle.std.proofs.Math.Path.{ap}
use mathlib.Core.List.Memᴰ.{head as here}
use mathlib.Core.List.Memᴰ.{tail as there}
use mathlib.Core.List.{List, [], ◌∷◌, Memᴰ as In}
use native.Mathlib.Omega.{arith}
use borrow.Author.Tests.{ne_eqb, eqb-false}
use Rattle.definition.specs.Lists.{all, sum}
use Rattle.definition.specs.Job.{Job}
use Rattle.definition.specs.Placement.{Placement}
use Rattle.definition.specs.Rules.{pose_at, site_at, layout_at, end_at, forbidden_gap, gap_before, gap_after}
use Rattle.definition.specs.Rules.{row_cells, order, Legal}
use Rattle.definition.specs.Gaps.{gaps_from, is_closable, Fillable}
use Rattle.definition_laws.specs.Sound.{Sound}
use Rattle.definition_laws.specs.Gaps.{closable-same}
use Rattle.lists.specs.Neighbours.{Next, Chain}
use Rattle.theory_row.specs.Order.{sort, Rising}
use Rattle.theory_row.proofs.Order.{sort-size, sort_in, sort-rising}
use Rattle.theory_row.specs.Rules.{Clear, NoGapOne}
use Rattle.theory_row.proofs.Row.{all_pairs}
use Rattle.theory_pair.specs.Ends.{Ended, last_from}
use Rattle.theory_pair.proofs.Lines.{members-distinct}
use Rattle.theory_pair.specs.Cells.{Side, members, site, width, row_order, LegalPair}
use Rattle.theory_bridge.specs.Paired.{row_of, site_of, width_of, offers_of, opens_of, closes_of, pair_job}
use Rattle.theory_bridge.proofs.Tests.{and-true}
use Rattle.theory_bridge.proofs.Offers.{offered_allowed, wide_positive}
use Rattle.theory_bridge.proofs.Row.{members-same, member, order_same}
use Rattle.theory_bridge.proofs.RowEnds.{end_allowed_lem}
use Rattle.theory_bridge.proofs.Legal.{legal-pair}

-- x is not right of y, and not just one site is empty between them
abbrev Spaced : ℕ → ℕ → Type 0
Spaced x y = (x ≤ y) × (y ≢ x + forbidden_gap)

spaced_closable : (x y : ℕ) → Spaced x y → is_closable (y - x) ≡ true
spaced_closable x y g =
    let d : y - x ≢ forbidden_gap = λ e. g.1 (let h = g.0 in omega arith) in
    closable-same (y - x) ∙ ap not (ne_eqb (y - x) forbidden_gap d)

module _ (j : Job) (P : Placement) where
  -- from a site on, some cells and the row's end are spaced
  abbrev SpacedFrom : ℕ → List ℕ → Type 0
  SpacedFrom at [] = Spaced at j.header.sites
  SpacedFrom at (k ∷ l) = Spaced at (site_at P k) × SpacedFrom (end_at j P k) l

  all-closable : (at : ℕ) (l : List ℕ) → SpacedFrom at l → all is_closable (gaps_from j P at l) ≡ true
  all-closable at [] g =
      (and-true (is_closable (j.header.sites - at)) true).1 (spaced_closable at j.header.sites g, refl)
  all-closable at (k ∷ l) g =
      (and-true (is_closable (site_at P k - at)) (all is_closable (gaps_from j P (end_at j P k) l))).1
      (spaced_closable at (site_at P k) g.0, all-closable (end_at j P k) l g.1)

  all-sites : (at : ℕ) (l : List ℕ) → SpacedFrom at l
      → sum (λ k. (layout_at j P k).width) l + sum (λ gap. gap) (gaps_from j P at l) + at ≡ j.header.sites
  all-sites at [] g = let h = g.0 in omega arith
  all-sites at (k ∷ l) g = let h = g.0.0 in let r = all-sites (end_at j P k) l g.1 in omega arith

  spaced_fillable : (row : ℕ) → SpacedFrom 0 (order j P row) → Fillable j P row
  spaced_fillable row g = record {
    closable = all-closable 0 (order j P row) g;
    whole = let r = all-sites 0 (order j P row) g in omega arith;
  }

-- a list is empty if its sort is
sort-empty : (f : ℕ → ℕ) (l : List ℕ) → sort f l ≡ [] → l ≡ []
sort-empty f [] e = refl
sort-empty f (x ∷ l) e = absurd (let a = sort-size f (x ∷ l) in let b = ap length e in omega arith)

-- ---- a row of a legal placement

module _ (j : Job) (sound : Sound j) (P : Placement) (legal : Legal j P) (s : Side) where
  abbrev S : ℕ → ℕ
  S = site site_of (pair_job j) (pose_at P)

  abbrev W : ℕ → ℕ
  W = width site_of (pair_job j) (pose_at P)

  abbrev cells : List ℕ
  cells = members (pair_job j) s

  pair : LegalPair j.header.reordering site_of (pair_job j) (pose_at P)
  pair = (legal-pair j sound P (pose_at P) (λ k h. refl) legal.each).0 legal

  offered : (k : ℕ) → In k cells → In (pose_at P k) (offers_of j k)
  offered k m = pair.offered k ((member j sound s k).0 m).0

  rising : Rising S (sort S cells)
  rising =
      sort-rising S cells
      (all_pairs (λ a b. S a ≢ S b) cells
      (members-distinct (pair_job j) s)
      (λ a b m n d e. go a b m n e ((pair.rows s).rule4 a b m n d)))
    where
      go : (a b : ℕ) → In a cells → In b cells → S a ≡ S b → Clear S W a b ⊎ Clear S W b a → ⊥
      go a b m n e (inl c) = let w = wide_positive j sound a (pose_at P a) (offered a m) in omega arith
      go a b m n e (inr c) = let w = wide_positive j sound b (pose_at P b) (offered b n) in omega arith

  -- right of cell a
  spaced_next : (a : ℕ) (l : List ℕ) → ((k : ℕ) → In k (a ∷ l) → In k cells) → Rising S (a ∷ l)
      → Next (NoGapOne S W) a l → closes_of j (last_from a l) (pose_at P (last_from a l)) ≡ true
      → SpacedFrom j P (end_at j P a) l
  unfolding width_of
  spaced_next a [] i r c z =
      let h = ((offered_allowed j sound a (pose_at P a)).0 (offered a (i a (here refl)))).fits in
      let d = eqb-false (gap_after j P a) forbidden_gap ((end_allowed_lem (gap_after j P a)).0 z) in
      (h, λ e. d (omega arith))
  spaced_next a (b ∷ l) i r c z =
      let h = r.0 b (here refl) in
      let d : a ≢ b = λ e. let x = ap S e in omega arith in (
        (clear h ((pair.rows s).rule4 a b (i a (here refl)) (i b (there (here refl))) d), c.0),
        spaced_next b l (λ k m. i k (there m)) r.1 c.1 z,
      )
    where
      clear : S a < S b → Clear S W a b ⊎ Clear S W b a → end_at j P a ≤ site_at P b
      clear h (inl x) = x
      clear h (inr x) = absurd (omega arith)

  -- from the row's start
  spaced_row : (l : List ℕ) → l ≢ [] → ((k : ℕ) → In k l → In k cells) → Rising S l → Chain (NoGapOne S W) l
      → Ended (λ k. opens_of j k (pose_at P k)) (λ k. closes_of j k (pose_at P k)) l → SpacedFrom j P 0 l
  spaced_row [] n i r c z = absurd (n refl)
  spaced_row (a ∷ l) n i r c z =
      let d = eqb-false (gap_before P a) forbidden_gap ((end_allowed_lem (gap_before P a)).0 z.0) in
      ((omega arith, d), spaced_next a l i r c z.1)

  pub legal_fillable : ¬ (row_cells j (row_of s) ≡ []) → Fillable j P (row_of s)
  legal_fillable n =
      spaced_fillable j P (row_of s)
      (subst (SpacedFrom j P 0) (sym (order_same j sound P (pose_at P) (λ k h. refl) s))
      (spaced_row (row_order site_of (pair_job j) (pose_at P) s)
      (λ e. n (members-same j sound s ∙ sort-empty S cells e)) (λ k m. sort_in S cells m)
      rising (pair.rows s).rule5 (pair.ended s)))
