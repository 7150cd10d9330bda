-- Rules 4 to 6, tested cell by cell in the definitions, and stated of each row in the
-- pair's theory: the same. f gives the poses of P.
use Rattle.std.specs.Prelude.{◌≡◌, refl, ◌≢◌, ◌↔◌, ◌⊎◌, true, false, ◌&&◌, ◌||◌, length, leb, ltb, eqb}
use Rattle.std.proofs.Common.{sym, ◌∙◌, subst, inl, inr, arith, leb-true, le-leb, ltb-false, ltb-true, le-ltb, eq-eqb, ne_eqb}
use Rattle.std.proofs.Math.Path.{ap}
use Rattle.std.proofs.Math.Bool.{Bool, not}
use mathlib.Core.List.Memᴰ.{head as here}
use mathlib.Core.List.Memᴰ.{tail as there}
use mathlib.Core.List.{List, [], ◌∷◌, Memᴰ as In}
use Prim.Native.Nat.{ℕ, suc, ◌+◌, ◌≤◌, ◌<◌}
use Rattle.std.proofs.lemmas.Bool.{eqb-false, not-true}
use Rattle.definition.specs.Lists.{any_next}
use Rattle.definition.specs.Job.{Job, share_row, in_row}
use Rattle.definition.specs.Placement.{Pose, Placement}
use Rattle.definition.specs.Rules.{Holds, cell_at, site_at, end_at, cells_of, row_cells, apart, order}
use Rattle.definition.specs.Rules.{gap, forbidden_gap, is_forbidden, overlap}
use Rattle.definition.specs.Rules.{breaks4, breaks5, breaks6, beside_one_site, out_of_place, place_in}
use Rattle.definition_laws.specs.Sound.{Sound}
use Rattle.lists.specs.Compare.{Le?, high, le?}
use Rattle.lists.specs.Neighbours.{Chain}
use Rattle.theory_row.specs.Order.{place}
use Rattle.theory_row.specs.Rules.{Clear, NoGapOne}
use Rattle.theory_pair.specs.Cells.{Side, members, site, width, row_order}
use Rattle.theory_bridge.specs.Paired.{row_of, site_of, width_of, layout_of, pair_job}
use Rattle.theory_bridge.proofs.Tests.{and-true, and-false, or-false, not-false, any_false, any-row, some-row}
use Rattle.theory_bridge.specs.Words.{place_same}
use Rattle.theory_bridge.proofs.Row.{Gives, in_cells, members-same, member, order_same, ordered-below}

-- ---- a test of neighbours that each of the two fails, and a statement of neighbours

module _ (t : ℕ → ℕ → Bool) (Q : ℕ → ℕ → Type 0) where
  abbrev beside : ℕ → ℕ → ℕ → Bool
  beside k a b = (eqb k a || eqb k b) && t a b

  test-chain : (l : List ℕ) → ((a b : ℕ) → In a l → In b l → t a b ≡ false → Q a b)
      → ((k : ℕ) → In k l → any_next (beside k) l ≡ false) → Chain Q l
  test-chain [] q h = tt
  test-chain (a ∷ []) q h = tt
  test-chain (a ∷ b ∷ l) q h =
      let z = (or-false (beside a a b) (any_next (beside a) (b ∷ l))).0 (h a (here refl)) in
      let m : (eqb a a || eqb a b) ≡ true = ap (λ x. x || eqb a b) (eq-eqb a a refl) in (
        q a b (here refl) (there (here refl)) ((and-false (eqb a a || eqb a b) (t a b)).0 z.0 m),
        test-chain (b ∷ l) (λ x y m n. q x y (there m) (there n))
            (λ k m. ((or-false (beside k a b) (any_next (beside k) (b ∷ l))).0 (h k (there m))).1),
      )

  chain-test : (l : List ℕ) → ((a b : ℕ) → In a l → In b l → Q a b → t a b ≡ false) → Chain Q l → (k : ℕ)
      → any_next (beside k) l ≡ false
  chain-test [] q h k = refl
  chain-test (a ∷ []) q h k = refl
  chain-test (a ∷ b ∷ l) q h k =
      (or-false (beside k a b) (any_next (beside k) (b ∷ l))).1 (
        (and-false (eqb k a || eqb k b) (t a b)).1 (λ e. q a b (here refl) (there (here refl)) h.0),
        chain-test (b ∷ l) (λ x y m n. q x y (there m) (there n)) h.1 k,
      )

module _ (j : Job) (sound : Sound j) (P : Placement) (f : ℕ → Pose) (g : Gives P (length j.cells) f) where
  abbrev n : ℕ
  n = length j.cells

  abbrev S : ℕ → ℕ
  S = site site_of (pair_job j) f

  abbrev W : ℕ → ℕ
  W = width site_of (pair_job j) f

  site-at : (k : ℕ) → k < n → site_at P k ≡ S k
  site-at k h = ap site_of (g k h)

  end-at : (k : ℕ) → k < n → end_at j P k ≡ S k + W k
  unfolding width_of
  end-at k h = ap (λ p. p.site + (layout_of j k p).width) (g k h)

  -- ---- rule 4

  abbrev pub Apart : Type 0
  Apart = (s : Side) (a b : ℕ) → In a (members (pair_job j) s) → In b (members (pair_job j) s) → a ≢ b
      → Clear S W a b ⊎ Clear S W b a

  abbrev together : ℕ → ℕ → Bool
  together a b = share_row (cell_at j a) (cell_at j b)

  overlap-apart : (a b : ℕ) → a < n → b < n → together a b ≡ true → overlap j P a b ≡ false
      → Clear S W a b ⊎ Clear S W b a
  overlap-apart a b p q e o = go (ltb (site_at P a) (end_at j P b)) (le? (suc (site_at P a)) (end_at j P b)) o
    where
      go : (t : Bool) → Le? (suc (site_at P a)) (end_at j P b) t
          → (together a b && t && ltb (site_at P b) (end_at j P a)) ≡ false → Clear S W a b ⊎ Clear S W b a
      go false (high h) z = inr (let x = site-at a p in let y = end-at b q in omega arith)
      go true v z =
          let l = ltb-false (site_at P b) (end_at j P a) ((and-false (together a b
          && true) (ltb (site_at P b) (end_at j P a))).0 z ((and-true (together a b) true).1 (e, refl))) in
          inl (let x = site-at b q in let y = end-at a p in omega arith)

  apart-overlap : (a b : ℕ) → a < n → b < n → (together a b ≡ true → Clear S W a b ⊎ Clear S W b a)
      → overlap j P a b ≡ false
  apart-overlap a b p q c =
      (and-false (together a b && ltb (site_at P a) (end_at j P b)) (ltb (site_at P b) (end_at j P a))).1
      (λ e. let z = (and-true (together a b) (ltb (site_at P a) (end_at j P b))).0 e in
      go (ltb-true (site_at P a) (end_at j P b) z.1) (c z.0))
    where
      go : site_at P a < end_at j P b → Clear S W a b ⊎ Clear S W b a → ltb (site_at P b) (end_at j P a) ≡ false
      go l (inl h) = le-ltb (site_at P b) (end_at j P a) (let x = site-at b q in let y = end-at a p in omega arith)
      go l (inr h) = absurd (let x = site-at a p in let y = end-at b q in omega arith)

  pub rule4-same : Holds j (breaks4 j P) ↔ Apart
  unfolding breaks4
  rule4-same = (to, back)
    where
      test : ℕ → ℕ → Bool
      test k b = not (eqb b k) && overlap j P k b

      rowed : ℕ → ℕ → ℕ → Bool
      rowed a b row = in_row row (cell_at j a) && in_row row (cell_at j b)

      to : Holds j (breaks4 j P) → Apart
      to h s a b ma mb d =
          let p = (member j sound s a).0 ma in
          let q = (member j sound s b).0 mb in
          let z = (any_false (test a) (cells_of j)).0 (h a p.0) b ((in_cells j sound b).1 q.0) in
          overlap-apart a b p.0 q.0
          ((some-row (rowed a b)).1
          (s, (and-true (in_row (row_of s) (cell_at j a)) (in_row (row_of s) (cell_at j b))).1 (p.1, q.1)))
          ((and-false (not (eqb b a)) (overlap j P a b)).0 z (ap not (ne_eqb b a (λ e. d (sym e)))))

      back : Apart → Holds j (breaks4 j P)
      back c k h = (any_false (test k) (cells_of j)).1 (λ b m. (and-false (not (eqb b k)) (overlap j P k b)).1
          (λ e. apart-overlap k b h ((in_cells j sound b).0 m) (both b ((in_cells j sound b).0 m) e)))
        where
          both : (b : ℕ) → b < n → not (eqb b k) ≡ true → together k b ≡ true → Clear S W k b ⊎ Clear S W b k
          both b l e t =
              let r = (some-row (rowed k b)).0 t in
              let i = (and-true (in_row (row_of r.0) (cell_at j k)) (in_row (row_of r.0) (cell_at j b))).0 r.1 in
              c r.0 k b ((member j sound r.0 k).1 (h, i.0)) ((member j sound r.0 b).1 (l, i.1))
              (λ q. eqb-false b k (not-true (eqb b k) e) (sym q))

  -- ---- rule 5

  abbrev pub Gapped : Type 0
  Gapped = (s : Side) → Chain (NoGapOne S W) (row_order site_of (pair_job j) f s)

  pub rule5-same : Holds j (breaks5 j P) ↔ Gapped
  unfolding breaks5 beside_one_site
  rule5-same = (to, back)
    where
      one : ℕ → ℕ → Bool
      one a b = is_forbidden (gap j P a b)

      none_is : (s : Side) (a b : ℕ) → In a (order j P (row_of s)) → In b (order j P (row_of s)) → one a b ≡ false
          → NoGapOne S W a b
      none_is s a b ma mb e q =
          let x = end-at a (ordered-below j sound P f g s a ma) in
          let y = site-at b (ordered-below j sound P f g s b mb) in
          eqb-false (gap j P a b) forbidden_gap e (omega arith)

      is_none : (s : Side) (a b : ℕ) → In a (order j P (row_of s)) → In b (order j P (row_of s)) → NoGapOne S W a b
          → one a b ≡ false
      is_none s a b ma mb d =
          let x = end-at a (ordered-below j sound P f g s a ma) in
          let y = site-at b (ordered-below j sound P f g s b mb) in
          ne_eqb (gap j P a b) forbidden_gap (λ e. d (omega arith))

      to : Holds j (breaks5 j P) → Gapped
      to h s =
          subst (Chain (NoGapOne S W)) (order_same j sound P f g s)
          (test-chain one (NoGapOne S W) (order j P (row_of s)) (none_is s)
          (λ k m. (any-row (λ row. beside_one_site j P row k)).0 (h k (ordered-below j sound P f g s k m)) s))

      back : Gapped → Holds j (breaks5 j P)
      back c k h =
          (any-row (λ row. beside_one_site j P row k)).1
          (λ s. chain-test one (NoGapOne S W) (order j P (row_of s)) (is_none s)
          (subst (Chain (NoGapOne S W)) (sym (order_same j sound P f g s)) (c s)) k)

  -- ---- rule 6

  abbrev pub Near : Side → ℕ → Type 0
  Near s k =
      (place k (row_order site_of (pair_job j) f s) ≤ place k (members (pair_job j) s) + j.header.reordering)
      × (place k (members (pair_job j) s) ≤ place k (row_order site_of (pair_job j) f s) + j.header.reordering)

  pub rule6-same : Holds j (breaks6 j P) ↔ ((s : Side) (k : ℕ) → In k (members (pair_job j) s) → Near s k)
  unfolding breaks6 out_of_place
  rule6-same = (to, back)
    where
      off : Side → ℕ → ℕ
      off s k = apart (place_in k (order j P (row_of s))) (place_in k (row_cells j (row_of s)))

      close : Side → ℕ → Bool
      close s k = leb (off s k) j.header.reordering

      from-left : (s : Side) (k : ℕ) → place_in k (order j P (row_of s)) ≡ place k (row_order site_of (pair_job j) f s)
      from-left s k = place_same k (order j P (row_of s)) ∙ ap (place k) (order_same j sound P f g s)

      in_file : (s : Side) (k : ℕ) → place_in k (row_cells j (row_of s)) ≡ place k (members (pair_job j) s)
      in_file s k = place_same k (row_cells j (row_of s)) ∙ ap (place k) (members-same j sound s)

      to : Holds j (breaks6 j P) → (s : Side) (k : ℕ) → In k (members (pair_job j) s) → Near s k
      to h s k m =
          let p = (member j sound s k).0 m in
          let z = (and-false (in_row (row_of s) (cell_at j k)) (not (close s k))).0
          ((any-row (λ row. out_of_place j P row k)).0 (h k p.0) s) p.1 in
          let l = leb-true (off s k) j.header.reordering ((not-false (close s k)).0 z) in
          let x = from-left s k in
          let y = in_file s k in
          omega arith

      back : ((s : Side) (k : ℕ) → In k (members (pair_job j) s) → Near s k) → Holds j (breaks6 j P)
      back c k h =
          (any-row (λ row. out_of_place j P row k)).1
          (λ s. (and-false (in_row (row_of s) (cell_at j k)) (not (close s k))).1
          (λ e. (not-false (close s k)).1 (le-leb (off s k) j.header.reordering
          (let z = c s k ((member j sound s k).1 (h, e)) in let x = from-left s k in
          let y = in_file s k in omega arith))))
