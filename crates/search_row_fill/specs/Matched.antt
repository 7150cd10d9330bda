-- A row's words stand for the row of the pair theory: what a cell costs, and what two neighbours pay and the cells at
-- the row's ends. Sites are compared with D added to both.
use Prim.Native.Nat.{ℕ, zero, suc, ◌+◌, ◌-◌, ◌*◌, ◌≤◌, ◌<◌}
use Rattle.std.specs.Prelude.{◌≡◌, refl, ◌≢◌, ◌↔◌, Bool, not, ◌&&◌, List, length, ltb}
use Rattle.std.proofs.Math.Path.{sym, ap, ap₂}
use Rattle.std.proofs.Common.{◌∙◌, le-ltb, eq-eqb, ne_eqb}
use Rattle.std.proofs.Math.Bool.{true, false, cond}
use Rattle.std.proofs.Math.Nat.{mul_left_comm}
use native.Mathlib.Omega.{arith}
use Rattle.std.proofs.Math.Decide.{ℕ_discrete}
use Rattle.std.proofs.Math.Dec.{eqb}
use Rattle.definition.specs.Job.{Job}
use Rattle.definition.specs.Job as job
use Rattle.definition.specs.Rules.{cell_at, forbidden_gap, is_forbidden}
use Rattle.definition.specs.Cost.{charge}
use Rattle.definition_laws.specs.Sound.{Sound}
use Rattle.definition_laws.specs.Offers.{limit-within}
use Rattle.lists.specs.Compare.{Eq?, same, differs, eq?, Le?, high, le?}
use Rattle.theory_pair.specs.Cells.{Side, row₀, row₁, own_in, members, cell, line}
use Rattle.theory_pair.specs.Members.{at_in}
use Rattle.theory_tables.specs.Steps.{B}
use Rattle.theory_tables.specs.Matched.{Matched}
use Rattle.theory_bridge.specs.Paired.{kind_of, row_of, site_of, pose_numbers, pose_number, is_offered}
use Rattle.theory_bridge.specs.Paired.{offers_of, width_of, own_of, differing_of, weight_at, pay_of, end_allowed, pair_job}
use Rattle.theory_bridge.proofs.Row.{is_tall-same, member}
use Rattle.search_store.specs.Map.{max_poses}
use Rattle.search_row.specs.Words.{word_of, site_in, end_in, differ_in, weight_in, toll_at, toll_in}
use Rattle.search_row.specs.Words.{front_in, back_in, end_toll, deck_of, RowWords}
use Rattle.search_row.specs.Words.{front_barred, back_barred}
use Rattle.search_row.specs.Laws.{end-barred, end-free}
use Rattle.search_row_fill.specs.Words.{own_word}
use Rattle.theory_bridge.proofs.Offers.{offered-low}
use Rattle.search_row_fill.specs.Cell.{CellWords}

-- the words are those of the row's cells, in file order, and there are so many
pub record RowCells (j : Job) (s : Side) (l : List ℕ) (n : ℕ) : Type 0 where
  pub size : n ≡ length (members (pair_job j) s)
  pub cells : (p : ℕ) → p < n → CellWords j (row_of s) (cell (pair_job j) s p) (word_of l p)
  pub words : RowWords l

-- ---- what a cell costs

own-counts : (s : Side) (r x : ℕ) → r ≤ 2 → cond (eqb r 2 && eqb (row_of s) 1) 0 x ≡ own_in s (kind_of r) x
own-counts row₀ zero x h = refl
own-counts row₁ zero x h = refl
own-counts row₀ (suc zero) x h = refl
own-counts row₁ (suc zero) x h = refl
own-counts row₀ (suc (suc zero)) x h = refl
own-counts row₁ (suc (suc zero)) x h = refl
own-counts s (suc (suc (suc r))) x h = absurd (omega arith)

one-true : (t : Bool) → eqb (cond t 1 0) 1 ≡ t
one-true true = refl
one-true false = refl

-- ---- what two neighbours pay

toll-pays : (x y : ℕ) (pay : ℕ → ℕ) → y ≤ x → x - y ≢ forbidden_gap → toll_at x y pay ≡ charge (x - y) * pay (x - y)
toll-pays x y pay h d = rw (le-ltb x y h, ne_eqb (x - y) forbidden_gap d)

toll-barred : (x y : ℕ) (pay : ℕ → ℕ) → (y ≤ x → x - y ≡ forbidden_gap) → toll_at x y pay ≡ B
toll-barred x y pay f = go (ltb x y) (le? (suc x) y)
  where
    go : (t : Bool) → Le? (suc x) y t → cond t B (cond (is_forbidden (x - y)) B (charge (x - y) * pay (x - y))) ≡ B
    go true h = refl
    go false (high h) = rw (eq-eqb (x - y) forbidden_gap (f (omega arith)))

module _ (j : Job) (s : Side) (l : List ℕ) (k m : ℕ) (b a : ℕ) (K M : ℕ) (w : CellWords j (row_of s) K (word_of l k))
    (v : CellWords j (row_of s) M (word_of l m)) where
  differ_same : differ_in l k b m a ≡ differing_of j (row_of s) (K, pose_number j K b) (M, pose_number j M a)
  unfolding differing_of
  differ_same = rw (w.right_p b, w.right_n b, v.left_p a, v.left_n a) (omega arith)

  weight-same : (gap : ℕ) → weight_in l m gap ≡ weight_at j gap
  weight-same gap = ap₂ (cond (eqb gap 0)) v.weight v.filled

  -- sites with D added to both, where both poses are offered
  abbrev gap_to : ℕ
  gap_to = (pose_number j M a).site - ((pose_number j K b).site + width_of j K (pose_number j K b))

  sites : is_offered j K b ≡ true → is_offered j M a ≡ true
      → (site_in l m a ≡ (pose_number j M a).site + j.header.displacement)
      × (end_in l k b ≡ (pose_number j K b).site + width_of j K (pose_number j K b) + j.header.displacement)
  unfolding pose_number
  sites p q =
      let x = offered-low j K b p in
      let y = offered-low j M a q in
      let e = w.first in
      let f = v.first in
      let g = w.width b in
      let near = limit-within j.header (cell_at j K) in
      let next = limit-within j.header (cell_at j M) in
      (omega arith, omega arith)

  pays : is_offered j K b ≡ true → is_offered j M a ≡ true
      → (pose_number j K b).site + width_of j K (pose_number j K b) ≤ (pose_number j M a).site
      → (pose_number j M a).site ≢ (pose_number j K b).site + width_of j K (pose_number j K b) + 1
      → toll_in l k b m a ≡ pay_of j s (K, pose_number j K b) (M, pose_number j M a)
  unfolding toll_in pay_of
  pays p q h d =
      let z = sites p q in
      let g : site_in l m a - end_in l k b ≡ gap_to = rw (z.0, z.1) (omega arith) in
      toll-pays (site_in l m a) (end_in l k b) (λ gap. weight_in l m gap * differ_in l k b m a)
      (rw (z.0, z.1) (omega arith)) (λ e. d (omega (arith, sym g ∙ e)))
      ∙ ap₂ (λ x y. charge x * y) g
      (ap₂ ◌*◌ (weight-same (site_in l m a - end_in l k b) ∙ ap (weight_at j) g) differ_same)
      ∙ mul_left_comm (charge gap_to) (weight_at j gap_to)
      (differing_of j (row_of s) (K, pose_number j K b) (M, pose_number j M a))

  barred : is_offered j K b ≡ true → is_offered j M a ≡ true
      → ¬ (((pose_number j K b).site + width_of j K (pose_number j K b) ≤ (pose_number j M a).site)
      × ((pose_number j M a).site ≢ (pose_number j K b).site + width_of j K (pose_number j K b) + 1))
      → toll_in l k b m a ≡ B
  unfolding toll_in
  barred p q n =
      let z = sites p q in
      toll-barred (site_in l m a) (end_in l k b) (λ gap. weight_in l m gap * differ_in l k b m a)
      (λ h. near (site_in l m a) (end_in l k b) z.0 z.1 h)
    where
      near : (x y : ℕ) → x ≡ (pose_number j M a).site + j.header.displacement
          → y ≡ (pose_number j K b).site + width_of j K (pose_number j K b) + j.header.displacement → y ≤ x
          → x - y ≡ forbidden_gap
      near x y e f h = go (ℕ_discrete (x - y) forbidden_gap)
        where
          go : Dec (x - y ≡ forbidden_gap) → x - y ≡ forbidden_gap
          go (yes r) = r
          go (no r) = absurd (n (omega arith, λ u. r (omega arith)))

-- ---- the row

module _ (j : Job) (sound : Sound j) (s : Side) (l : List ℕ) (n : ℕ) (w : RowCells j s l n) where
  -- the cells are cells of the job
  inside : (p : ℕ) → p < length (members (pair_job j) s) → cell (pair_job j) s p < length j.cells
  inside p h = ((member j sound s (cell (pair_job j) s p)).0 (at_in (members (pair_job j) s) p h)).0

  row_low : (p : ℕ) → p < length (members (pair_job j) s) → (cell_at j (cell (pair_job j) s p)).row ≤ 2
  row_low p h = go (eqb j.header.rows 2) (sound.cell (cell (pair_job j) s p) (inside p h)).row
    where
      go : (t : Bool) → (cell_at j (cell (pair_job j) s p)).row ≤ cond t 2 0 → (cell_at j (cell (pair_job j) s p)).row ≤ 2
      go true h = h
      go false h = omega arith

  words-at : (p : ℕ) → p < length (members (pair_job j) s) → CellWords j (row_of s) (cell (pair_job j) s p) (word_of l p)
  words-at p h = w.cells p (let e = w.size in omega arith)

  pub few-poses : pose_numbers j ≤ max_poses
  few-poses = let d = sound.header.displacement in omega arith

  own_same : (p a : ℕ) → p < length (members (pair_job j) s) → a < pose_numbers j
      → word_of l p a ≡ cond (is_offered j (cell (pair_job j) s p) a)
      ((line (pair_job j) s).own p (pose_number j (cell (pair_job j) s p) a)) B
  unfolding own_word
  own_same p a h g =
      (words-at p h).own a (let f = few-poses in omega arith)
      ∙ ap (λ x. cond (is_offered j (cell (pair_job j) s p) a) x B) (own-counts s (cell_at j (cell (pair_job j) s p)).row
      (own_of j (cell (pair_job j) s p) (pose_number j (cell (pair_job j) s p) a)) (row_low p h))

  -- the row's ends: a cell pays nothing there, where it may stand. Sites and ends have D added, as the words have
  end-toll : (x y gap : ℕ) → (x ≡ y) ↔ (gap ≡ forbidden_gap) → end_toll x y ≡ cond (end_allowed gap) 0 B
  unfolding end_allowed
  end-toll x y gap e = go (is_forbidden gap) (eq? gap forbidden_gap)
    where
      go : (t : Bool) → Eq? gap forbidden_gap t → end_toll x y ≡ cond (not t) 0 B
      go true (same h) = sym (end-barred x y (e.1 h))
      go false (differs d) = sym (end-free x y (λ h. d (e.0 h)))

  module _ (p a : ℕ) (h : p < length (members (pair_job j) s)) (o : is_offered j (cell (pair_job j) s p) a ≡ true) where
    abbrev k : ℕ
    k = cell (pair_job j) s p

    front_same : front_in l p a ≡ cond ((line (pair_job j) s).opens p (pose_number j k a)) 0 B
    unfolding front_in pose_number
    front_same =
        let v = words-at p h in
        let low = offered-low j k a o in
        let within = limit-within j.header (cell_at j k) in
        end-toll (site_in l p a) (word_of l p front_barred) (pose_number j k a).site
        (λ e. omega (arith, v.first, v.front), λ e. omega (arith, v.first, v.front))

    back-same : back_in l p a ≡ cond ((line (pair_job j) s).closes p (pose_number j k a)) 0 B
    unfolding back_in pose_number
    back-same =
        let v = words-at p h in
        let low = offered-low j k a o in
        let within = limit-within j.header (cell_at j k) in
        let some = sound.header.some_sites in
        end-toll (end_in l p a) (word_of l p back_barred)
        (j.header.sites - ((pose_number j k a).site + width_of j k (pose_number j k a)))
        (λ e. omega (arith, v.first, v.width a, v.back), λ e. omega (arith, v.first, v.width a, v.back))

  pub matched : Matched site_of (line (pair_job j) s) (deck_of l n (pose_numbers j))
      (λ p a. pose_number j (cell (pair_job j) s p) a) (λ p a. is_offered j (cell (pair_job j) s p) a)
  unfolding offers_of
  matched = record {
    size = w.size;
    options = λ p h. refl;
    tall = λ p h. ap (λ x. eqb x 1) (words-at p h).tall ∙ one-true (job.is_tall (cell_at j (cell (pair_job j) s p)))
        ∙ is_tall-same j sound (cell (pair_job j) s p) (inside p h);
    own = own_same;
    front = λ p a h g o. front_same p a h o;
    back = λ p a h g o. back-same p a h o;
    pays = λ p b m a h _ g _ x y f. pays j s l p m b a _ _ (words-at p h) (words-at m g) x y f.0 f.1;
    barred = λ p b m a h _ g _ x y f. barred j s l p m b a _ _ (words-at p h) (words-at m g) x y f;
  }
