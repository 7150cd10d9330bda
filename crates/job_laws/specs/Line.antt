-- What a line that is not refused says: its header or its cell is sound.
use Rattle.std.specs.Prelude.{ℕ, zero, suc, ◌+◌, ◌*◌, ◌-◌, ◌≤◌, ◌<◌, ◌≡◌, refl, Bool, true, false, ◌&&◌, cond, List, [], ◌∷◌, length, get_or, drop, leb, eqb}
use Rattle.std.proofs.Common.{ap, ◌∙◌, arith, suc-mul, length-take, length-drop, get_or-drop, leb-true, le-leb, eqb-true, eq-eqb}
use Rattle.std.proofs.Math.Bool.{and-eq-true_iff}
use Rattle.definition.specs.Lists.{all}
use Rattle.definition.specs.Texts.{Text, fields_of, within}
use Rattle.definition.specs.Job.{max_sites, max_displacement, max_reordering, max_weight, max_given, max_width, max_height}
use Rattle.definition.specs.Job.{Layout, Job, nth, numbers_of, header_in_range, header_refusal, weighs_filled, line_header}
use Rattle.definition.specs.Job.{header_of, layout_size, layouts_of, cell_of, layout_in_range}
use Rattle.definition.specs.Job.{rest_in_range, shape_in_range, has_room, not_falling, cell_lead, fixed_lead, led_by, formed}
use Rattle.definition.specs.Job.{cell_refusal, first_failing}
use Rattle.definition.specs.Rules.{no_layout}
use Rattle.definition_laws.specs.Sound.{SoundLayout, SoundCell, SoundHeader}
use Rattle.job_laws.specs.Tests.{test-passed}
use Rattle.job_laws.specs.Lists.{all-at, within_both, all-below}

-- ---- the header

header-sound : (filled : Bool) (n : List ℕ) → header_in_range n ≡ true → SoundHeader (header_of filled n)
unfolding header_in_range header_of
header-sound filled n e =
    let weights = all (within 0 max_weight) (drop 4 n) in
    let e4 =
    (and-eq-true_iff
    (within 1 2 (nth n 0) && within 1 max_sites (nth n 1) && within 0 max_displacement (nth n 2)
    && within 0 max_reordering (nth n 3)) weights).0 e in
    let e3 =
    (and-eq-true_iff (within 1 2 (nth n 0) && within 1 max_sites (nth n 1) && within 0 max_displacement (nth n 2))
    (within 0 max_reordering (nth n 3))).0 e4.0 in
    let e2 =
    (and-eq-true_iff (within 1 2 (nth n 0) && within 1 max_sites (nth n 1))
    (within 0 max_displacement (nth n 2))).0
    e3.0 in
    let e1 = (and-eq-true_iff (within 1 2 (nth n 0)) (within 1 max_sites (nth n 1))).0 e2.0 in
    let weight : (i : ℕ) → nth n (4 + i) ≤ max_weight =
    λ i. rw get_or-drop at (all-below 0 max_weight (drop 4 n) e4.1 i) in
    record {
      one_row = (within_both 1 2 (nth n 0) e1.0).0;
      two_rows = (within_both 1 2 (nth n 0) e1.0).1;
      some_sites = (within_both 1 max_sites (nth n 1) e1.1).0;
      few_sites = (within_both 1 max_sites (nth n 1) e1.1).1;
      displacement = (within_both 0 max_displacement (nth n 2) e2.1).1;
      reordering = (within_both 0 max_reordering (nth n 3) e3.1).1;
      step = weight 0;
      shift = weight 1;
      mirror = weight 2;
      swap = weight 3;
      filled = either filled (weight 4) (weight 0);
    }
  where
    either : (t : Bool) → nth n 8 ≤ max_weight → nth n 4 ≤ max_weight → cond t (nth n 8) (nth n 4) ≤ max_weight
    either true a b = a
    either false a b = b

pub header-line-sound : (l : Text) → header_refusal l ≡ 0 → SoundHeader (line_header l)
unfolding header_refusal
header-line-sound l e = header-sound (weighs_filled l) (numbers_of l) (test-passed 1 _ _ (test-passed 0 _ _ e).1).0

-- ---- a cell

length-layouts : (k size : ℕ) (n : List ℕ) → length (layouts_of k size n) ≡ k
unfolding layouts_of
length-layouts zero size n = refl
length-layouts (suc k) size n = ap suc (length-layouts k size (drop size n))

-- each layout has all its heights
heights : (k size : ℕ) (n : List ℕ) → k * size ≤ length n → (i : ℕ) → i < k
    → length (get_or (layouts_of k size n) i no_layout).heights ≡ size - 1
unfolding layouts_of
heights zero size n h i l = absurd (omega arith)
heights (suc k) size n h zero l = simp (length-drop, length-take) (omega (arith, suc-mul k size))
heights (suc k) size n h (suc i) l =
    heights k size (drop size n) (simp length-drop (omega (arith, suc-mul k size))) i (omega arith)

layout-sound : (row : ℕ) (l : Layout) → layout_in_range l ≡ true → length l.heights ≡ cond (eqb row 2) 8 4
    → SoundLayout row l
layout-sound row l e h =
    let t = (and-eq-true_iff (within 1 max_width l.width) (all (within 1 max_height) l.heights)).0 e in
    record {
      wide = (within_both 1 max_width l.width t.0).0;
      narrow = (within_both 1 max_width l.width t.0).1;
      height_count = h;
      low =
          λ i k. (within_both 1 max_height (get_or l.heights i 0)
          (all-at (within 1 max_height) 0 l.heights t.1 i k)).0;
      high = all-below 1 max_height l.heights t.1;
    }

-- a cell line, test by test
pub record Taken (j : Job) (fixed : Bool) (n : List ℕ) : Type 0 where
  pub shape : shape_in_range j.header n ≡ true
  pub count : length n ≡ 4 + nth n 3 * layout_size (nth n 0)
  pub rest : rest_in_range n ≡ true
  pub room : has_room j.cells (cell_of fixed n) ≡ true
  pub rises : not_falling j.cells (cell_of fixed n) ≡ true

pub taken : (j : Job) (l : Text) → cell_refusal j l ≡ 0 → Taken j (led_by (fixed_lead ∷ []) l) (numbers_of l)
unfolding cell_refusal
taken j l e =
    let n = numbers_of l in
    let t1 = test-passed 0 _ _ e in
    let t2 = test-passed 1 _ _ t1.1 in
    let t3 = test-passed 0 _ _ t2.1 in
    let t4 = test-passed 1 _ _ t3.1 in
    let t5 = test-passed 2 _ _ t4.1 in
    let t6 = test-passed 3 _ _ t5.1 in
    record {
      shape = t2.0;
      count = eqb-true (length n) (4 + nth n 3 * layout_size (nth n 0)) t3.0;
      rest = t4.0;
      room = t5.0;
      rises = t6.0;
    }

-- and back: a line in its form, of numbers that pass each test, is not refused
pub not-refused : (j : Job) (l : Text) → formed (cell_lead ∷ fixed_lead ∷ []) l ≡ true → 5 ≤ length (fields_of l)
    → Taken j (led_by (fixed_lead ∷ []) l) (numbers_of l) → cell_refusal j l ≡ 0
unfolding cell_refusal first_failing
not-refused j l f many t =
    rw (
      f,
      le-leb 5 (length (fields_of l)) many,
      t.shape,
      eq-eqb (length (numbers_of l)) _ t.count,
      t.rest,
      t.room,
      t.rises,
    )

pub cell-sound : (j : Job) (fixed : Bool) (n : List ℕ) → Taken j fixed n → SoundCell j.header (cell_of fixed n)
unfolding cell_of rest_in_range
cell-sound j fixed n t =
    let k = nth n 3 in
    let size = layout_size (nth n 0) in
    let ls = layouts_of k size (drop 4 n) in
    let shape = (and-eq-true_iff (leb (nth n 0) (cond (eqb j.header.rows 2) 2 0)) (within 1 2 k)).0 t.shape in
    let some = within_both 1 2 k shape.1 in
    let rest = (and-eq-true_iff (leb (nth n 1) max_given && leb (nth n 2) 1) (all layout_in_range ls)).0 t.rest in
    let long : length ls ≡ k = length-layouts k size (drop 4 n) in
    let fits : k * size ≤ length (drop 4 n) = simp length-drop (omega (arith, t.count)) in
    record {
      row = leb-true (nth n 0) (cond (eqb j.header.rows 2) 2 0) shape.0;
      given = leb-true (nth n 1) max_given ((and-eq-true_iff (leb (nth n 1) max_given) (leb (nth n 2) 1)).0 rest.0).0;
      some = omega arith;
      few = omega arith;
      layout =
          λ i h. layout-sound (nth n 0) (get_or ls i no_layout) (all-at layout_in_range no_layout ls rest.1 i h)
          (heights k size (drop 4 n) fits i (omega arith) ∙ less (eqb (nth n 0) 2));
    }
  where
    less : (t : Bool) → cond t 9 5 - 1 ≡ cond t 8 4
    less true = refl
    less false = refl
