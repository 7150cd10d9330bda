-- What a cell is offered is what rules 1 to 3 allow it, and every pose that it is offered is at least one site wide.
use Rattle.std.specs.Prelude.{◌≡◌, ◌↔◌, Bool, true, false, ◌&&◌, ◌||◌, ℕ, ◌+◌, ◌-◌, ◌*◌, ◌/◌, ◌%◌, ◌≤◌, ◌<◌, leb, ltb, eqb}
use Rattle.std.proofs.Common.{sym, leb-true, le-leb, ltb-true, lt-ltb}
use Rattle.std.proofs.Math.Path.{ap, subst}
use mathlib.Core.List.Memᴰ
use mathlib.Core.List.{Memᴰ as In}
use native.Mathlib.Omega.{arith}
use Rattle.std.proofs.Math.Decide.{dec_lt}
use Rattle.std.proofs.Math.ListN.{length, get_or-eq_default}
use Rattle.definition.specs.Job.{Job}
use Rattle.definition.specs.Placement.{Pose, Placement}
use Rattle.definition.specs.Rules.{absent_cell, cell_at, pose_at, end_at, apart, offer_of, offer_at, choice_offered, site_offered}
use Rattle.definition.specs.Rules.{breaks1, breaks2, breaks3}
use Rattle.definition_laws.specs.Sound.{Sound}
use Rattle.definition_laws.specs.Offers.{limit-within, layouts-within}
use Rattle.lists.specs.Numbers.{from, from_in}
use Rattle.theory_pair.specs.Pick.{pick, pick_in, in_pick}
use Rattle.theory_bridge.specs.Paired.{pose_numbers, pose_number, is_offered, offers_of, width_of, layout_of}
use Rattle.theory_bridge.specs.Poses.{pose-same}
use Rattle.theory_bridge.proofs.Tests.{and-true, not-false, mark-test}

-- rules 1 to 3, of cell k in pose p
pub record Allowed (j : Job) (k : ℕ) (p : Pose) : Type 0 where
  pub layout : p.layout < (offer_at j k).layouts
  pub mark : p.mark < 2
  pub mirrorable : p.mark ≡ 1 → (offer_at j k).mirrorable ≡ true
  pub fits : p.site + width_of j k p ≤ j.header.sites
  pub left : (cell_at j k).given ≤ p.site + (offer_at j k).limit
  pub right : p.site ≤ (cell_at j k).given + (offer_at j k).limit

module _ (j : Job) (k : ℕ) where
  -- its parts, by the tests of rules 1 and 3
  choice_test : (p : Pose) → choice_offered (offer_at j k) p ≡ true
      ↔ ((p.layout < (offer_at j k).layouts) × (p.mark < 2) × (p.mark ≡ 1 → (offer_at j k).mirrorable ≡ true))
  choice_test p = (
    λ e. let x = (and-true some marked).0 e in
        let m = (mark-test p.mark (offer_at j k).mirrorable).0 x.1 in
        (ltb-true p.layout (offer_at j k).layouts x.0, m.0, m.1),
    λ q. (and-true some marked).1 (
      lt-ltb p.layout (offer_at j k).layouts q.0,
      (mark-test p.mark (offer_at j k).mirrorable).1 (q.1, q.2),
    ),
  )
    where
      some : Bool
      some = ltb p.layout (offer_at j k).layouts

      marked : Bool
      marked = eqb p.mark 0 || (eqb p.mark 1 && (offer_at j k).mirrorable)

  site-test : (p : Pose) → site_offered (offer_at j k) p ≡ true
      ↔ (((cell_at j k).given ≤ p.site + (offer_at j k).limit) × (p.site ≤ (cell_at j k).given + (offer_at j k).limit))
  site-test p = (
    λ e. let d = leb-true (apart p.site (cell_at j k).given) (offer_at j k).limit e in (omega arith, omega arith),
    λ q. le-leb (apart p.site (cell_at j k).given) (offer_at j k).limit
        (let l = q.0 in let r = q.1 in omega arith),
  )

  -- cell k keeps rules 1 to 3
  abbrev pub Keeps : Placement → Type 0
  Keeps P = (breaks1 j P k ≡ false) × (breaks2 j P k ≡ false) × (breaks3 j P k ≡ false)

  pub keeps_allowed : (P : Placement) → Keeps P ↔ Allowed j k (pose_at P k)
  unfolding breaks1 breaks2 breaks3 width_of
  keeps_allowed P = (to, back)
    where
      p : Pose
      p = pose_at P k

      chosen : Bool
      chosen = choice_offered (offer_at j k) p

      near : Bool
      near = site_offered (offer_at j k) p

      inside : Bool
      inside = leb (end_at j P k) j.header.sites

      to : Keeps P → Allowed j k p
      to b =
          let c = (choice_test p).0 ((not-false chosen).0 b.0) in
          let s = (site-test p).0 ((not-false near).0 b.2) in
          record {
            layout = c.0;
            mark = c.1;
            mirrorable = c.2;
            fits = leb-true (end_at j P k) j.header.sites ((not-false inside).0 b.1);
            left = s.0;
            right = s.1;
          }

      back : Allowed j k p → Keeps P
      back a = (
        (not-false chosen).1 ((choice_test p).1 (a.layout, a.mark, a.mirrorable)),
        (not-false inside).1 (le-leb (end_at j P k) j.header.sites a.fits),
        (not-false near).1 ((site-test p).1 (a.left, a.right)),
      )

  -- ---- pose numbers

  abbrev low : ℕ → Bool
  low a = leb (offer_at j k).limit ((cell_at j k).given + a / 4)

  abbrev chosen : ℕ → Bool
  chosen a = choice_offered (offer_at j k) (pose_number j k a)

  abbrev near : ℕ → Bool
  near a = site_offered (offer_at j k) (pose_number j k a)

  abbrev inside : ℕ → Bool
  inside a = leb ((pose_number j k a).site + width_of j k (pose_number j k a)) j.header.sites

  offered-test : (a : ℕ)
      → is_offered j k a ≡ true ↔ ((low a ≡ true) × (chosen a ≡ true) × (near a ≡ true) × (inside a ≡ true))
  unfolding is_offered
  offered-test a = (
    λ e.
        let x = (and-true (low a && chosen a && near a) (inside a)).0 e in
        let y = (and-true (low a && chosen a) (near a)).0 x.0 in
        let z = (and-true (low a) (chosen a)).0 y.0 in
        (z.0, z.1, y.1, x.1),
    λ q. (and-true (low a && chosen a && near a) (inside a)).1
        ((and-true (low a && chosen a) (near a)).1 ((and-true (low a) (chosen a)).1 (q.0, q.1), q.2), q.3),
  )

  -- a pose that is offered is not left of site 0
  pub offered-low : (a : ℕ) → is_offered j k a ≡ true → (offer_at j k).limit ≤ (cell_at j k).given + a / 4
  offered-low a e = leb-true (offer_at j k).limit ((cell_at j k).given + a / 4) ((offered-test a).0 e).0

  number-test : (a : ℕ) → is_offered j k a ≡ true
      ↔ (Allowed j k (pose_number j k a) × ((offer_at j k).limit ≤ (cell_at j k).given + a / 4))
  number-test a = (to, back)
    where
      p : Pose
      p = pose_number j k a

      to : is_offered j k a ≡ true → Allowed j k p × ((offer_at j k).limit ≤ (cell_at j k).given + a / 4)
      to e =
          let q = (offered-test a).0 e in
          let c = (choice_test p).0 q.1 in
          let s = (site-test p).0 q.2 in (
            record {
              layout = c.0;
              mark = c.1;
              mirrorable = c.2;
              fits = leb-true (p.site + width_of j k p) j.header.sites q.3;
              left = s.0;
              right = s.1;
            },
            offered-low a e,
          )

      back : Allowed j k p × ((offer_at j k).limit ≤ (cell_at j k).given + a / 4) → is_offered j k a ≡ true
      back q = (offered-test a).1 (
        le-leb (offer_at j k).limit ((cell_at j k).given + a / 4) q.1,
        (choice_test p).1 (q.0.layout, q.0.mark, q.0.mirrorable),
        (site-test p).1 (q.0.left, q.0.right),
        le-leb (p.site + width_of j k p) j.header.sites q.0.fits,
      )

  -- the number of a pose
  abbrev number_of : Pose → ℕ
  number_of p = 4 * (p.site + (offer_at j k).limit - (cell_at j k).given) + 2 * p.layout + p.mark

  number-below : (p : Pose) → Allowed j k p → p.layout < 2 → number_of p < pose_numbers j
  number-below p a h = let l = a.left in let r = a.right in omega (arith, limit-within j.header (cell_at j k))

  number-pose : (p : Pose) → Allowed j k p → p.layout < 2
      → (pose_number j k (number_of p) ≡ p) × ((offer_at j k).limit ≤ (cell_at j k).given + number_of p / 4)
  unfolding pose_number
  number-pose p a h =
      let left = a.left in
      let s : (cell_at j k).given + number_of p / 4 - (offer_at j k).limit ≡ p.site = omega arith in
      let l : number_of p % 4 / 2 ≡ p.layout = omega arith in
      let m : number_of p % 2 ≡ p.mark = omega arith in
      (pose-same (pose_number j k (number_of p)) p s l m, omega arith)

-- at most two layouts are offered, and each is at least one site wide; a cell that is not there has none
module _ (j : Job) (sound : Sound j) (k : ℕ) where
  no_cell : ¬ (k < length j.cells) → cell_at j k ≡ absent_cell
  no_cell n = get_or-eq_default j.cells absent_cell (omega arith)

  -- a cell that is there, or one that is offered no layout
  offered-within : Dec (k < length j.cells) → (offer_at j k).layouts ≤ length (cell_at j k).layouts
  offered-within (yes h) = layouts-within j.header (cell_at j k) (sound.cell k h).some
  offered-within (no n) = rw (no_cell n) (omega arith)

  pub few-layouts : (offer_at j k).layouts ≤ 2
  few-layouts = go (dec_lt k (length j.cells))
    where
      go : Dec (k < length j.cells) → (offer_at j k).layouts ≤ 2
      go (yes h) = omega (arith, (sound.cell k h).few, offered-within (yes h))
      go (no n) = rw (no_cell n) (omega arith)

  wide-layout : (p : Pose) → p.layout < (offer_at j k).layouts → 0 < width_of j k p
  unfolding width_of
  wide-layout p l = go (dec_lt k (length j.cells))
    where
      go : Dec (k < length j.cells) → 0 < (layout_of j k p).width
      go (yes h) =
          let w = ((sound.cell k h).layout p.layout (omega (arith, offered-within (yes h)))).wide in omega arith
      go (no n) = absurd (let e = ap (λ c. (offer_of j.header c).layouts) (no_cell n) in omega arith)

  pub offered_allowed : (p : Pose) → In p (offers_of j k) ↔ Allowed j k p
  unfolding offers_of
  offered_allowed p = (to, back)
    where
      to : In p (offers_of j k) → Allowed j k p
      to m =
          let r = Memᴰ.of_map (pose_number j k) (pick (is_offered j k) (from 0 (pose_numbers j))) m in
          let i = pick_in (is_offered j k) (from 0 (pose_numbers j)) r.1 in
          subst (Allowed j k) r.2 ((number-test j k r.0).0 i.1).0

      back : Allowed j k p → In p (offers_of j k)
      back a =
          let l = a.layout in
          let s : p.layout < 2 = omega (arith, few-layouts) in
          let n = number_of j k p in
          let h = number-below j k p a s in
          let e = number-pose j k p a s in
          Memᴰ.cast (sym e.0)
          (Memᴰ.map (pose_number j k)
          (in_pick (is_offered j k) (from 0 (pose_numbers j)) (from_in n 0 (pose_numbers j) (omega arith) (omega arith))
          ((number-test j k n).1 (subst (Allowed j k) (sym e.0) a, e.1))))

  -- what is offered is wide
  pub wide_positive : (p : Pose) → In p (offers_of j k) → 0 < width_of j k p
  wide_positive p m = wide-layout p ((offered_allowed p).0 m).layout

  -- a cell's pose is offered just if the cell keeps rules 1 to 3
  pub offered-rules : (P : Placement) → In (pose_at P k) (offers_of j k) ↔ Keeps j k P
  offered-rules P =
      let a = offered_allowed (pose_at P k) in
      let b = keeps_allowed j k P in
      (λ m. b.1 (a.0 m), λ h. a.1 (b.0 h))
