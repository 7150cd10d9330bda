-- Theorems on the definitions of specs/JobRow.
-- A row of a job in file order, by the numbers of the sites at which its cells stand in layout 0, unmirrored. A row of
-- such poses is legal with R = 0 just if its site numbers are those of cells that follow each other.
use Prim.Native.Nat.{ℕ, zero, suc, ◌+◌, ◌*◌, ◌/◌, ◌%◌, ◌≤◌, ◌<◌}
use Rattle.std.specs.Prelude.{◌≡◌, refl, ◌≢◌, Bool, true, false, not, ◌||◌, length, get_or, eqb}
use Rattle.std.proofs.Math.Path.{sym, ap, subst}
use Rattle.std.proofs.Common.{ap₂, ◌∙◌}
use mathlib.Core.List.Memᴰ
use mathlib.Core.List.{List, [], ◌∷◌, Memᴰ as In}
use native.Mathlib.Omega.{arith}
use Rattle.std.proofs.Math.Decide.{ℕ_discrete}
use borrow.Author.Tests.{eq-eqb, ne_eqb, eqb-true, eqb-false}
use Rattle.definition.specs.Job.{Job}
use Rattle.definition.specs.Placement.{Pose}
use Rattle.definition.specs.Rules.{no_layout, cell_at, offer_at}
use Rattle.definition_laws.specs.Sound.{Sound}
use Rattle.lists.specs.Numbers.{from, in_from, from_in}
use Rattle.theory_row.specs.Row.{Fits}
use Rattle.theory_pair.specs.Pick.{pick, pick_in, in_pick}
use Rattle.theory_pair.specs.Whole.{site_in, wide_in, opens_in, closes_in, RowPlaced}
use Rattle.theory_pair.specs.Cells.{Side, members, cell, line}
use Rattle.theory_bridge.specs.Paired.{site_of, width_of, pose_numbers, pose_number, is_offered, offers_of, closes_of, pair_job}
use Rattle.theory_bridge.proofs.Offers.{offered_allowed, offered-low, wide_positive}
use Rattle.theory_bridge.proofs.RowEnds.{end_allowed_lem}
use Rattle.theory_bridge.proofs.Tests.{and-true}
use Rattle.theory_cover.specs.FileRow.{FileRow, Follows, RowFrom}
use Rattle.theory_cover.specs.Covered.{Inside}
use Rattle.theory_staples.specs.FileOrder.{FileLegal}
use Rattle.theory_staples.proofs.FileOrder.{legal_file, file_legal}
use Rattle.theory_staples.specs.JobRow.{IsPlain, site_numbers_of}
use Rattle.theory_staples.specs.JobRow as defs

-- ---- poses and their numbers

module _ (j : Job) (k : ℕ) where
  abbrev plain_pose : ℕ → Pose
  plain_pose = defs.plain_pose j k

  abbrev plain_width : ℕ
  plain_width = defs.plain_width j k

  pub plain-number : (t : ℕ) → IsPlain (plain_pose t)
  unfolding pose_number
  plain-number t = omega arith

  pub plain-width : (p : Pose) → IsPlain p → width_of j k p ≡ plain_width
  unfolding width_of
  plain-width p e = ap (λ (n : ℕ). (get_or (cell_at j k).layouts n no_layout).width) e.0

  pose-rises : (t : ℕ) → is_offered j k (4 * t) ≡ true
      → (plain_pose t).site + (offer_at j k).limit ≡ (cell_at j k).given + t
  unfolding pose_number
  pose-rises t e = let l = offered-low j k (4 * t) e in omega arith

  -- an offered pose of this kind has a site number
  record Numbered (p : Pose) : Type 0 where
    number : ℕ
    small : number < site_numbers_of j
    offered : is_offered j k (4 * number) ≡ true
    same : plain_pose number ≡ p

  number_of : (p : Pose) → In p (offers_of j k) → IsPlain p → Numbered p
  unfolding offers_of pose_number
  number_of p m e =
      let r = Memᴰ.of_map (pose_number j k) (pick (is_offered j k) (from 0 (pose_numbers j))) m in
      let a = r.0 in
      let i = pick_in (is_offered j k) (from 0 (pose_numbers j)) r.1 in
      let h = in_from 0 (pose_numbers j) i.0 in
      let l : a % 4 / 2 ≡ 0 = ap (λ (q : Pose). q.layout) r.2 ∙ e.0 in
      let n : a % 2 ≡ 0 = ap (λ (q : Pose). q.mark) r.2 ∙ e.1 in
      let z : 4 * (a / 4) ≡ a = omega arith in
      record {
        number = a / 4;
        small = omega arith;
        offered = subst (λ (x : ℕ). is_offered j k x ≡ true) (sym z) i.1;
        same = ap (pose_number j k) z ∙ r.2;
      }

  number-offered : (t : ℕ) → t < site_numbers_of j → is_offered j k (4 * t) ≡ true → In (plain_pose t) (offers_of j k)
  unfolding offers_of
  number-offered t l e =
      Memᴰ.map (pose_number j k)
      (in_pick (is_offered j k) (from 0 (pose_numbers j)) (from_in (4 * t) 0 (pose_numbers j) (omega arith) (omega arith))
      e)

-- ---- the row

module _ (j : Job) (s : Side) where
  -- the cell at position p, and how many there are
  abbrev cell_no : ℕ → ℕ
  cell_no p = cell (pair_job j) s p

  abbrev n : ℕ
  n = length (members (pair_job j) s)

  abbrev may_end : ℕ → ℕ → Bool
  may_end = defs.may_end j s

  abbrev row_of_job : FileRow
  row_of_job = defs.row_of_job j s

  abbrev NumberedBy : (ℕ → Pose) → ℕ → List ℕ → Type 0
  NumberedBy = defs.NumberedBy j s

  ok-parts : (p t : ℕ) → row_of_job.ok p t ≡ true → (is_offered j (cell_no p) (4 * t) ≡ true) × (may_end p t ≡ true)
  ok-parts p t e = (and-true (is_offered j (cell_no p) (4 * t)) (may_end p t)).0 e

  -- sites go up by one: the site with number t is the limit left of given + t
  pub row-rises : (p t : ℕ) → row_of_job.ok p t ≡ true
      → row_of_job.site p t + (offer_at j (cell_no p)).limit ≡ (cell_at j (cell_no p)).given + t
  row-rises p t e = pose-rises j (cell_no p) t (ok-parts p t e).0

  end_test : (p t : ℕ) → may_end p t ≡ true → suc p ≡ n → closes_of j (cell_no p) (plain_pose j (cell_no p) t) ≡ true
  end_test p t e l =
      subst (λ b. (not b || closes_of j (cell_no p) (plain_pose j (cell_no p) t)) ≡ true) (eq-eqb (suc p) n l) e

  test-end : (p t : ℕ) → (suc p ≡ n → closes_of j (cell_no p) (plain_pose j (cell_no p) t) ≡ true) → may_end p t ≡ true
  test-end p t f = go (eqb (suc p) n) (eqb-true (suc p) n)
    where
      go : (b : Bool) → (b ≡ true → suc p ≡ n) → (not b || closes_of j (cell_no p) (plain_pose j (cell_no p) t)) ≡ true
      go true h = f (h refl)
      go false h = refl

  -- no cell of the row passes its end
  pub inside-row : Sound j → Inside row_of_job j.header.sites
  inside-row sound p a t f =
      let k = cell_no p in
      let o = number-offered j k t f.numbered (ok-parts p t f.ok).0 in
      let z = ((offered_allowed j sound k (plain_pose j k t)).0 o).fits in
      let w = plain-width j k (plain_pose j k t) (plain-number j k t) in
      omega arith

  module _ (sound : Sound j) (g : ℕ → Pose) where
    abbrev S : ℕ → ℕ
    S = site_in site_of (line (pair_job j) s) g

    abbrev W : ℕ → ℕ
    W = wide_in site_of (line (pair_job j) s) g

    abbrev O : ℕ → Bool
    O = opens_in site_of (line (pair_job j) s) g

    abbrev C : ℕ → Bool
    C = closes_in site_of (line (pair_job j) s) g

    -- g gives a cell a pose that it is offered
    abbrev Offered : ℕ → Type 0
    Offered q = In (g q) (offers_of j (cell_no q))

    abbrev AllPlain : Type 0
    AllPlain = (q : ℕ) → q < n → IsPlain (g q)

    wide_in_lem : ((q : ℕ) → q < n → Offered q) → (q : ℕ) → q < n → 0 < W q
    wide_in_lem o q h = wide_positive j sound (cell_no q) (g q) (o q h)

    -- ---- from a legal row to site numbers

    module _ (offered : (q : ℕ) → q < n → Offered q) (plain : AllPlain) (r : FileLegal S W O C n) where
      -- where the cell before p ends
      end_before : ℕ → ℕ
      end_before zero = 0
      end_before (suc p) = S p + W p

      gap-before : (p : ℕ) → p < n → (end_before p ≤ S p) × (S p ≢ suc (end_before p))
      unfolding end_before
      gap-before zero h = (omega arith, λ e. eqb-false (S 0) 1 ((end_allowed_lem (S 0)).0 (r.opened h)) e)
      gap-before (suc p) h = let f = r.next p h in (f.0, λ e. f.1 (omega arith))

      site-numbers : (k p : ℕ) → p + k ≡ n → (ts : List ℕ) × RowFrom row_of_job p (end_before p) ts × NumberedBy g p ts
      unfolding end_before
      site-numbers zero p e = ([], omega arith, tt)
      site-numbers (suc k) p e =
          let h : p < n = omega arith in
          let m = number_of j (cell_no p) (g p) (offered p h) (plain p h) in
          let t = m.number in
          let x : row_of_job.site p t ≡ S p = ap site_of m.same in
          let w : row_of_job.wide p ≡ W p = sym (plain-width j (cell_no p) (g p) (plain p h)) in
          let b = gap-before p h in
          let rest = site-numbers k (suc p) (omega arith) in
          let follows : Follows row_of_job p (end_before p) t = record {
            there = h;
            numbered = m.small;
            ok = (and-true (is_offered j (cell_no p) (4 * t)) (may_end p t)).1 (
              m.offered,
              test-end p t (λ l. subst (λ (z : Pose). closes_of j (cell_no p) z ≡ true) (sym m.same) (r.closed p l)),
            );
            clear = subst (λ (y : ℕ). end_before p ≤ y) (sym x) b.0;
            no_gap_one = λ z. b.1 (sym x ∙ z);
          } in (
            t ∷ rest.0,
            (follows, subst (λ (y : ℕ). RowFrom row_of_job (suc p) y rest.0) (sym (ap₂ ◌+◌ x w)) rest.1),
            (m.same, rest.2),
          )

    pub placed-numbers : RowPlaced 0 site_of (line (pair_job j) s) g → AllPlain
        → (ts : List ℕ) × RowFrom row_of_job 0 0 ts × NumberedBy g 0 ts
    unfolding end_before
    placed-numbers p plain = site-numbers p.offered plain
        (legal_file S W O C n (wide_in_lem p.offered) p.legal p.ended) n 0 (omega arith)

    -- ---- from site numbers to a legal row

    -- the row from position p on, right of what ends at a
    record PlacedFrom (p a : ℕ) : Type 0 where
      offered : (q : ℕ) → p ≤ q → q < n → Offered q
      plain : (q : ℕ) → p ≤ q → q < n → IsPlain (g q)
      begins : p < n → (a ≤ S p) × (S p ≢ suc a)
      next : (q : ℕ) → p ≤ q → suc q < n → Fits S W q (suc q)
      closed : (q : ℕ) → p ≤ q → suc q ≡ n → C q ≡ true

    here_or_on : (p : ℕ) (X : ℕ → Type 0) → X p → ((q : ℕ) → suc p ≤ q → X q) → (q : ℕ) → p ≤ q → X q
    here_or_on p X x f q h = go (ℕ_discrete q p)
      where
        go : Dec (q ≡ p) → X q
        go (yes e) = subst X (sym e) x
        go (no d) = f q (omega arith)

    placed-from : (p a : ℕ) (ts : List ℕ) → RowFrom row_of_job p a ts → NumberedBy g p ts → PlacedFrom p a
    placed-from p a [] r h = record {
      offered = λ q i l. absurd (omega arith);
      plain = λ q i l. absurd (omega arith);
      begins = λ l. absurd (omega arith);
      next = λ q i l. absurd (omega arith);
      closed = λ q i l. absurd (omega arith);
    }
    placed-from p a (t ∷ ts) r h =
        let k = cell_no p in
        let e : plain_pose j k t ≡ g p = h.0 in
        let x : row_of_job.site p t ≡ S p = ap site_of e in
        let pl : IsPlain (g p) = subst IsPlain e (plain-number j k t) in
        let w : row_of_job.wide p ≡ W p = sym (plain-width j k (g p) pl) in
        let f = r.0 in
        let ok = ok-parts p t f.ok in
        let o : Offered p =
        subst (λ (y : Pose). In y (offers_of j k)) e (number-offered j k t f.numbered ok.0) in
        let end = row_of_job.site p t + row_of_job.wide p in
        let rest = placed-from (suc p) end ts r.1 h.1 in
        let fits : suc p < n → Fits S W p (suc p) =
        λ l. let b = rest.begins l in let c = b.0 in (omega arith, λ z. b.1 (omega arith)) in
        record {
          offered = here_or_on p (λ q. q < n → Offered q) (λ l. o) rest.offered;
          plain = here_or_on p (λ q. q < n → IsPlain (g q)) (λ l. pl) rest.plain;
          begins = λ l. (subst (λ (y : ℕ). a ≤ y) x f.clear, λ z. f.no_gap_one (x ∙ z));
          next = here_or_on p (λ q. suc q < n → Fits S W q (suc q)) fits rest.next;
          closed = here_or_on p (λ q. suc q ≡ n → C q ≡ true)
              (λ l. subst (λ (y : Pose). closes_of j k y ≡ true) e (end_test p t ok.1 l)) rest.closed;
        }

    pub numbers-placed : (ts : List ℕ) → RowFrom row_of_job 0 0 ts → NumberedBy g 0 ts
        → RowPlaced 0 site_of (line (pair_job j) s) g × AllPlain
    numbers-placed ts r h =
        let f = placed-from 0 0 ts r h in
        let o : (q : ℕ) → q < n → Offered q = λ q. f.offered q (omega arith) in
        let row : FileLegal S W O C n = record {
          next = λ q. f.next q (omega arith);
          opened = λ l. (end_allowed_lem (S 0)).1 (ne_eqb (S 0) 1 (f.begins l).1);
          closed = λ q. f.closed q (omega arith);
        } in
        let z = file_legal S W O C n (wide_in_lem o) row in
        (record { offered = o; legal = z.0; ended = z.1 }, λ q. f.plain q (omega arith))
