-- Theorems on the definitions of specs/ByNumbers.
-- The placements of a job that may carry staples, and site numbers of its two rows: each gives the other, and the
-- staples are the sites that are not covered.
use Rattle.std.specs.Prelude.{ℕ, zero, suc, ◌+◌, ◌<◌, ◌≡◌, refl, true, false, not, length, get_or, eqb}
use Rattle.std.proofs.Common.{sym, ap, ◌∙◌, subst, true≢false, arith}
use mathlib.Core.List.{List, [], ◌∷◌, Memᴰ as In}
use Rattle.std.proofs.lemmas.Bool.{not-true}
use Rattle.definition.specs.Lists.{any}
use Rattle.definition.specs.Job.{Cell, Job}
use Rattle.definition.specs.Job as job
use Rattle.definition.specs.Placement.{Pose, Placement}
use Rattle.definition.specs.Rules.{absent_cell, pose_at}
use Rattle.definition.specs.Staples.{in_file_order, stapleable, Plain, staples}
use Rattle.definition_laws.specs.Sound.{Sound}
use Rattle.theory_row.specs.Order.{place}
use Rattle.theory_pair.specs.Members.{at, at_in, at_place}
use Rattle.theory_pair.proofs.Lines.{members_in, in_members, talls_in_lem}
use Rattle.theory_pair.specs.Cells.{Side, row₀, row₁, Kind, one, both, in_row, is_tall, members, tall_cells, tall_count}
use Rattle.theory_pair.specs.Whole.{RowPlaced}
use Rattle.theory_pair.specs.Cells.{cell, line, LegalPair, Agreed}
use Rattle.theory_pair.proofs.Cells.{legal-placed, agree-legal}
use Rattle.theory_bridge.specs.Paired.{site_of, width_of, pose_number, is_offered, offers_of, end_allowed, own_of, pay_of}
use Rattle.theory_bridge.specs.Paired.{differing_of, pair_job}
use Rattle.theory_bridge.proofs.Tests.{and-true, or-false}
use Rattle.theory_bridge.specs.Poses.{placement-size}
use Rattle.theory_bridge.proofs.Offers.{wide_positive}
use Rattle.theory_bridge.proofs.Row.{is_tall-same}
use Rattle.theory_bridge.proofs.Legal.{legal-pair}
use Rattle.theory_bridge.specs.Answer.{placement_by}
use Rattle.theory_bridge.proofs.Answer.{gives}
use Rattle.theory_cover.specs.FileRow.{RowFrom}
use Rattle.theory_cover.proofs.Covered.{rows_begin}
use Rattle.theory_staples.specs.JobRow.{IsPlain, row_poses, row_of_job, NumberedBy}
use Rattle.theory_staples.proofs.JobRow.{placed-numbers, numbers-placed}
use Rattle.theory_staples.proofs.Sites.{staples-rest}
use Rattle.theory_staples.specs.ByNumbers.{RowsBy, covered_by, PosedAt, PosedBy}

-- ---- R taken as 0

pub sound_file : (j : Job) → Sound j → Sound (in_file_order j)
sound_file j sound = record {
  header = record {
    one_row = sound.header.one_row;
    two_rows = sound.header.two_rows;
    some_sites = sound.header.some_sites;
    few_sites = sound.header.few_sites;
    displacement = sound.header.displacement;
    reordering = omega arith;
    step = sound.header.step;
    shift = sound.header.shift;
    mirror = sound.header.mirror;
    swap = sound.header.swap;
    filled = sound.header.filled;
  };
  few = sound.few;
  few_tall = sound.few_tall;
  cell = λ k h. let c = sound.cell k h in
      record { row = c.row; given = c.given; some = c.some; few = c.few; layout = c.layout };
  rising = sound.rising;
}

-- the pair's theory takes R apart from the job
file_pair : (j : Job) → pair_job (in_file_order j) ≡ pair_job j
unfolding offers_of is_offered pose_number width_of end_allowed own_of pay_of differing_of
file_pair j = refl

-- ---- no cell is tall

not-tall : (l : List Cell) (k : ℕ) → any job.is_tall l ≡ false → job.is_tall (get_or l k absent_cell) ≡ false
not-tall [] k e = refl
not-tall (c ∷ l) zero e = ((or-false (job.is_tall c) (any job.is_tall l)).0 e).0
not-tall (c ∷ l) (suc k) e = not-tall l k ((or-false (job.is_tall c) (any job.is_tall l)).0 e).1

module _ (j : Job) (sound : Sound j) (able : stapleable j ≡ true) where
  flat : (k : ℕ) → k < length j.cells → is_tall ((pair_job j).kind k) ≡ false
  flat k h =
      let a = ((and-true (eqb j.header.rows 2) (not (any job.is_tall j.cells))).0 able).1 in
      sym (is_tall-same j sound k h) ∙ not-tall j.cells k (not-true (any job.is_tall j.cells) a)

  no-tall : (I : ℕ) → I < tall_count (pair_job j) → ⊥
  no-tall I h =
      let t = talls_in_lem (pair_job j) (at_in (tall_cells (pair_job j)) I h) in
      true≢false (sym t.1 ∙ flat (at (tall_cells (pair_job j)) I) t.0)

  -- every cell is in a row
  in_row_lem : (k : ℕ) → k < length j.cells → (s : Side) × In k (members (pair_job j) s)
  in_row_lem k h = go ((pair_job j).kind k) refl
    where
      go : (t : Kind) → (pair_job j).kind k ≡ t → (s : Side) × In k (members (pair_job j) s)
      go (one row₀) e = (row₀, in_members (pair_job j) row₀ k h (ap (in_row row₀) e))
      go (one row₁) e = (row₁, in_members (pair_job j) row₁ k h (ap (in_row row₁) e))
      go both e = absurd (true≢false (sym (ap is_tall e) ∙ flat k h))

  -- ---- from a placement of this kind to site numbers

  pub plain-numbers : (Q : Placement) → Plain j Q
      → (ts us : List ℕ) × RowsBy j ts us × (staples j Q + covered_by j ts us ≡ j.header.sites)
  plain-numbers Q p =
      let a = row row₀ in
      let b = row row₁ in (
        a.0,
        b.0,
        rows_begin (row_of_job j row₀) (row_of_job j row₁) a.0 b.0 a.1 b.1,
        staples-rest j sound Q (pose_at Q) (λ k h. refl) a.0 b.0 (a.1, a.2) (b.1, b.2),
      )
    where
      legal : LegalPair 0 site_of (pair_job j) (pose_at Q)
      legal = subst (λ J. LegalPair 0 site_of J (pose_at Q)) (file_pair j)
          ((legal-pair (in_file_order j) (sound_file j sound) Q (pose_at Q) (λ k h. refl) p.legal.each).0 p.legal)

      row : (s : Side)
          → (ts : List ℕ) × RowFrom (row_of_job j s) 0 0 ts × NumberedBy j s (row_poses j (pose_at Q) s) 0 ts
      row s =
          placed-numbers j s sound (row_poses j (pose_at Q) s) (legal-placed 0 site_of (pair_job j) (pose_at Q) legal s)
          (λ q h. let m = (members_in (pair_job j) s (at_in (members (pair_job j) s) q h)).0 in
          (p.layout (cell (pair_job j) s q) m, p.mark (cell (pair_job j) s q) m))

  -- ---- from site numbers to a placement of this kind

  module _ (f : ℕ → Pose) where
    numbered-from : (s : Side) (p a : ℕ) (ts : List ℕ) → RowFrom (row_of_job j s) p a ts
        → ((i : ℕ) → p + i < length (members (pair_job j) s) → PosedAt j f s (p + i) (at ts i))
        → NumberedBy j s (row_poses j f s) p ts
    numbered-from s p a [] r h = tt
    numbered-from s p a (t ∷ ts) r h =
        let b = r.0.there in (
          sym (subst (λ (q : ℕ). PosedAt j f s q t) (omega arith) (h 0 (omega arith))),
          numbered-from s (suc p) ((row_of_job j s).site p t + (row_of_job j s).wide p) ts r.1
              (λ i g. subst (λ (q : ℕ). PosedAt j f s q (at ts i)) (omega arith) (h (suc i) (omega arith))),
        )

    -- a row by its site numbers, as the theory of one row has it
    row_by : (s : Side) (ts : List ℕ) → RowFrom (row_of_job j s) 0 0 ts → PosedBy j f s ts
        → NumberedBy j s (row_poses j f s) 0 ts
    row_by s ts r h = numbered-from s 0 0 ts r
        (λ i g. subst (λ (q : ℕ). PosedAt j f s q (at ts i)) (omega arith) (h i (omega arith)))

    row-placed : (s : Side) (ts : List ℕ) → RowFrom (row_of_job j s) 0 0 ts → PosedBy j f s ts
        → RowPlaced 0 site_of (line (pair_job j) s) (row_poses j f s)
        × ((q : ℕ) → q < length (members (pair_job j) s) → IsPlain (row_poses j f s q))
    row-placed s ts r h = numbers-placed j s sound (row_poses j f s) ts r (row_by s ts r h)

    module _ (ts us : List ℕ) (l : RowsBy j ts us) (posed₀ : PosedBy j f row₀ ts) (posed₁ : PosedBy j f row₁ us) where
      agreed : Agreed 0 site_of (pair_job j) (row_poses j f row₀) (row_poses j f row₁)
      agreed = record {
        row₀ = (row-placed row₀ ts l.row₀ posed₀).0;
        row₁ = (row-placed row₁ us l.row₁ posed₁).0;
        shared = λ I h. absurd (no-tall I h);
        keeps = λ I K h k. absurd (no-tall K k);
      }

      pair-legal : LegalPair 0 site_of (pair_job j) f
      pair-legal = agree-legal 0 site_of (pair_job j) (wide_positive j sound) f (row_poses j f row₀)
          (row_poses j f row₁) agreed (λ p h. refl) (λ p h. refl)

      plain-pose : (k : ℕ) → k < length j.cells → IsPlain (f k)
      plain-pose k h = let r = in_row_lem k h in go r.0 r.1
        where
          all : (s : Side) (q : ℕ) → q < length (members (pair_job j) s) → IsPlain (row_poses j f s q)
          all row₀ = (row-placed row₀ ts l.row₀ posed₀).1
          all row₁ = (row-placed row₁ us l.row₁ posed₁).1

          go : (s : Side) → In k (members (pair_job j) s) → IsPlain (f k)
          go s m =
              let a = at_place (members (pair_job j) s) k m in
              subst (λ (i : ℕ). IsPlain (f i)) a.0 (all s (place k (members (pair_job j) s)) a.1)

      pub numbers-plain : Plain j (placement_by j f)
      numbers-plain = record {
        legal = (legal-pair (in_file_order j) (sound_file j sound) (placement_by j f) f (gives j sound f)
            (placement-size f (length j.cells))).1
            (subst (λ J. LegalPair 0 site_of J f) (sym (file_pair j)) pair-legal);
        layout = λ k h. ap (λ (p : Pose). p.layout) (gives j sound f k h) ∙ (plain-pose k h).0;
        mark = λ k h. ap (λ (p : Pose). p.mark) (gives j sound f k h) ∙ (plain-pose k h).1;
      }

      pub numbers-staples : staples j (placement_by j f) + covered_by j ts us ≡ j.header.sites
      numbers-staples = staples-rest j sound (placement_by j f) f (gives j sound f) ts us
          (l.row₀, row_by row₀ ts l.row₀ posed₀) (l.row₁, row_by row₁ us l.row₁ posed₁)
