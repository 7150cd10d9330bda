-- The rows of a job as words: what the search asks of them, and what it then finds of the job.
use Rattle.std.specs.Prelude.{ℕ, zero, suc, ◌≤◌, ◌≡◌, refl, Bool, true, false, cond, List, [], eqb, Option, None, Some}
use Rattle.std.proofs.Common.{sym, ap, subst, arith}
use Rattle.lists.specs.Compare.{Eq?, differs, eq?}
use Rattle.definition.specs.Job.{Job, max_reordering}
use Rattle.definition.specs.Outcome.{store_needed}
use Rattle.definition_laws.specs.Sound.{Sound}
use Rattle.theory_pair.specs.Cells.{Side, row₀, row₁, cell, line}
use Rattle.theory_tables.specs.Steps.{state_count}
use Rattle.theory_tables.proofs.States.{counted}
use Rattle.theory_tables.specs.Matched.{Matched}
use Rattle.theory_traceback.specs.Found.{PairFound}
use Rattle.theory_bridge.specs.Paired.{site_of, pose_numbers, pose_number, is_offered, pair_job}
use Rattle.theory_bridge.proofs.Offers.{wide_positive}
use Rattle.theory_claim.specs.Claim.{reorder, claim_none, claim_some, claim_stated}
use Rattle.search_row.specs.declared.Sizes.{Sizes}
use Rattle.search_row.specs.Words.{deck_of, with_cells}
use Rattle.search_row_fill.specs.Ready.{RowReady, same-sizes, ready-given}
use Rattle.search_stage.specs.Laws.{wide_low}
use Rattle.search.specs.Words.{words_for}
use Rattle.search.specs.Rows.{RowsAsked}
use Rattle.search.specs.declared.Found.{Found}
use Rattle.search.specs.Found.{RowsFound, FoundIfAny, found_none}
use Rattle.search.specs.Pair.{RowOf, PairOf, pair-asked, pair_found}
use Rattle.search_job.specs.Solved.{numbers_in, Solved, SolvedIfAny}

-- ---- the store

-- a store that Place takes has the words of the search
pub words-lent : {j : Job} → Sound j → (talls count : ℕ) → count ≡ state_count j.header.reordering
    → words_for talls count ≤ store_needed j
words-lent {j} sound talls count e = go (eqb R 2) (eq? R 2)
  where
    R : ℕ
    R = j.header.reordering

    at_most_one : (n : ℕ) → n ≤ max_reordering → (n ≡ 2 → ⊥) → n ≤ 1
    at_most_one zero h d = omega arith
    at_most_one (suc zero) h d = omega arith
    at_most_one (suc (suc zero)) h d = absurd (d refl)
    at_most_one (suc (suc (suc n))) h d = absurd (omega arith)

    go : (by_two : Bool) → Eq? R 2 by_two → words_for talls count ≤ cond by_two 4194304 1048576
    go true t =
        omega (
          arith,
          wide_low talls talls count 12 (omega arith) (omega (arith, (counted R sound.header.reordering).few, e)),
        )
    go false (differs d) =
        let h : R ≤ 1 = at_most_one R sound.header.reordering d in
        omega (
          arith,
          wide_low talls talls count 3 (omega arith)
              (omega (arith, (counted R sound.header.reordering).fewer h, e)),
        )

-- ---- the rows

-- a cell bears its own number
abbrev self : ℕ → ℕ
self k = k

row_of : {j : Job} {s : Side} {row : List ℕ} {z : Sizes} → RowReady j s row z
    → RowOf site_of (pair_job j) (pose_number j) (is_offered j) self s row z
row_of {j} {s} {row} {z} r = record {
  searched = record {
    matched = subst (λ (n : ℕ). Matched site_of (line (pair_job j) s) (deck_of row z.cells n)
        (λ p a. pose_number j (cell (pair_job j) s p) a) (λ p a. is_offered j (cell (pair_job j) s p) a)) (sym poses)
        r.lined.matched;
    stands = r.stands;
  };
  number = r.lined.number;
  talls = r.talls;
}
  where
    poses : z.poses ≡ pose_numbers j
    poses = ap (λ (x : Sizes). x.poses) r.sizes

module _ {j : Job} {words₀ words₁ : List ℕ} {z y : Sizes} (sound : Sound j) (r₀ : RowReady j row₀ words₀ z)
    (r₁ : RowReady j row₁ words₁ y) where
  second : RowReady j row₁ words₁ (with_cells z y.cells)
  second = subst (λ (x : Sizes). RowReady j row₁ words₁ x) (same-sizes r₀ r₁) r₁

  pair : PairOf site_of (pair_job j) (pose_number j) (is_offered j) self words₀ words₁ z y.cells
  pair = record {
    first = row_of r₀;
    second = row_of second;
    small = λ k h. omega (arith, sound.few);
    apart = λ k m h l e. e;
  }

  pub asked : RowsAsked words₀ words₁ z y.cells
  asked = pair-asked pair (ready-given sound r₀) (ready-given sound second)

  module _ {found : Bool} {x : ℕ} {poses : List ℕ} (f : RowsFound words₀ words₁ z y.cells found x poses) where
    of_pair : PairFound (reorder j) site_of (pair_job j) (wide_positive j sound) (pose_number j) found x (numbers_in poses)
    of_pair = subst (λ (R : ℕ). PairFound R site_of (pair_job j) (wide_positive j sound) (pose_number j) found x
        (numbers_in poses)) (ap (λ (x : Sizes). x.reordering) r₀.sizes)
        (pair_found pair (wide_positive j sound) asked f)

    pub solved : Solved j found x poses
    solved = record {
      none_when = claim_none j sound found x (numbers_in poses) of_pair;
      some_when = claim_some j sound found x (numbers_in poses) of_pair;
      stated = claim_stated j sound found x (numbers_in poses) of_pair;
      numbers = f.numbers;
    }

  -- the same of what the search of the rows finds, if anything
  pub solved_if_any : (r : Option Found) → FoundIfAny words₀ words₁ z y.cells r → SolvedIfAny j r
  solved_if_any None e =
      (solved (found_none words₀ words₁ z y.cells {x = 0} {poses = []} e (λ k. omega arith))).none_when refl
  solved_if_any (Some f) w = solved w
