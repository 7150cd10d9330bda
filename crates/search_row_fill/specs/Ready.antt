-- A row's words, ready for the search: what the stages and the claim are owed of them.
use Rattle.std.specs.Prelude.{ℕ, ◌≤◌, ◌<◌, ◌≡◌, List, get_or, replicate}
use Rattle.std.proofs.Common.{sym, ap, ap₂, ◌∙◌, subst, arith}
use Rattle.std.proofs.Math.Decide.{dec_lt}
use Rattle.std.proofs.lemmas.List.{length-replicate, get_or-replicate}
use Rattle.std.proofs.Math.ListN.{get_or-eq_default}
use Rattle.definition.specs.Job.{Job, max_cells}
use Rattle.definition_laws.specs.Sound.{Sound}
use Rattle.theory_tables.specs.Steps.{state_count}
use Rattle.theory_pair.specs.Cells.{Side, tall_count, pos}
use Rattle.theory_pair.proofs.Lines.{cell-pos}
use Rattle.theory_bridge.specs.Paired.{pose_numbers, pair_job}
use Rattle.search_row.specs.declared.Sizes.{Sizes}
use Rattle.search_row.specs.Words.{pos_in, with_cells, StateWords, RowGiven}
use Rattle.search_row_fill.specs.Filled.{Lined}
use Rattle.search_row_fill.specs.Talls.{few-talls as few-tall-cells}

-- the sizes of a row of n cells
abbrev pub sizes_of : Job → ℕ → ℕ → ℕ → Sizes
sizes_of j n states talls =
    record { cells = n; poses = pose_numbers j; reordering = j.header.reordering; states = states; talls = talls }

pub record RowReady (j : Job) (s : Side) (row : List ℕ) (z : Sizes) : Type 0 where
  pub sizes : z ≡ sizes_of j z.cells z.states z.talls
  pub lined : Lined j s row z.cells
  pub coded : StateWords j.header.reordering row
  pub all : z.states ≡ state_count j.header.reordering
  pub some : 1 ≤ z.states
  pub talls : z.talls ≡ tall_count (pair_job j)
  pub stands : (I : ℕ) → I < tall_count (pair_job j) → pos_in row I ≡ pos (pair_job j) s I

-- ---- a row as it is filled

pub zeros_small : (n k : ℕ) → get_or (replicate n 0) k 0 < max_cells
zeros_small n k = go (dec_lt k n)
  where
    go : Dec (k < n) → get_or (replicate n 0) k 0 < max_cells
    go (yes h) = omega (arith, get_or-replicate {A = ℕ} n k 0 0 h)
    go (no h) = omega (
      arith,
      get_or-eq_default {A = ℕ} (replicate n 0) 0 {n = k} (omega (arith, length-replicate {A = ℕ} n 0)),
    )

abbrev pub word_in : List ℕ → ℕ → ℕ
word_in l k = get_or l k 0

-- ---- both rows

-- the rows differ in their cells alone
pub same-sizes : {j : Job} {s t : Side} {a b : List ℕ} {z y : Sizes} → RowReady j s a z → RowReady j t b y
    → y ≡ with_cells z y.cells
same-sizes {j} {z = z} {y = y} r u =
    u.sizes
    ∙ ap₂ (sizes_of j y.cells) (u.all ∙ sym r.all) (u.talls ∙ sym r.talls)
    ∙ ap (λ (x : Sizes). with_cells x y.cells) (sym r.sizes)

-- what a function of the search is given of a row
pub ready-given : {j : Job} {s : Side} {row : List ℕ} {z : Sizes} → Sound j → RowReady j s row z → RowGiven row z
ready-given {j} {s} {row} {z} sound r =
    let reordering : z.reordering ≡ j.header.reordering = ap (λ (x : Sizes). x.reordering) r.sizes in
    let poses : z.poses ≡ pose_numbers j = ap (λ (x : Sizes). x.poses) r.sizes in
    record {
      grounded = record {
        size = r.lined.size;
        few = omega (arith, r.lined.few);
        all = r.all ∙ ap state_count (sym reordering);
        words = r.lined.words;
        coded = subst (λ (R : ℕ). StateWords R row) (sym reordering) r.coded;
      };
      few = few-talls;
      inside = λ I h.
          let e = r.stands I (omega (arith, r.talls)) in
          let b = (cell-pos (pair_job j) s I (omega (arith, r.talls))).1 in
          let c = r.lined.matched.size in
          omega arith;
    }
  where
    few-talls : z.talls ≤ 24
    few-talls = omega (arith, r.talls, few-tall-cells j sound)
