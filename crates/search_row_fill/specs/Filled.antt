-- A row's words while they are written: those of the first n cells of the row are right, the others
-- are still to come, and what lies beyond is 0.
use Rattle.std.specs.Prelude.{ℕ, zero, suc, ◌+◌, ◌*◌, ◌≤◌, ◌<◌, ◌≡◌, refl, Bool, true, false, cond, List, ◌∷◌, length, get_or, drop, replicate}
use Rattle.std.proofs.Common.{sym, ap, subst, ◌∙◌, arith, below_more}
use Rattle.std.proofs.Math.Decide.{dec_lt}
use Rattle.std.proofs.Math.ListN.{get_or-eq_default}
use Rattle.std.proofs.lemmas.List.{length-replicate, get_or-replicate}
use Rattle.definition.specs.Lists as lists
use Rattle.definition.specs.Job.{Job, max_cells}
use Rattle.definition.specs.Job as job
use Rattle.definition.specs.Rules.{cell_at}
use Rattle.definition_laws.specs.Sound.{Sound, SoundCell}
use Rattle.job.specs.declared.Job as declared
use Rattle.job.specs.Value as value
use Rattle.job.specs.Value.{header_of, job_of}
use Rattle.job.specs.Cells.{cell-there}
use Rattle.lists.specs.Numbers.{from}
use Rattle.theory_pair.specs.Cells.{Side, row₀, row₁, members, cell, line}
use Rattle.theory_tables.specs.Matched.{Matched}
use Rattle.theory_bridge.specs.Paired.{row_of, site_of, pose_numbers, pose_number, is_offered, pair_job}
use Rattle.theory_bridge.specs.Words.{keep-pick}
use Rattle.theory_bridge.proofs.Row.{cells_same, members-same}
use Rattle.search_store.specs.Map.{max_poses}
use Rattle.search_lanes.specs.Store.{Low, Written}
use Rattle.search_lanes.specs.Laws.{zeros_low}
use Rattle.search_row.specs.Words.{word_of, deck_of, RowWords, cell_words, number_word}
use Rattle.search_row.specs.Words.{row_length, states_from, talls_from, words_used}
use Rattle.search_states.specs.Rest.{rest, rest_more, rest_all, next}
use Rattle.search_row_fill.specs.Words.{alone, cell_word}
use Rattle.search_row_fill.specs.Cell.{word-alone}
use Rattle.search_row_fill.specs.Values.{one, Ranged, ranged}

-- the side of a row number
abbrev pub side_of : ℕ → Side
side_of zero = row₀
side_of (suc n) = row₁

pub row-side : (row : ℕ) → row ≤ 1 → row_of (side_of row) ≡ row
row-side zero h = refl
row-side (suc zero) h = refl
row-side (suc (suc n)) h = absurd (omega arith)

-- ---- one cell

-- the cell of a job of one cell is written at position n, if it stands in the row
pub record CellAdded (j : Job) (row number n n' : ℕ) (old new : List ℕ) : Type 0 where
  pub there : job.in_row row (cell_at j 0) ≡ true
      → (n' ≡ n + 1) × Written (cell_word j row 0 number) (n * cell_words) words_used old new
  pub away : job.in_row row (cell_at j 0) ≡ false → (n' ≡ n) × (new ≡ old)

-- ---- the row

module _ (j : Job) (s : Side) where
  abbrev stands : ℕ → Bool
  stands k = job.in_row (row_of s) (cell_at j k)

  members-rest : Sound j → members (pair_job j) s ≡ rest stands 0 (length j.cells)
  members-rest sound =
      sym (members-same j sound s)
      ∙ ap (lists.keep stands) (cells_same j sound)
      ∙ keep-pick stands stands (from 0 (length j.cells)) (λ k m. refl)
      ∙ sym (rest_all stands (length j.cells))

  -- the first k cells are looked at, and n of them stand in the row
  pub record RowFilled (l : List ℕ) (n k : ℕ) : Type 0 where
    pub long : row_length ≤ length l
    pub most : length j.cells ≤ max_cells
    pub below : n ≤ k
    pub few : k ≤ length j.cells
    pub upto : n ≤ length (members (pair_job j) s)
    pub left : drop n (members (pair_job j) s) ≡ rest stands k (length j.cells)
    pub low : Low l
    pub words : (p : ℕ) → p < n → (i : ℕ) → i < words_used
        → word_of l p i ≡ cell_word j (row_of s) (cell (pair_job j) s p) (cell (pair_job j) s p) i
    pub zero : (q : ℕ) → n * cell_words ≤ q → q < states_from → get_or l q 0 ≡ 0
    pub upper : (q : ℕ) → talls_from ≤ q → get_or l q 0 < max_cells

  pub filled_none : Sound j → (n : ℕ) → row_length ≤ n → RowFilled (replicate n 0) 0 0
  filled_none sound n h = record {
    long = omega (arith, length-replicate {A = ℕ} n 0);
    most = sound.few;
    below = omega arith;
    few = omega arith;
    upto = omega arith;
    left = members-rest sound;
    low = zeros_low n;
    words = λ p g. absurd (omega arith);
    zero = λ q _ _. go q (dec_lt q n);
    upper = λ q _. let z = go q (dec_lt q n) in omega arith;
  }
    where
      go : (q : ℕ) → Dec (q < n) → ◌≡◌ {A = ℕ} (get_or (replicate n 0) q 0) 0
      go q (yes g) = get_or-replicate n q 0 0 g
      go q (no g) = get_or-eq_default (replicate n 0) 0 (omega (arith, length-replicate {A = ℕ} n 0))

  filled_more : {l l' : List ℕ} {n k : ℕ} → RowFilled l n k → k < length j.cells → stands k ≡ true
      → Written (cell_word (alone j.header (cell_at j k)) (row_of s) 0 k) (n * cell_words) words_used l l'
      → RowFilled l' (n + 1) (k + 1)
  filled_more {l} {l'} {n} {k} f h e w =
      let x = next {d = 0} (members (pair_job j) s) n (f.left ∙ rest_more stands k (length j.cells) h
      ∙ ap (λ t. cond t (k ∷ rest stands (k + 1) (length j.cells)) (rest stands (k + 1) (length j.cells))) e) in
      let i = x.inside in
      record {
        long = let e = w.frame.long in let g = f.long in omega arith;
        most = f.most;
        below = let g = f.below in omega arith;
        few = omega arith;
        upto = omega arith;
        left = x.after;
        low = w.low;
        words = below_more (λ p. (i : ℕ) → i < words_used
            → word_of l' p i ≡ cell_word j (row_of s) (cell (pair_job j) s p) (cell (pair_job j) s p) i) n
            (λ p g i q. w.frame.low (p * cell_words + i) (omega arith) ∙ f.words p g i q)
            (λ i q. w.words i q ∙ word-alone j (row_of s) k i ∙ ap (λ c. cell_word j (row_of s) c c i) (sym x.here));
        zero = λ q g b. w.frame.high q (omega arith) ∙ f.zero q (omega arith) b;
        upper = λ q g. omega (arith, w.frame.high q (omega (arith, f.most, f.below, h)), f.upper q g);
      }

  filled-skip : {l : List ℕ} {n k : ℕ} → RowFilled l n k → k < length j.cells → stands k ≡ false
      → RowFilled l n (k + 1)
  filled-skip {l} {n} {k} f h e = record {
    long = f.long;
    most = f.most;
    below = let g = f.below in omega arith;
    few = omega arith;
    upto = f.upto;
    left = f.left ∙ rest_more stands k (length j.cells) h
        ∙ ap (λ t. cond t (k ∷ rest stands (k + 1) (length j.cells)) (rest stands (k + 1) (length j.cells))) e;
    low = f.low;
    words = f.words;
    zero = f.zero;
    upper = f.upper;
  }

  pub filled-step : {l l' : List ℕ} {n n' k : ℕ} → RowFilled l n k → k < length j.cells
      → CellAdded (alone j.header (cell_at j k)) (row_of s) k n n' l l' → RowFilled l' n' (k + 1)
  filled-step {l} {l'} {n} {n'} {k} f h a = go (stands k) refl
    where
      go : (t : Bool) → stands k ≡ t → RowFilled l' n' (k + 1)
      go true e = let r = a.there e in subst (λ x. RowFilled l' x (k + 1)) (sym r.0) (filled_more f h e r.1)
      go false e =
          let r = a.away e in
          subst (λ x. RowFilled l' x (k + 1)) (sym r.0)
          (subst (λ x. RowFilled x n (k + 1)) (sym r.1) (filled-skip f h e))

  -- what is written above the cells' words does not alter them
  pub filled_on : {l l' : List ℕ} {n k : ℕ} → RowFilled l n k → length l' ≡ length l → Low l'
      → ((q : ℕ) → q < states_from → get_or l' q 0 ≡ get_or l q 0)
      → ((q : ℕ) → talls_from ≤ q → get_or l' q 0 < max_cells) → RowFilled l' n k
  filled_on {l} {l'} f e w same small = record {
    long = omega (arith, e, f.long);
    most = f.most;
    below = f.below;
    few = f.few;
    upto = f.upto;
    left = f.left;
    low = w;
    words = λ p g i h. same (p * cell_words + i) (omega (arith, f.most, f.below, f.few)) ∙ f.words p g i h;
    zero = λ q g b. same q b ∙ f.zero q g b;
    upper = small;
  }

-- ---- all cells

-- the cells of a row, all written
abbrev pub CellsIn : Job → Side → List ℕ → ℕ → Type 0
CellsIn j s l n = RowFilled j s l n (length j.cells)

-- what the search is given of a row
pub record Lined (j : Job) (s : Side) (l : List ℕ) (n : ℕ) : Type 0 where
  pub matched : Matched site_of (line (pair_job j) s) (deck_of l n (pose_numbers j))
      (λ p a. pose_number j (cell (pair_job j) s p) a) (λ p a. is_offered j (cell (pair_job j) s p) a)
  pub words : RowWords l
  pub size : n ≤ max_cells
  pub few : pose_numbers j ≤ max_poses
  pub number : (p : ℕ) → p < n → word_of l p number_word ≡ cell (pair_job j) s p

-- ---- a job as a value

module _ (v : declared.Job) (k : ℕ) (g : k < v.count) (h : k < length (job_of v).cells) where
  pub ranged-at : Sound (job_of v) → Ranged v.header (value.cell_at v k)
  unfolding job_of
  ranged-at sound = ranged v.header (value.cell_at v k) sound.header
      (subst (SoundCell (header_of v.header)) (cell-there v k g) (sound.cell k h))

  pub filled-value : (row : ℕ) → row ≤ 1 → {l l' : List ℕ} {n n' : ℕ} → RowFilled (job_of v) (side_of row) l n k
      → CellAdded (one v.header (value.cell_at v k)) row k n n' l l'
      → RowFilled (job_of v) (side_of row) l' n' (k + 1)
  unfolding job_of
  filled-value row r {l} {l'} {n} {n'} f a =
      filled-step (job_of v) (side_of row) f h
      (subst (λ x. CellAdded (alone (header_of v.header) (cell_at (job_of v) k)) x k n n' l l') (sym (row-side row r))
      (subst (λ c. CellAdded (alone (header_of v.header) c) row k n n' l l') (sym (cell-there v k g)) a))
