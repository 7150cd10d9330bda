-- A row as it is filled: its cells, its tall cells' positions, its states.
use Rattle.std.specs.Prelude.{ℕ, ◌+◌, ◌-◌, ◌≤◌, ◌<◌, ◌≡◌, refl, List, length, get_or}
use Rattle.std.proofs.Common.{ap, ◌∙◌, arith}
use Rattle.std.proofs.Math.Decide.{dec_lt}
use Rattle.definition.specs.Job.{Job, max_cells}
use Rattle.definition_laws.specs.Sound.{Sound}
use Rattle.theory_pair.specs.Cells.{Side, tall_count, pos}
use Rattle.theory_bridge.specs.Paired.{pair_job}
use Rattle.search_lanes.specs.Store.{Written}
use Rattle.search_row.specs.Words.{pos_in, row_length, talls_from}
use Rattle.search_states.specs.Upto.{Coded}
use Rattle.search_row_fill.specs.Filled.{CellsIn, Lined, filled_on}
use Rattle.search_row_fill.proofs.Filled.{lined}
use Rattle.search_row_fill.specs.TallWords.{talls_in, TallWords, talls-count, talls-few, talls-pos}
use Rattle.search_row_fill.specs.Ready.{sizes_of, RowReady, word_in}

pub cells-lined : {j : Job} {s : Side} {l : List ℕ} {n : ℕ} → Sound j → CellsIn j s l n → Lined j s l n
cells-lined {j} {s} {l} {n} sound f = lined j sound s l n (length j.cells) f refl

-- room for all positions
pub cells-talls : {j : Job} {s : Side} {l : List ℕ} {n : ℕ} → Sound j → CellsIn j s l n
    → (n ≤ max_cells) × (length (talls_in l n) ≤ 24)
cells-talls sound f = let w = cells-lined sound f in (w.size, talls-few w sound)

module _ {j : Job} {s : Side} {cells talls row places : List ℕ} {n count states : ℕ} (sound : Sound j)
    (f : CellsIn j s cells n) (t : TallWords cells n places count)
    (w : Written (word_in places) talls_from 32 cells talls) (c : Coded j.header.reordering talls row states) where
  -- the words above all states are positions
  upper : (q : ℕ) → talls_from ≤ q → get_or row q 0 < max_cells
  upper q h = go (dec_lt q row_length)
    where
      go : Dec (q < row_length) → get_or row q 0 < max_cells
      go (yes g) =
          let k = q - talls_from in
          let e : talls_from + k ≡ q = omega arith in
          omega (
            arith,
            c.frame.high q (omega arith),
            ap (λ (i : ℕ). get_or talls i 0) e,
            w.words k (omega arith),
            t.small k,
          )
      go (no g) = omega (arith, c.frame.high q (omega arith), w.frame.high q (omega arith), f.upper q h)

  first : Lined j s cells n
  first = cells-lined sound f

  written : CellsIn j s row n
  written =
      filled_on j s f (c.frame.long ∙ w.frame.long) c.low
      (λ q h. c.frame.low q h ∙ w.frame.low q (omega arith)) upper

  -- the positions are those of the tall cells
  stands : (I : ℕ) → I < tall_count (pair_job j) → pos_in row I ≡ pos (pair_job j) s I
  unfolding pos_in
  stands I h =
      let few = talls-few first sound in
      let all = talls-count first in
      c.frame.high (talls_from + I) (omega arith) ∙ w.words I (omega arith) ∙ (talls-pos first t).1 I h

  pub row-ready : RowReady j s row (sizes_of j n states count)
  row-ready = record {
    sizes = refl;
    lined = cells-lined sound written;
    coded = c.coded;
    all = c.all;
    some = c.some;
    talls = (talls-pos first t).0;
    stands = stands;
  }
