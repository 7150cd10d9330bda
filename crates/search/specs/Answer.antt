-- From the trace to the answer: what it noted is what each scatter is given, and both scatters together pose the cells.
use Rattle.std.specs.Prelude.{ℕ, ◌/◌, ◌≤◌, ◌<◌, ◌≡◌, refl, List, length, get_or}
use Rattle.std.proofs.Common.{arith}
use Rattle.definition.specs.Job.{max_cells}
use Rattle.theory_tables.specs.Steps.{B, pose_slots}
use Rattle.theory_traceback.specs.Decks.{DecksTraced}
use Rattle.theory_traceback.proofs.Decks.{places₀, places₁, talls-agree}
use Rattle.search_store.specs.Map.{max_kept}
use Rattle.search_row.specs.declared.Sizes.{Sizes}
use Rattle.search_row.specs.Words.{pos_in}
use Rattle.search_back_segment.specs.Traces.{word_at}
use Rattle.search_back.specs.Trace.{RowsTrace}
use Rattle.search_back.specs.Scatter.{cell_at, pose_at, ScatterGiven, Scattered}
use Rattle.search_back.specs.ScatterLaws.{both_scattered, scattered_small}
use Rattle.search.specs.Rows.{RowsAsked, standing}
use Rattle.search.specs.Found.{deck₀, deck₁, least, RowsTraced, Tables, PosesAnswered}

module _ {row₀ row₁ : List ℕ} {z : Sizes} {n₁ : ℕ} (r : RowsAsked row₀ row₁ z n₁) where
  abbrev Back : (ℕ → ℕ) → (ℕ → ℕ) → Type 0
  Back =
      DecksTraced (deck₀ row₀ row₁ z n₁) (deck₁ row₀ row₁ z n₁) z.reordering z.talls (pos_in row₀) (pos_in row₁)

  pub traced-back : {w₀ w₁ : ℕ → ℕ} → least row₀ row₁ z n₁ < B → RowsTraced row₀ row₁ z n₁ w₀ w₁ → Back w₀ w₁
  traced-back h t = record {
    first = standing r.first;
    second = standing r.second;
    poses = refl;
    small = omega (arith, r.first.given.grounded.few);
    cost = h;
    traced = t;
  }

  -- what the trace leaves, with these tables
  pub was_traced : {st st' path₀ path₀' path₁ path₁' : List ℕ} → Tables row₀ row₁ z n₁ st
      → RowsTrace row₀ row₁ z n₁ z.talls 0 0 0 st st' path₀ path₀' path₁ path₁'
      → Back (word_at path₀') (word_at path₁')
  was_traced t w = traced-back t.some (w.done t.ways t.some).traced

  module _ (path₀ path₁ : List ℕ) (b : Back (word_at path₀) (word_at path₁)) where
    pub first-given : {out : List ℕ} → max_kept < length path₀ → max_cells ≤ length out
        → ScatterGiven row₀ path₀ out z.cells
    first-given h l =
        let g = r.first.given.grounded in
        record {
          words = g.words;
          size = g.size;
          room = omega (arith, g.size);
          poses = z.poses;
          places = places₀ b;
          small = λ k u. omega (arith, r.first.small k u);
          apart = r.first.apart;
        }

    pub second-given : {out : List ℕ} → max_kept < length path₁ → max_cells ≤ length out → ScatterGiven row₁ path₁ out n₁
    second-given h l =
        let g = r.second.given.grounded in
        record {
          words = g.words;
          size = g.size;
          room = omega (arith, g.size);
          poses = z.poses;
          places = places₁ b;
          small = λ k u. omega (arith, r.second.small k u);
          apart = r.second.apart;
        }

    -- both rows are scattered, one after the other
    pub answered : {old mid new : List ℕ} → ((k : ℕ) → get_or old k 0 < pose_slots)
        → Scattered row₀ path₀ z.cells old mid
        → Scattered row₁ path₁ n₁ mid new → PosesAnswered row₀ row₁ z n₁ new
    answered small v w = record {
      posed = record {
        path₀ = word_at path₀;
        path₁ = word_at path₁;
        traced = b.traced;
        posed₀ = both_scattered v w agree;
        posed₁ = w.done;
      };
      numbers = scattered_small w (scattered_small v small);
    }
      where
        agree : (i k : ℕ) → 0 < i → i ≤ z.cells → 0 < k → k ≤ n₁ → cell_at row₀ path₀ i ≡ cell_at row₁ path₁ k
            → pose_at path₀ i ≡ pose_at path₁ k
        agree i k h l g m e =
            let I = r.shared (get_or path₀ i 0 / pose_slots) (get_or path₁ k 0 / pose_slots) ((places₀ b).inside i h l)
            ((places₁ b).inside k g m) e in
            talls-agree b I.0 i k I.1 h l g m I.2 I.3
