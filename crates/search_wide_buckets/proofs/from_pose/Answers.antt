-- A source whose flag is 0, or that ends right of all rows that count, lowers nothing; another one is spread over the
-- buckets.
use Rattle.std.proofs.Common.{ℕ, ◌≡◌, ◌<◌, ◌+◌, ◌-◌, ◌*◌, List, true, false, length, take, drop, sym, ap, ◌∙◌, get_or, refl, arith}
use Rattle.std.proofs.lemmas.Grind.{common_steps}
use Rattle.search_store.specs.Map.{max_lanes}
use Rattle.search_lanes.specs.Store.{Low, said_in}
use Rattle.search_lanes.specs.Laws.{said-none, said-word}
use Rattle.search_buckets.specs.Rows.{end_row_of, pay_in, one_pose}
use Rattle.search_buckets.specs.Laws.{row-above}
use Rattle.search_buckets.specs.Sources.{pays-low, pose-pays}
use Rattle.search_wide_buckets.specs.TableLaws.{spread-all, gathered_none}
use Rattle.search_wide_buckets.specs.SpreadLaws.{nine-most}
use Rattle.search_wide_buckets.proofs.from_pose.Goals as goal

-- a part of the store has the store's words
part_word : (st : List ℕ) (at n l : ℕ) → l < n → get_or (take (at + n - at) (drop at st)) l 0 ≡ get_or st (at + l) 0
part_word st at n l h = grind (arith, common_steps)

part_low : (st : List ℕ) (at n : ℕ) → Low st → Low (take (at + n - at) (drop at st))
part_low st at n w = record { word = λ k. grind (arith, common_steps, w.word (at + k)) }

pub returns-then-store-source-eq0 : goal.returns-then-store-source-eq0
returns-then-store-source-eq0 c =
    let s = c.args.source in
    record {
      gathered = gathered_none _ _ _ c.requires.source.table_low
          (λ l v t i j h.
          omega (
            arith,
            said-none _ (get_or c.args.store.now (s.at + c.args.b * max_lanes + l) 0) c.if-store-source-eq0.true,
            row-above (end_row_of c.args.row.now s.left c.args.b s.right) t
                (said_in c.args.store.now s.at c.args.b l + pay_in c.args.row.now s.left c.args.b s.right v),
          ));
      unused = λ e. refl;
    }

pub spread_row-requires : goal.spread_row-requires
spread_row-requires c =
    let g = c.requires.source in
    record {
      lent = record { long = g.table_long; low = g.table_low };
      low = part_low _ _ _ g.low;
      narrow = grind (arith, common_steps);
      needed = g.needed;
      paid = pays-low g.words g.paid;
      kind = omega arith;
      here = omega arith;
    }

pub returns : goal.returns
returns c =
    let s = c.args.source in
    let st = c.args.store.now in
    let at : ℕ = s.at + c.args.b * max_lanes in
    let all : length (take (at + c.args.lanes - at) (drop at st)) ≡ c.args.lanes = grind (arith, common_steps) in
    record {
      gathered = spread-all c.requires.few (rw all at c.spread_row.ensures)
          (λ l v r i j. ap (λ (x : ℕ). one_pose c.args.row.now s.left s.right c.args.b x v r)
          (said-word _ _ c.if-store-source-eq0.false ∙ sym (part_word st at c.args.lanes l i))
          ∙ pose-pays c.args.b v r (get_or (take (at + c.args.lanes - at) (drop at st)) l 0) c.requires.source.paid
          c.end_row-t.ensures j (nine-most c.requires.source.needed));
      unused = λ e. absurd (let z : true ≡ false = e in cc);
    }
