-- A state that is no source, or all of whose flags are 0, has no way.
use Prim.Native.Nat.{suc, ◌+◌, ◌*◌}
use mathlib.Core.Path.{◌≡◌, sym, ◌∙◌}
use native.Mathlib.Omega.{arith}
use Rattle.std.proofs.lemmas.Bool.Decides.{nat_tests}
use lib.ListN.{get_or}
use Rattle.theory_tables.specs.Steps.{last_at}
use Rattle.search_store.specs.Map.{state_block, flags_from, max_lanes}
use Rattle.search_lanes.specs.Store.{layer_in}
use Rattle.search_lanes.specs.Laws.{said-none}
use Rattle.search_row.specs.Words.{deck_in}
use Rattle.search_buckets.specs.Sources.{poses-above, state_in_lem, state-out}
use Rattle.search_wide_layer.proofs.is_way.Goals as goal

pub returns-else-is_source : goal.returns-else-is_source
returns-else-is_source c =
    record {
      source = λ e. cc;
      none = λ e l v t. omega (
        arith,
        state-out c.args.row.words.now (deck_in c.args.row.words.now c.args.row.sizes) c.args.row.sizes.reordering (layer_in c.args.store.now c.args.layer.at l) c.args.layer.cells
            c.args.q c.args.p v t
            (sym c.is_source.ensures ∙ c.if-is_source.false),
      );
    }

pub returns-then-is_source : goal.returns-then-is_source
returns-then-is_source c =
    record {
      source = λ e. cc;
      none = λ e l v u. omega (
        arith,
        state_in_lem c.args.row.words.now (deck_in c.args.row.words.now c.args.row.sizes) c.args.row.sizes.reordering (layer_in c.args.store.now c.args.layer.at l) c.args.layer.cells c.args.q
            c.args.p v u (sym c.is_source.ensures ∙ c.if-is_source.true),
        poses-above c.args.row.words.now (last_at c.args.row.sizes.reordering c.args.layer.cells c.args.p)
            (last_at c.args.row.sizes.reordering (suc c.args.layer.cells) c.args.q) (layer_in c.args.store.now c.args.layer.at l c.args.p) c.args.row.sizes.poses v u
            (λ b n. omega (
              arith,
              said-none (get_or c.args.store.now (c.args.layer.at + c.args.p * state_block + flags_from + b) 0)
                  (get_or c.args.store.now (c.args.layer.at + c.args.p * state_block + b * max_lanes + l) 0)
                  (omega (arith, c.most.ensures b n, let z : c.most.result ≡ 0 = grind (arith, nat_tests) in z)),
            )),
      );
    }
