-- The sources are gathered from arrays of NONE; once the far rows ran up, each pose finds there what it can be reached for.
use Prim.Native.Nat.{suc, ◌<◌}
use mathlib.Core.Path.{◌≡◌, ap, ◌∙◌}
use native.Mathlib.Omega.{arith}
use Rattle.definition.specs.Job.{max_cells}
use Rattle.theory_tables.specs.Steps.{last_at}
use Rattle.search_row.specs.Words.{deck_in}
use Rattle.search_row.specs.Laws.{there-size}
use Rattle.search_buckets.specs.Rows.{buckets_in}
use Rattle.search_buckets.specs.Sources.{states-low, states_twin}
use Rattle.search_buckets.specs.Next.{next-found}
use Rattle.search_dense_layer.specs.Thin.{thin_in}
use Rattle.search_dense_layer.specs.Laws.{buckets_twin}
use Rattle.search_dense_layer.specs.Found.{lent_none, lent_found, found-there, put-words}
use Rattle.search_dense_layer.proofs.target_there.Goals as goal
use Rattle.search_dense_layer.proofs.target_there.Goals.{After-last_at-m}

-- the target's position
here : (c : After-last_at-m) →
    (c.last_at-m.result ≡ last_at c.args.row.sizes.reordering (suc c.args.layer.cells) c.args.q)
here c = omega (arith, c.last_at-m.ensures)

inside : (c : After-last_at-m) → c.last_at-m.result < max_cells
inside c =
    omega (
      arith,
      here c,
      there-size c.args.row.sizes.cells c.args.row.sizes.reordering (suc c.args.layer.cells) c.args.q c.requires.target.there,
      c.requires.given.grounded.size,
    )

pub gather-requires : goal.gather-requires
gather-requires c = record { arrays = rw c.empty-buckets.ensures lent_none; sought = c.requires }

pub put-requires : goal.put-requires
put-requires c =
    let g = c.requires.given in
    record {
      arrays = lent_found c.empty-buckets.ensures c.gather.ensures c.run_up.ensures c.buckets_of.result
          c.apart_or_near-apart.ensures;
      words = g.grounded.words;
      low = g.low;
      room = omega (arith, g.room, c.requires.target.state, g.grounded.coded.few);
      cell = inside (goal.at-put-requires c).After-last_at-m;
      few = g.grounded.few;
    }

pub returns : goal.returns
returns c =
    let g = c.requires.given in
    let z = c.args.row.sizes in
    let i = c.args.layer.cells in
    let row = c.args.row.words.now in
    let D = deck_in row z in
    let f = thin_in c.args.store.now c.args.layer.at in
    let m = here (goal.at-returns c).After-last_at-m in
    let found = found-there c.empty-buckets.ensures c.gather.ensures c.run_up.ensures
    (states-low row D z.reordering f i c.args.q z.states)
    c.apart_or_near-apart.ensures (c.buckets_of.ensures ∙ ap (buckets_in row) m)
    (λ n v t h. states_twin row D z.reordering f i c.args.q z.states v t
    (buckets_twin row (last_at z.reordering (suc i) c.args.q) n) h) in
    put-words D z.reordering i c.args.layer.at c.args.q c.put.ensures (omega arith) (omega (arith, g.grounded.few))
    (λ b l. next-found row z.cells z.poses z.reordering f i c.args.q b c.requires.target.there g.grounded.all m
    (found b (omega (arith, g.grounded.few))))
