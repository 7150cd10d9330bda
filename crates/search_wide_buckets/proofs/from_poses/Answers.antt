use Rattle.std.proofs.Common.{◌≡◌, ◌||◌, Bool, true, false, ◌∙◌, arith, refl}
use Rattle.search_buckets.specs.Sources.{poses-none, poses-more}
use Rattle.search_wide_buckets.specs.Table.{row_in}
use Rattle.search_wide_buckets.specs.TableLaws.{gathered_none, gathered-join}
use Rattle.search_wide_buckets.proofs.from_poses.Goals as goal

neither : (s t : Bool) → (s || t) ≡ false → (s ≡ false) × (t ≡ false)
neither false t e = (refl, e)
neither true t e = cc

pub loop-b-init : goal.loop-b-init
loop-b-init c =
    let s = c.args.source in
    record {
      gathered = gathered_none _ _ _ c.requires.source.table_low
          (λ l v t i j h. omega (arith, poses-none c.args.row.now s.left s.right (row_in c.args.store.now s.at l) v t));
      unused = λ e. refl;
    }

pub loop-b-preserved : goal.loop-b-preserved
loop-b-preserved c =
    let l = c.loop-b in
    let s = c.args.source in
    record {
      gathered = gathered-join l.invariant.gathered c.from_pose-used.ensures.gathered
          (λ j v t i. poses-more c.args.row.now s.left s.right (row_in c.args.store.now s.at j) l.b v t);
      unused = λ e.
          let n = neither l.used _ e in
          c.from_pose-used.ensures.unused n.1 ∙ l.invariant.unused n.0;
    }
