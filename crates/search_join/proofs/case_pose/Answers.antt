use mathlib.Core.Path.{◌≡◌}
use native.Mathlib.Omega.{arith}
use Rattle.search_join.specs.Tables.{PoseCases}
use Rattle.search_join.specs.Parts.{table-part, summed-part, pose-more}
use Rattle.search_join.proofs.case_pose.Goals as goal

pub put_case-requires : goal.put_case-requires
put_case-requires c =
    let p = c.loop-q1.invariant in
    record {
      joining = record {
        table = table-part c.args.join.starts c.args.join.lanes c.args.join.i c.requires.table p;
        summed = summed-part c.args.join (PoseCases c.args.q0 c.loop-q1.q1 c.args.a) c.requires.table (λ q₀ q₁ b r. (omega arith, omega arith, omega arith)) p
            c.args.q0 c.args.a (omega arith) (omega arith) c.fill_sums-live.ensures;
        fits = record { state₀ = c.requires.state; state₁ = omega arith; pose = omega (arith, c.requires.offered) };
      };
      pages = omega (arith, c.requires.pages, p.long);
    }

pub loop-q1-preserved : goal.loop-q1-preserved
loop-q1-preserved c =
    let l = c.loop-q1 in
    pose-more c.args.join.starts c.args.join.lanes c.args.join.i c.args.q0 l.q1 c.args.a c.requires.table (omega arith) (omega arith) (omega arith) l.invariant
    c.put_case.ensures

pub returns : goal.returns
returns c =
    let e : c.loop-q1.q1 ≡ c.args.ends = omega arith in
    record { part = rw e at c.loop-q1.invariant; room = c.fill_sums-live.ensures.all.room }
