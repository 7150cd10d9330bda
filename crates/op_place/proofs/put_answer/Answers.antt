-- `op_place::put_answer` meets its contract: the placement made of the pose numbers is legal, so its text has room.
use Prim.Native.Nat.{ℕ}
use mathlib.Core.Path.{ap, ◌∙◌}
use mathlib.Core.List.{List, ◌∷◌}
use native.Mathlib.Omega.{arith}
use lib.ListN.{length}
use lib.IntN.{ℤ, pos}
use Rattle.definition.specs.Placement.{Placement, text_of}
use Rattle.definition.specs.Outcome.{over}
use Rattle.job.specs.Value.{job_of, placement_of}
use Rattle.text_write.specs.Puts.{wrote_over}
use Rattle.op_place.specs.Fields.{fields_in}
use Rattle.op_place.specs.Answers.{text-room, text-short, ready}
use Rattle.op_place.proofs.put_answer.Goals as goal

pub put_placement-bytes-requires : goal.put_placement-bytes-requires
put_placement-bytes-requires c =
    let P = c.placement_of-placement.result in
    let n = c.placement_of-placement.ensures in
    record {
      fits = text-room c.args.job c.args.poses (length c.args.output.now) c.requires.chosen P n;
      few = omega (arith, n.count, c.requires.chosen.taken.few);
    }

pub fields_of-fields-requires : goal.fields_of-fields-requires
fields_of-fields-requires c =
    let P = c.placement_of-placement.result in
    let n = c.placement_of-placement.ensures in
    record {
      many = c.requires.many;
      ready = ready c.args.job c.args.poses (length c.args.output.now) c.requires.chosen P n;
      short = omega (
        arith,
        c.put_placement-bytes.ensures.cursor,
        text-short c.args.job c.args.poses (length c.args.output.now) c.requires.chosen P n,
      );
    }

pub returns : goal.returns
returns c =
    let j = job_of c.args.job in
    let same = c.placement_of-placement.ensures.same in
    record {
      text = (wrote_over c.put_placement-bytes.ensures).0 ∙ ap (λ (Q : Placement). over (text_of Q) c.args.output.now) same;
      array =
          c.answer.ensures
          ∙ ap (λ (l : List ℤ). over (pos 0 ∷ pos 0 ∷ l) c.args.results.now)
          (c.fields_of-fields.ensures.list
          ∙ ap (λ (b : ℕ). fields_in c.args.count j (placement_of c.placement_of-placement.result) b) (wrote_over c.put_placement-bytes.ensures).1
          ∙ ap (λ (Q : Placement). fields_in c.args.count j Q (length (text_of Q))) same);
    }
