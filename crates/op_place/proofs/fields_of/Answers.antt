-- `op_place::fields_of` meets its contract: the numbers as the definition lists them, then the text's length.
use Prim.Native.Nat.{◌≤◌}
use mathlib.Core.Path.{ap, ◌∙◌}
use mathlib.Core.List.{List, [], ◌∷◌, ◌++◌}
use native.Mathlib.Omega.{arith}
use lib.ListN.{take, length-take}
use lib.IntN.{ℤ, pos}
use mir.Syntax.{w32}
use mir.Facts.{to_z_pos}
use Rattle.job.specs.Value.{job_of, placement_of}
use Rattle.results.specs.Fields.{max_fields, more-then}
use Rattle.score_numbers.specs.Counted.{numbers_in, numbers-listed}
use Rattle.op_place.proofs.fields_of.Goals as goal
use Rattle.op_place.proofs.fields_of.Goals.{After-push}

pub numbers_of-numbers-requires : goal.numbers_of-numbers-requires
numbers_of-numbers-requires c = c.requires.ready

pub push_numbers-fields-requires : goal.push_numbers-fields-requires
push_numbers-fields-requires c =
    let many = c.requires.many in
    record { many = many; room = omega (arith, c.empty.ensures.count, many.seven); small = c.numbers_of-numbers.ensures.small }

pub push-requires : goal.push-requires
push-requires c =
    let n = c.numbers_of-numbers.result in
    omega (arith, c.push_numbers-fields.ensures.count, c.empty.ensures.count, length-take c.args.count (numbers_in n), c.requires.many.seven)

-- at most eight fields
room : (c : After-push) → c.push.result.count ≤ max_fields
room c =
    let n = c.numbers_of-numbers.result in
    omega (
      arith,
      c.push.ensures.count,
      c.push_numbers-fields.ensures.count,
      c.empty.ensures.count,
      length-take c.args.count (numbers_in n),
      c.requires.many.seven,
    )

pub returns : goal.returns
returns c =
    let n = c.numbers_of-numbers in
    let all = more-then c.push_numbers-fields.ensures c.push.ensures in
    let told = rw (to_z_pos w32 c.requires.short) at all.list in
    record {
      list =
          told
          ∙ ap (λ (l : List ℤ). l ++ (take c.args.count (numbers_in n.result) ++ (pos c.args.bytes ∷ []))) c.empty.ensures.list
          ∙ ap (λ (l : List ℤ). l ++ (pos c.args.bytes ∷ [])) (numbers-listed c.args.count (job_of c.args.job) (placement_of c.args.placement) n.result n.ensures);
      few = room (goal.at-returns c).After-push;
    }
