-- The search is given a store that is long enough, the store is zero after it, and what is found is 8 or the answer.
use mathlib.Core.Path.{◌≡◌, refl, ap, ◌∙◌}
use native.Mathlib.Omega.{arith}
use lib.ListN.{length, replicate}
use Rattle.op_place.specs.Answers.{answered-none, answered-some}
use Rattle.op_place.proofs.place_job.Goals as goal

pub search_job-found-requires : goal.search_job-found-requires
search_job-found-requires c =
    let k = c.requires in
    record { accepted = record { sound = k.taken.sound; few = k.taken.few; many = k.taken.many }; long = k.store }

pub put_answer-requires : goal.put_answer-requires
put_answer-requires c =
    let o = c.in-Some.ensures in
    record {
      chosen = record {
        taken = c.requires.taken;
        numbers = o.numbers;
        legal = (o.some_when refl).legal _ refl;
        output = c.requires.output;
      };
      many = c.requires.many;
    }

pub returns-in-Some : goal.returns-in-Some
returns-in-Some c =
    let long : length c.search_job-found.new.store ≡ length c.args.store.now = omega arith in
    answered-some c.args.store.now c.args.output.now c.args.results.now c.args.job c.args.count c.in-Some.found.poses
    (c.in-Some.ensures.some_when refl)
    (c.clear.ensures ∙ ap (λ n. replicate n 0) long)
    c.put_answer.ensures

pub refuse_by-requires : goal.refuse_by-requires
refuse_by-requires c = record { line = omega arith; few = omega (arith, c.requires.many.seven) }

pub returns-in-None : goal.returns-in-None
returns-in-None c =
    let long : length c.search_job-found.new.store ≡ length c.args.store.now = omega arith in
    rw c.refuse_by.ensures.number
    (answered-none c.args.store.now c.args.output.now c.args.results.now c.args.count
    c.in-None.ensures
    (c.clear.ensures ∙ ap (λ n. replicate n 0) long)
    c.refuse_by.ensures.array)
