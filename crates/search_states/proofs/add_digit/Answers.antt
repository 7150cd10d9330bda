-- The digit's state is the next of those to come just if the test says so.
use Rattle.std.proofs.Common.{sym, ◌∙◌, arith}
use Rattle.search_lanes.specs.Laws.{frame-refl}
use Rattle.theory_tables.proofs.States.{counted}
use Rattle.search_states.specs.Upto.{skip-digit, next-digit, may_low, room, upto-more, with_frame, window-small}
use Rattle.search_states.proofs.add_digit.Goals as goal

pub returns-then-not-may_be_last : goal.returns-then-not-may_be_last
returns-then-not-may_be_last c =
    let t = sym c.may_be_last.ensures ∙ c.if-not-may_be_last.true in
    record { upto = skip-digit _ _ _ (omega arith) t c.requires.coming.upto; frame = frame-refl _ _ _ }

pub put_state-requires : goal.put_state-requires
put_state-requires c =
    let t = sym c.may_be_last.ensures ∙ c.if-not-may_be_last.false in
    let u = next-digit c.args.m c.args.d _ (omega arith) t c.requires.coming.upto in
    record {
      long = omega arith;
      state = room c.requires.coming.reorder u;
      digit = omega arith;
      window = window-small c.requires.coming;
      set = may_low _ _ _ t;
    }

pub overflow_add-result : goal.overflow_add-result
overflow_add-result c = omega (arith, counted c.args.r c.requires.coming.reorder)

pub returns : goal.returns
returns c =
    let t = sym c.may_be_last.ensures ∙ c.if-not-may_be_last.false in
    let u = next-digit c.args.m c.args.d _ (omega arith) t c.requires.coming.upto in
    let r = c.requires.coming.reorder in
    rw c.put_state.ensures
    (record {
      upto = upto-more r (omega arith) (window-small c.requires.coming) u;
      frame = with_frame _ _ _ _ _ (room r u) (frame-refl _ _ _);
    })
