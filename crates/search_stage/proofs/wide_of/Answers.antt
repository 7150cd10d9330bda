-- By cases.
use Rattle.std.proofs.Common.{inl, inr}
use Rattle.search_stage.specs.Laws.{wide-first, wide-last, wide-tall}
use Rattle.search_stage.proofs.wide_of.Goals as goal

pub returns-then-talls-i : goal.returns-then-talls-i
returns-then-talls-i c =
    elim c.if-talls-i.either [ inl e ↦ wide-first _ _ _ e | inr h ↦ wide-last _ _ _ h.1 ]

pub returns-else-talls-i : goal.returns-else-talls-i
returns-else-talls-i c = wide-tall _ _ _ c.if-talls-i.false.0 c.if-talls-i.false.1
