-- The claims at work on small texts: what a caller who believes them learns. A claim that says less does not give it.
use Rattle.std.specs.Prelude.{ℕ, ◌+◌, ◌≤◌, ◌<◌, ◌≡◌, refl, ◌⊎◌, List, [], ◌∷◌, length, get_or, take, drop, pos}
use Rattle.std.proofs.Common.{ap, ◌∙◌, inl, inr, arith}
use Rattle.std.specs.Borrow.{Bor}
use Rattle.definition.specs.Texts.{Text, bytes}
use Rattle.definition.specs.Placement.{Placement}
use Rattle.definition.specs.Rules.{Legal}
use Rattle.definition.specs.Cost.{cost}
use Rattle.definition.specs.Moves.{Move, left, change_by, alter, moved_by, after}
use Rattle.definition.specs.Outcome.{buffer_refusal, Buffers, Returned, Demand3, Demand3Of, over}
use Rattle.definition.specs.FaultLine.{part_at, fault_line, Very, ToldFault}
use Rattle.definition.specs.Edges.{five_sites, in_five_at_one}
use Rattle.definition.specs.EdgesComputed.{opened}
use Rattle.definition.specs.Worked.{one_cell}
use Rattle.definition_laws.specs.Agree.{verdict-legal}
use Rattle.definition_laws.specs.Search.{all_placements}
use Rattle.definition_laws.specs.EdgesHold.{job_of, all_fail, all-cost}

-- ---- demand 3

-- two cells of width 2 given at 0 and 3 in five sites, D 0: 8 comes back
pub none_comes_back : {returned : ℕ} {before end : Buffers}
    → buffer_refusal (job_of five_sites) (length before.store) (length before.output) ≡ 0
    → Demand3Of (bytes five_sites) returned before end → returned ≡ 8
unfolding opened all_placements job_of
none_comes_back e d =
    (d (job_of five_sites) refl e).none_when.1 (λ ms l. all_fail (job_of five_sites) refl (after (job_of five_sites) ms) l)

-- a cell given one site from its row's start, D 1: a placement comes back, and it costs 1
shift : List Move
shift = record { cell = 0; change = left } ∷ []

shift-legal : Legal (job_of in_five_at_one) (after (job_of in_five_at_one) shift)
unfolding opened after moved_by alter change_by job_of shift
shift-legal = (verdict-legal (job_of in_five_at_one) (after (job_of in_five_at_one) shift) refl).0 refl

shift-cost : cost (job_of in_five_at_one) (after (job_of in_five_at_one) shift) ≡ 1
unfolding opened after moved_by alter change_by job_of shift
shift-cost = refl

no_less : (P : Placement) → Legal (job_of in_five_at_one) P → 1 ≤ cost (job_of in_five_at_one) P
unfolding opened all_placements job_of
no_less P l = all-cost (job_of in_five_at_one) 1 refl P l

module _ {returned : ℕ} {before end : Buffers} (d : Demand3 (job_of in_five_at_one) returned before end) where
  answered : returned ≡ 0
  answered = go d.answers
    where
      go : (returned ≡ 0) ⊎ (returned ≡ 8) → returned ≡ 0
      go (inl e) = e
      go (inr e) = absurd (d.none_when.0 e shift shift-legal)

  costs-one : (P : Placement) → Returned (job_of in_five_at_one) before end P → cost (job_of in_five_at_one) P ≡ 1
  costs-one P r = omega (arith, no_less P r.legal, r.least shift shift-legal, shift-cost)

  stated-one : 6 < length before.results → get_or end.results 6 (pos 0) ≡ pos 1
  stated-one h = let p = d.returns answered in p.1.stated h ∙ ap pos (costs-one p.0 p.1)

pub one_comes_back : {returned : ℕ} {before end : Buffers}
    → buffer_refusal (job_of in_five_at_one) (length before.store) (length before.output) ≡ 0
    → Demand3Of (bytes in_five_at_one) returned before end → 6 < length before.results
    → (returned ≡ 0) × (get_or end.results 6 (pos 0) ≡ pos 1)
unfolding opened job_of
one_comes_back e d h = let x = d (job_of in_five_at_one) refl e in (answered x, stated-one x h)

-- ---- Fault line

-- a placement whose second line is surplus and has no line feed
abbrev surplus : Text
surplus = bytes "2,0,0\n6,0,0"

pub told-surplus : {returned : ℕ} {part' : List ℕ}
    → ToldFault (bytes one_cell) surplus returned (7 ∷ 7 ∷ 7 ∷ 7 ∷ []) part'
    → (returned ≡ 5) × (part' ≡ (1 ∷ 6 ∷ 5 ∷ 7 ∷ []))
unfolding opened fault_line part_at over
told-surplus t = (t.number, t.array)

-- that very part: those five bytes, six bytes into the placement's own block
pub very_surplus : (job placement r : Bor (List ℕ)) → placement.now ≡ surplus
    → Very (fault_line (bytes one_cell) surplus) job placement r
    → (r.now ≡ bytes "6,0,0") × (r.ref_ptr.0 ≡ placement.ref_ptr.0) × (r.ref_ptr.1 ≡ placement.ref_ptr.1 + 6)
unfolding opened fault_line part_at
very_surplus job placement r e v = (v.shows ∙ ap (λ l. take 5 (drop 6 l)) e, v.block, v.offset)
