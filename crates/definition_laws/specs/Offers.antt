-- What a cell is offered is within what the job has: its displacement limit, and the cell's own layouts.
use Rattle.std.specs.Prelude.{ℕ, ◌≤◌, Bool, true, false, cond, length}
use Rattle.std.proofs.Common.{arith}
use Rattle.definition.specs.Job.{Header, Cell}
use Rattle.definition.specs.Rules.{offer_of}

fixed-within : (fixed : Bool) (few many : ℕ) → few ≤ many → cond fixed few many ≤ many
fixed-within true few many h = h
fixed-within false few many h = omega arith

pub limit-within : (h : Header) (c : Cell) → (offer_of h c).limit ≤ h.displacement
limit-within h c = fixed-within c.fixed 0 h.displacement (omega arith)

pub layouts-within : (h : Header) (c : Cell) → 1 ≤ length c.layouts → (offer_of h c).layouts ≤ length c.layouts
layouts-within h c some = fixed-within c.fixed 1 (length c.layouts) some
