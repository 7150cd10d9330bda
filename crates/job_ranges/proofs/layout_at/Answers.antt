-- The heights are the eight numbers after the width.
use mathlib.Core.Path.{◌≡◌}
use native.Mathlib.Omega.{arith}
use Prim.Native.Nat.{◌+◌, ◌-◌}
use lib.ListN.{length}
use borrow.Author.Rules.{rules}
use Rattle.job_ranges.specs.Listed.{spell_part}
use Rattle.job_ranges.proofs.layout_at.Goals as goal

pub returns : goal.returns
returns c =
    let eight : c.args.at + 9 - (c.args.at + 1) ≡ 8 = omega arith in
    let long : length c.args.v ≡ 24 = search rules in
    rw (c.copy_from_slice.ensures.after, eight, spell_part (c.args.at + 1) 8 c.args.v (omega arith))
