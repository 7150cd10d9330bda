-- By the sign: `-` and then the size, or the size alone.
use mathlib.Core.Path.{◌≡◌}
use mathlib.Core.Bool.{true, false}
use mathlib.Core.List.{◌∷◌}
use native.Mathlib.Omega.{arith}
use borrow.Author.Rules.{rules}
use Rattle.std.proofs.lemmas.Int.{ints}
use lib.IntN.{pos, nat_abs}
use lib.Signed.{lt_z}
use Rattle.definition.specs.Texts.{minus, digits, signed}
use Rattle.text_laws.specs.Numbers.{signed_below, signed-from}
use Rattle.text_write.specs.Puts.{then, first, rest}
use Rattle.text_write.proofs.put_signed.Goals as goal
use Rattle.text_write.proofs.put_signed.Goals.{Else-z-lt0, Then-z-lt0}

below : (c : Then-z-lt0) → signed c.args.z ≡ minus ∷ digits c.unsigned_abs-size.result
below c =
    let t : lt_z c.args.z (pos 0) ≡ true = grind (arith, ints) in
    let e : c.unsigned_abs-size.result ≡ nat_abs c.args.z = search rules in
    rw (signed_below c.args.z t, e)

above : (c : Else-z-lt0) → signed c.args.z ≡ digits c.unsigned_abs-size.result
above c =
    let t : lt_z c.args.z (pos 0) ≡ false = grind (arith, ints) in
    let e : c.unsigned_abs-size.result ≡ nat_abs c.args.z = search rules in
    rw (signed-from c.args.z t, e)

pub put_byte-p-requires : goal.put_byte-p-requires
put_byte-p-requires c = first _ (rw (below (goal.at-put_byte-p-requires c).Then-z-lt0) at c.requires)

pub put_number-requires : goal.put_number-requires
put_number-requires c = rest (rw (below (goal.at-put_number-requires c).Then-z-lt0) at c.requires) c.put_byte-p.ensures

pub returns-then-z-lt0 : goal.returns-then-z-lt0
returns-then-z-lt0 c =
    rw (below (goal.at-returns-then-z-lt0 c).Then-z-lt0) (then c.put_byte-p.ensures c.put_number.ensures)

pub put_number-requires-2 : goal.put_number-requires-2
put_number-requires-2 c = rw (above (goal.at-put_number-requires-2 c).Else-z-lt0) at c.requires

pub returns : goal.returns
returns c = rw (above (goal.at-returns c).Else-z-lt0) c.put_number-2.ensures
