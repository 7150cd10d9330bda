-- The comma, then the digits.
use mathlib.Core.List.{[], ◌∷◌, ◌++◌}
use Rattle.definition.specs.Texts.{comma, digits}
use Rattle.text_write.specs.Put.{Room}
use Rattle.text_write.specs.Puts.{then, first, rest}
use Rattle.load_write.specs.Fields.{listed-one}
use Rattle.load_write.proofs.put_listed.Goals as goal
use Rattle.load_write.proofs.put_listed.Goals.{Start}

whole : (c : Start) → Room ((comma ∷ []) ++ digits c.args.n) c.args.output.now c.args.at
whole c = rw (listed-one c.args.n) at c.requires

pub put_byte-p-requires : goal.put_byte-p-requires
put_byte-p-requires c =
    first (digits c.args.n) (whole (goal.at-put_byte-p-requires c).Start)

pub put_number-requires : goal.put_number-requires
put_number-requires c =
    rest (whole (goal.at-put_number-requires c).Start) c.put_byte-p.ensures

pub returns : goal.returns
returns c =
    rw (listed-one c.args.n) (then c.put_byte-p.ensures c.put_number.ensures)
