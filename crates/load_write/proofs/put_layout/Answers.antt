-- The width, then the heights.
use mathlib.Core.Path.{refl}
use native.Mathlib.Omega.{arith}
use lib.ListN.{length-replicate}
use Rattle.definition.specs.Draws.{◌to◌}
use Rattle.load_write.specs.Fields.{fields-then, rest-room}
use Rattle.load_write.proofs.put_layout.Goals as goal

pub put_fields-requires : goal.put_fields-requires
put_fields-requires c =
    record {
      form = record { some = omega arith; few = omega arith };
      room = rest-room c.requires refl c.put_fields-c.ensures (omega (arith, length-replicate c.args.heights (1 to 4)));
    }

pub returns : goal.returns
returns c =
    fields-then c.put_fields-c.ensures c.put_fields.ensures
