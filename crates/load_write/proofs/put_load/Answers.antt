-- Each turn puts the line of one cell more.
use native.Mathlib.Omega.{arith}
use Rattle.definition.specs.Texts.{bytes}
use Rattle.load_laws.specs.Accepted.{load-sound}
use Rattle.load_write.specs.Cells.{load-ready, load-room, begun-stands, header_wrote, more_wrote, more-stands}
use Rattle.load_write.proofs.put_load.Goals as goal

pub loop-i-init : goal.loop-i-init
unfolding bytes
loop-i-init c =
    (header_wrote c.args.seed c.put_bytes-at.ensures, begun-stands c.args.seed c.put_bytes-at.result c.seeded.result c.seeded.ensures)

pub put_cell-p-requires : goal.put_cell-p-requires
put_cell-p-requires c =
    let sound = load-sound c.args.seed c.loop-i.i (omega (arith, c.requires.few)) in
    record {
      cell = load-ready sound (omega (arith, c.requires.few)) c.loop-i.invariant.1;
      line = load-room sound (omega (arith, c.requires.few)) c.requires.enough c.loop-i.invariant.0;
    }

pub loop-i-preserved : goal.loop-i-preserved
loop-i-preserved c =
    let st = c.loop-i.invariant.1 in
    (more_wrote c.args.seed c.loop-i.i c.put_cell-p.ensures st c.loop-i.invariant.0, more-stands c.args.seed c.loop-i.i c.put_cell-p.ensures st)
