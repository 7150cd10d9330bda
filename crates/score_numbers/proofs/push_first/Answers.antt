-- Each number is a signed number of 32 bits, pushed after the one before it.
use Rattle.std.proofs.Common.{rules}
use mir.Syntax.{w32}
use mir.Facts.{to_z_pos, to_z-of_z}
use Rattle.results.specs.Fields.{more-then}
use Rattle.score_numbers.proofs.push_first.Goals as goal

pub returns : goal.returns
returns c =
    let s = c.requires.small in
    let two = more-then c.push.ensures c.push-2.ensures in
    let three = more-then two c.push-3.ensures in
    let four = more-then three c.push-4.ensures in
    let five = more-then four c.push-5.ensures in
    let drift = to_z-of_z {w = w32} {z = c.args.n.drift} (search rules) in
    let all = rw drift at (more-then five c.push-6.ensures) in
    rw (
      ← to_z_pos w32 s.steps,
      ← to_z_pos w32 s.shifted,
      ← to_z_pos w32 s.mirrored,
      ← to_z_pos w32 s.changed,
      ← to_z_pos w32 s.cost,
    ) all
