-- Opening, layouts and line feed, one after another.
use Rattle.load_write.specs.Cells.{opening-room, layouts-room, feed_room, cell_wrote}
use Rattle.load_write.proofs.put_cell.Goals as goal

pub put_opening-at-requires : goal.put_opening-at-requires
put_opening-at-requires c =
    opening-room c.draw_opening-opening.result c.heights_of-heights.result c.draw_opening-opening.ensures
    c.heights_of-heights.ensures c.requires.line

pub put_layouts-c-requires : goal.put_layouts-c-requires
put_layouts-c-requires c =
    layouts-room c.draw_opening-opening.result c.heights_of-heights.result c.draw_opening-opening.ensures
    c.heights_of-heights.ensures c.requires.line c.put_opening-at.ensures

pub put_byte-at-requires : goal.put_byte-at-requires
put_byte-at-requires c =
    feed_room c.draw_opening-opening.result c.heights_of-heights.result c.draw_opening-opening.ensures
    c.heights_of-heights.ensures c.requires.line c.put_opening-at.ensures c.put_layouts-c.ensures

pub returns : goal.returns
returns c =
    cell_wrote c.draw_opening-opening.result c.heights_of-heights.result c.draw_opening-opening.ensures
    c.heights_of-heights.ensures c.requires.line c.put_opening-at.ensures c.put_layouts-c.ensures
    c.put_byte-at.ensures c.tally_with-tally.ensures
