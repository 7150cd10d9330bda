-- The first line feed ends the line; without one it goes to the end of the text.
use mathlib.Core.Path.{sym}
use Rattle.text_scan.proofs.Feed.{to_feed, to_end}
use Rattle.text_scan.proofs.line_end.Goals as goal

pub returns-in-Some : goal.returns-in-Some
returns-in-Some c = to_feed _ _ c.requires _ (sym c.in-Some.ensures)

pub returns-in-None : goal.returns-in-None
returns-in-None c = to_end _ _ c.requires (sym c.in-None.ensures)
