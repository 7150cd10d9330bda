-- A broken rule's sentence: phrase, colon, cells and full stop, one after another.
use lib.ListN.{take}
use mathlib.Core.Path.{◌≡◌}
use Rattle.definition.specs.Texts.{bytes}
use Rattle.definition.specs.Reasons.{phrase_of}
use Rattle.text_write.specs.Puts.{then}
use Rattle.reason_write.specs.Sentences.{sentence-broken}
use Rattle.reason_write.proofs.put_sentence.Goals as goal

pub returns : goal.returns
unfolding bytes
returns c =
    let said : c.phrase.result.now ≡ phrase_of c.args.rule = c.phrase.ensures in
    let parts = then c.put_bytes-p.ensures (then c.put_bytes-q.ensures (then c.put_cells-r.ensures c.put_bytes-2.ensures)) in
    rw (sentence-broken c.args.rule (take c.args.count c.args.cells.now) c.if-rule-eq0.false) (rw said at parts)
