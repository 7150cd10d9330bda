-- There is no next cell, or it stops short of the other row's last cell; else its ways are put.
use Prim.Native.Nat.{◌<◌, ◌+◌, ◌*◌}
use native.Mathlib.Omega.{arith}
use Rattle.search_row.specs.Words.{cell_words, first_word}
use Rattle.staples_ways.specs.WayLaws.{all_closed, ahead_none, ahead-some, ahead-short}
use Rattle.staples_ways.proofs.ways_ahead.Goals as goal

pub returns-then-next : goal.returns-then-next
returns-then-next c =
    let a = c.args in
    record {
      all = all_closed _ a.next.numbers a.next.numbers c.requires.few c.requires.few
          (λ u v i j. ahead_none a.store.now a.row.now a.next a.last a.rests a.beside c.if-next.true u v);
      first = λ h. absurd (omega arith);
      small = omega arith;
    }

pub returns-then-first-next : goal.returns-then-first-next
returns-then-first-next c =
    let a = c.args in
    record {
      all = all_closed _ a.next.numbers a.next.numbers c.requires.few c.requires.few
          (λ u v i j. ahead-short a.store.now a.row.now a.next a.last a.rests a.beside (omega arith) u v j);
      first = λ h. c.place_of-first.ensures;
      small = omega (arith, c.requires.words.word (a.next.placed * cell_words + first_word));
    }

pub returns : goal.returns
returns c =
    let a = c.args in
    let there : a.next.placed < a.next.cells = omega arith in
    record {
      all = ahead-some a.store.now a.row.now a.next a.last a.rests a.beside there c.fill_all.ensures;
      first = λ h. c.place_of-first.ensures;
      small = omega (arith, c.requires.words.word (a.next.placed * cell_words + first_word));
    }
