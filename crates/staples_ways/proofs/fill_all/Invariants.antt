-- Each turn puts the ways after one number more of the other row's last cell.
use Rattle.staples_ways.specs.Ways.{later_by, rests_by, ways_in, AllPut}
use Rattle.staples_ways.proofs.fill_all.Given as goal

abbrev pub invariant-loop-u : goal.invariant-loop-u
invariant-loop-u l =
    AllPut (λ k. ways_in l.store l.row l.next (later_by l.last k) (rests_by l.rests l.beside k)) l.next.numbers l.u l.ways
