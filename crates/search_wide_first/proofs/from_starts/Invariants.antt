-- Each turn starts one lane more.
use Rattle.search_wide_first.specs.Starts.{StartedTo, start_in}
use Rattle.search_wide_first.proofs.from_starts.Given as goal

abbrev pub invariant-loop-l : goal.invariant-loop-l
invariant-loop-l l =
    StartedTo (start_in l.row l.p l.k) l.rows l.buckets l.l l.initial.table l.table
