-- The measure is how many layers are left.
use Rattle.search_back_segment.proofs.+trace.Given as goal

abbrev pub decreases-trace : goal.decreases-trace
decreases-trace l = l.d
