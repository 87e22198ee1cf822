-- The recursion over a question's bytes: its measure is the length of what is left. Assumes nothing.
use lib.ListN.{length}
use Rattle.query.proofs.+measure.Given as goal

abbrev pub decreases-measure : goal.decreases-measure
decreases-measure l = length l.q.now
