-- The invariant: the lines of the frames before `rest` stand in out up to `end`. Assumes nothing.
use lib.ListN.{length}
use Rattle.entries.proofs.Writes.{Lined}
use Rattle.entries.proofs.put_lines.Given as goal

abbrev pub invariant-loop-rest : goal.invariant-loop-rest
invariant-loop-rest l = Lined l.list l.initial.out l.out l.rest l.end

abbrev pub decreases-loop-rest : goal.decreases-loop-rest
decreases-loop-rest l = length l.rest
