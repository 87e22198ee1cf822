-- The invariant: the frames of the part before `rest` are written up to `end`. Assumes nothing.
use Rattle.std.proofs.Common.{length}
use Rattle.write_beside.proofs.Walks.{Walked}
use Rattle.write_beside.proofs.put_part.Given as goal

abbrev pub invariant-loop-size : goal.invariant-loop-size
invariant-loop-size l = Walked l.part l.side l.list l.initial.out l.at l.out l.rest l.end

abbrev pub decreases-loop-size : goal.decreases-loop-size
decreases-loop-size l = length l.rest
