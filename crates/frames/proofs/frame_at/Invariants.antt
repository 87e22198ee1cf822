-- `frame_at` meets its contract. The loop's invariant: what is left is the list of the frames from number `i` on. Assumes nothing.
use Rattle.frames.proofs.Walks.{Passed}
use Rattle.frames.proofs.frame_at.Given as goal

abbrev pub invariant-loop : goal.invariant-loop
invariant-loop l = Passed l.list l.index l.rest l.counter
