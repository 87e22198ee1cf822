-- The first i structures are done, and what stands behind them is as it was.
use Rattle.modal.specs.Post.{Possible}
use Rattle.modal.proofs.lower.Given as goal

abbrev pub invariant-loop-i : goal.invariant-loop-i
invariant-loop-i l = Possible l.x l.i l.starts l.initial.ws l.ws l.initial.bs l.bs
