-- The count fits its byte, since no station has more events than there may be. Assumes nothing.
use native.Mathlib.Omega.{arith}
use Rattle.frame.proofs.State.with_event.Goals as goal

pub overflow_add-counts : goal.overflow_add-counts
overflow_add-counts c = let a = c.args in omega (arith, c.requires.bounded.each a.j, c.requires.j_lt_stations)
