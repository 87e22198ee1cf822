-- The event is in the table if there are so many, and its clock stands in its slot. Assumes nothing.
use native.Mathlib.Omega.{arith}
use Rattle.std.proofs.lemmas.Grind.{common_steps}
use Rattle.table.proofs.Clocks.{event_missing, event-there}
use Rattle.table.proofs.clock.known.Goals as goal

pub returns-then-from-k : goal.returns-then-from-k
returns-then-from-k c = λ K g. event_missing _ g _ _ _ c.from.ensures c.if-from-k.true

pub slot-at-requires : goal.slot-at-requires
slot-at-requires c = let p = c.requires in let q = p.by_index c.args.j in omega (arith, c.from.ensures)

pub returns : goal.returns
returns c = λ K g. event-there _ g _ _ _ c.from.ensures c.if-from-k.false c.requires.j_in_bounds.0 _ c.slot-at.ensures.0 _ (grind (arith, common_steps, c.inside.ensures))
