-- `lookups::put_all` meets its contract: after i starts their rows stand, and their rounds are counted.
use Rattle.std.proofs.Common.{◌+◌}
use Rattle.slots.proofs.Turned as laws
use Rattle.lookups.proofs.Starts.{Begun}
use Rattle.lookups.proofs.put_all.Given as goal

abbrev pub invariant-loop-i : goal.invariant-loop-i
invariant-loop-i l = laws.Turned l.n l.q.x.e (l.q.x.e + 5) (Begun l.n l.q.x.e l.q.s l.t.out.now l.t.last.now l.t.cuts.now l.t.first.now l.t.picks.now l.t.chain.now l.code) l.i l.ws l.rounds
