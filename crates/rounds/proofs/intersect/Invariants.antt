-- `rounds::intersect` meets its contract: after i starts their rows stand, and their rounds are counted.
use Rattle.std.proofs.Common.{◌≡◌, ◌+◌, length}
use Rattle.rounds.specs.Pair.{Known}
use Rattle.slots.proofs.Turned as laws
use Rattle.rounds.proofs.intersect.Given as goal

abbrev pub invariant-loop-i : goal.invariant-loop-i
invariant-loop-i l = record {
  room : length l.ws ≡ length l.initial.ws;
  turned : laws.Turned l.n l.e (l.e + 2) (λ K S T. Known K S T l.n l.e l.left l.right l.first l.code) l.i l.ws l.rounds;
}
