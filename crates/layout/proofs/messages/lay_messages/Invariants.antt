-- The invariant: the first q messages stand there. Assumes nothing.
use mathlib.Core.Path.{◌≡◌}
use lib.ListN.{length}
use Rattle.layout.specs.Messages.{Filled}
use Rattle.layout.proofs.messages.lay_messages.Given as goal

abbrev pub invariant-loop-q : goal.invariant-loop-q
invariant-loop-q l = record { long : length l.facts ≡ length l.initial.facts; filled : Filled l.store l.q l.initial.facts l.facts }
