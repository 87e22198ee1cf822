-- Two computations side by side: the stations of the second are numbered on behind those of the first, and neither side's clocks know the other.
use Rattle.std.specs.Prelude.{ℕ, ◌+◌, ◌++◌, map}
use Rattle.model.specs.Cut.{empty}
use Rattle.model.specs.Computation.{Event, Message, Computation, stations}

-- An event beside a stations before its own and b behind them, of which its clock counts nothing.
abbrev pub padded : ℕ → ℕ → Event → Event
padded a b e = record { report = e.report; clock = empty a ++ (e.clock ++ empty b) }

-- A message, its stations numbered on behind a others.
abbrev pub numbered_on : ℕ → Message → Message
numbered_on a x = record { sender = a + x.sender; sent = x.sent; receiver = a + x.receiver; received = x.received }

-- The first, and the second behind it.
unfoldable pub beside : Computation → Computation → Computation
beside K L = record {
  initial = K.initial ++ L.initial;
  events = map (map (padded 0 (stations L))) K.events ++ map (map (padded (stations K) 0)) L.events;
  messages = K.messages ++ map (numbered_on (stations K)) L.messages;
}
