-- What the stations did: what they first report, their events, each with a clock, and the messages between them.
use Rattle.std.specs.Prelude.{◌≡◌, ℕ, zero, suc, ◌-◌, ◌≤◌, Bool, cond, not, ◌&&◌, ◌||◌, List, [], map, length, get_or, leb, ltb, eqb}
use Rattle.model.specs.Lists.{total, between, every}
use Rattle.model.specs.Cut.{Cut, ◌!◌, ◌⊑◌, empty, inside}

-- What a station reports: its value, and the number of the panel.
pub record Report : Type 0 where
  pub value : ℕ
  pub panel : ℕ

-- An event: what the station then reports, and for each station how many of its events lie before it or are it.
pub record Event : Type 0 where
  pub report : Report
  pub clock : Cut

-- A message: the sender and the number of its event, the receiver and the number of its event, or 0 if it never came.
pub record Message : Type 0 where
  pub sender : ℕ
  pub sent : ℕ
  pub receiver : ℕ
  pub received : ℕ

-- What each station first reports, the events of each station in their order, and the messages.
pub record Computation : Type 0 where
  pub initial : List Report
  pub events : List (List Event)
  pub messages : List Message

-- With other messages.
abbrev pub with_messages : Computation → List Message → Computation
with_messages K l = record { initial = K.initial; events = K.events; messages = l }

-- The number of stations.
abbrev pub stations : Computation → ℕ
stations K = length K.initial

-- The events of station j.
abbrev pub history : Computation → ℕ → List Event
history K j = get_or K.events j []

-- The number of events of station j.
abbrev pub count : Computation → ℕ → ℕ
count K j = length (history K j)

-- The cut of all events.
abbrev pub full : Computation → Cut
full K = map length K.events

-- The number of events.
abbrev pub event_count : Computation → ℕ
event_count K = total (full K)

-- What stands past the last station, and past the last event.
abbrev pub no_report : Report
no_report = record { value = 0; panel = 0 }

abbrev pub no_event : Event
no_event = record { report = no_report; clock = [] }

-- The clock of event k of station j; events count from 1, and at 0 nothing has happened.
unfoldable pub clock : Computation → ℕ → ℕ → Cut
clock K j zero = empty (stations K)
clock K j (suc k) = (get_or (history K j) k no_event).clock

-- What station j reports after its event k; at 0 what it first reports.
unfoldable pub report : Computation → ℕ → ℕ → Report
report K j zero = get_or K.initial j no_report
report K j (suc k) = (get_or (history K j) k no_event).report

-- A cut of the n stations that holds no more events than there are, and with each event all that its clock counts.
pub record Consistent (K : Computation) (c : Cut) : Type 0 where
  pub size : length c ≡ stations K
  pub within : (j : ℕ) → c ! j ≤ count K j
  pub closed : (j : ℕ) → clock K j (c ! j) ⊑ c

-- Is there an event k of station j, or is k 0, and is its clock nowhere above v?
unfoldable pub known : Computation → Cut → ℕ → ℕ → Bool
known K v j k = leb k (count K j) && inside (clock K j k) v

-- The test for consistency.
unfoldable pub is_consistent : Computation → Cut → Bool
is_consistent K c = eqb (length c) (stations K) && every (stations K) (λ j. known K c j (c ! j))

-- The event of station j that the clock v of an event of station s counts last; of s itself the one before.
unfoldable pub counted : ℕ → Cut → ℕ → ℕ
counted s v j = cond (eqb j s) (v ! j - 1) (v ! j)

-- The rule for the clock of the next event of station s.
unfoldable pub clock_ok : Computation → ℕ → Cut → Bool
clock_ok K s v = eqb (v ! s) (suc (count K s)) && every (stations K) (λ j. known K v j (counted s v j))

-- The rule for a message: its stations and events are there, no station sends to itself, and, if it came, the clock of the receiving event has the sending event.
unfoldable pub message_ok : Computation → Message → Bool
message_ok K m =
    ltb m.sender (stations K)
    && ltb m.receiver (stations K)
    && between 1 (count K m.sender) m.sent
    && leb m.received (count K m.receiver)
    && not (eqb m.sender m.receiver)
    && (eqb m.received 0 || leb m.sent (clock K m.receiver m.received ! m.sender))
