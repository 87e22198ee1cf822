-- The store: what is read of a log. Its first section is the event table: a slot for each event of each station, its value and its panel in two bytes each, high byte first, and then its clock. Behind it stand the messages, four bytes each.
use Rattle.std.specs.Prelude.{◌≡◌, ℕ, ◌+◌, ◌*◌, ◌≤◌, ◌<◌, Bool, true, false, List, [], ◌∷◌, get_or, take, drop}
use Rattle.std.proofs.Math.Option.{some}
use Rattle.std.proofs.Math.ListN.{get_elem?}
use Rattle.model.specs.Limits.{limits, stored_report, slot_size, table_size, message_size}
use Rattle.model.specs.Computation.{Computation, Message, stations, count, clock, report}
use Rattle.model.specs.Reading.{report_of}

-- The slots before that of event k of station j; at k = 0 stand the first report and the empty clock.
abbrev pub slots_before : ℕ → ℕ → ℕ
slots_before j k = j * (limits.events + 1) + k

-- Where event k of station j stands in the store.
abbrev pub slot : ℕ → ℕ → ℕ
slot j k = slots_before j k * slot_size

-- The report at the front of f, with or without a panel, as the store has it: always with a panel, which is 0 where f carries none.
abbrev pub report_bytes : Bool → List ℕ → List ℕ
report_bytes true f = get_or f 0 0 ∷ get_or f 1 0 ∷ get_or f 2 0 ∷ get_or f 3 0 ∷ []
report_bytes false f = get_or f 0 0 ∷ get_or f 1 0 ∷ 0 ∷ 0 ∷ []

-- The event table of the store t holds the events of K.
pub record Table (K : Computation) (t : List ℕ) : Type 0 where
  pub reports : (j k : ℕ) → j < stations K → k ≤ count K j → report_of true (drop (slot j k) t) ≡ report K j k
  pub clocks : (j k : ℕ) → j < stations K → k ≤ count K j → take (stations K) (drop (slot j k + stored_report) t) ≡ clock K j k

-- K has n stations, counts has the number of events of each, and the event table of the store t holds them.
pub record Stored (K : Computation) (n : ℕ) (counts t : List ℕ) : Type 0 where
  pub size : stations K ≡ n
  pub each : (j : ℕ) → get_or counts j 0 ≡ count K j
  pub table : Table K t

-- Where message q stands in the store.
abbrev pub message_slot : ℕ → ℕ
message_slot q = table_size + q * message_size

-- The bytes of a message.
abbrev pub message_bytes : Message → List ℕ
message_bytes m = m.sender ∷ m.sent ∷ m.receiver ∷ m.received ∷ []

-- The store t holds the messages of K.
pub record Posted (K : Computation) (t : List ℕ) : Type 0 where
  pub at : (q : ℕ) (m : Message) → get_elem? K.messages q ≡ some m → take message_size (drop (message_slot q) t) ≡ message_bytes m
