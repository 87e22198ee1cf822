-- A computation laid out in bytes, as the basis is worked out from it.
use Rattle.std.specs.Prelude.{◌≡◌, ℕ, ◌+◌, ◌*◌, ◌≤◌, ◌<◌, List, map, length, get_or, take, drop}
use Rattle.std.proofs.Math.Option.{some}
use Rattle.std.proofs.Math.ListN.{get_elem?}
use Rattle.model.specs.declared.Aspect.{Aspect}
use Rattle.model.specs.declared.Aspect.TheVariants.{Value, Panel}
use Rattle.model.specs.Limits.{limits, reports_size, values_size, facts_size}
use Rattle.model.specs.Lists.{total}
use Rattle.model.specs.Cut.{empty}
use Rattle.model.specs.Computation.{Computation, Event, Message, stations, count, full, event_count, report}
use Rattle.model.specs.Atom.{seen}
use Rattle.lattice.proofs.Valid.{Valid}
use Rattle.structure.specs.declared.Shape.{Shape}
use Rattle.structure.specs.declared.Run.{Run}
use Rattle.structure.specs.Layout.{stations_at}

-- The lawful computation K has the shape x, and starts are the empty cut and each event's clock, as the cells of a structure.
pub record Laid (K : Computation) (x : Shape) (starts : List ℕ) : Type 0 where
  pub valid : Valid K
  pub stationed : stations K ≡ x.n
  pub counted : event_count K ≡ x.e
  pub counts_are : take x.n x.counts ≡ full K
  pub starts_fit : (x.e + 1) * x.n ≤ length starts
  pub starts_least : take x.n starts ≡ empty x.n
  pub starts_rows : stations_at x.n (full K) (drop x.n starts) ≡ map (map (λ (v : Event). some v.clock)) K.events

-- Sender and receiver in one number.
abbrev pub pair_of : ℕ → ℕ → ℕ
pair_of i j = 256 * i + j

-- Where message q stands in the facts: behind the values and the number of messages.
abbrev pub message_at : ℕ → ℕ
message_at q = values_size + 1 + 3 * q

-- The message m stands at a place of the facts: its pair, the event that sends it, the event that receives it; its numbers are bytes.
pub record Filed (m : Message) (facts : List ℕ) (at : ℕ) : Type 0 where
  pub pair : get_or facts at 0 ≡ pair_of m.sender m.receiver
  pub sent : get_or facts (at + 1) 0 ≡ m.sent
  pub received : get_or facts (at + 2) 0 ≡ m.received
  pub receiver_low : m.receiver < 256
  pub sent_low : m.sent < 256
  pub received_low : m.received < 256

-- The messages stand in the facts: their number behind the values, and each of them behind it.
pub record AllFiled (messages : List Message) (facts : List ℕ) : Type 0 where
  pub fit : facts_size ≤ length facts
  pub few : length messages ≤ limits.messages
  pub number : get_or facts values_size 0 ≡ length messages
  pub each : (q : ℕ) (m : Message) → get_elem? messages q ≡ some m → Filed m facts (message_at q)

-- Where what a range looks at begins in the facts: values at the front, panels behind them.
abbrev pub aspect_at : Aspect → ℕ
aspect_at Value = 0
aspect_at Panel = reports_size

-- What atoms look at: what each station first reports and what its events do, station by station, values and panels apart; and the messages.
pub record Facts (K : Computation) (x : Shape) (facts : List ℕ) : Type 0 where
  pub shown : (a : Aspect) (j k : ℕ) → j < x.n → k ≤ count K j → get_or facts (aspect_at a + (total (take j (full K)) + j + k)) 0 ≡ seen a (report K j k)
  pub filed : AllFiled K.messages facts

-- The run is K's: K is laid out in it, with what its atoms look at.
abbrev pub Given : Computation → Run → Type 0
Given K run = Laid K run.x run.starts.now × Facts K run.x run.facts.now
