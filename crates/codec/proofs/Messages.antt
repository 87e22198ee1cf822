-- What each frame does to the messages, and what a message leaves as it was.
use mathlib.Core.Path.{◌≡◌, refl}
use Prim.Native.Nat.{ℕ, zero, suc}
use native.Mathlib.Omega.{arith}
use mathlib.Core.List.{List, [], ◌∷◌, ◌++◌}
use lib.ListN.{length, length-append}
use Rattle.model.specs.Computation.{Report, Event, Message, Computation, stations, event_count, report}
use Rattle.model.specs.Reading.{opened, extended, informed}

-- A header brings no messages, an event leaves them, a message is one more.
pub messages-opened : (reports : List Report) → (opened reports).messages ≡ []
unfolding opened
messages-opened reports = refl

pub messages-extended : (K : Computation) (s : ℕ) (e : Event) → (extended K s e).messages ≡ K.messages
unfolding extended
messages-extended K s e = refl

module _ (K : Computation) (x : Message) where
  pub messages-informed : (informed K x).messages ≡ K.messages ++ (x ∷ [])
  unfolding informed
  messages-informed = refl

  pub message_more : length (informed K x).messages ≡ suc (length K.messages)
  message_more = rw messages-informed (omega (arith, length-append K.messages (x ∷ [])))

  -- Stations, events and reports are those before it.
  pub stations-informed : stations (informed K x) ≡ stations K
  unfolding informed
  stations-informed = refl

  pub event_count-informed : event_count (informed K x) ≡ event_count K
  unfolding informed
  event_count-informed = refl

  pub report-informed : (j k : ℕ) → report (informed K x) j k ≡ report K j k
  unfolding informed report
  report-informed j zero = refl
  report-informed j (suc k) = refl
