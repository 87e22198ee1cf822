-- The laws of clocks and messages: what holds of the computation of every accepted log.
use mathlib.Core.Path.{◌≡◌}
use mathlib.Core.Logic.{◌≢◌}
use Prim.Native.Nat.{ℕ, suc, ◌≤◌, ◌<◌}
use lib.ListN.{length}
use Rattle.model.specs.Cut.{Cut, ◌!◌, ◌⊑◌}
use Rattle.model.specs.Computation.{Computation, Message, stations, count, clock}
use Rattle.lattice.proofs.Lists.{All}

-- The clock v of event k + 1 of station j: n entries, the own one is k + 1, none passes its station's events,
-- and the clocks of the events that it counts last (of its own station the one before) are nowhere above it.
pub record GoodClock (K : Computation) (j k : ℕ) (v : Cut) : Type 0 where
  pub size : length v ≡ stations K
  pub own : v ! j ≡ suc k
  pub within : (i : ℕ) → v ! i ≤ count K i
  pub before : clock K j k ⊑ v
  pub others : (i : ℕ) → i ≢ j → clock K i (v ! i) ⊑ v

-- A message's receiving event is there, or is 0, and no station sends to itself.
pub record GoodMessage (K : Computation) (m : Message) : Type 0 where
  pub received : m.received ≤ count K m.receiver
  pub apart : m.sender ≢ m.receiver

-- A history for each station, good clocks and good messages.
pub record Valid (K : Computation) : Type 0 where
  pub sizes : length K.events ≡ stations K
  pub clocks : (j k : ℕ) → k < count K j → GoodClock K j k (clock K j (suc k))
  pub messages : All (GoodMessage K) K.messages
