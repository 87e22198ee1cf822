-- What is known of a computation, and of the events that a set finds for its own station.
use Rattle.std.specs.Prelude.{◌≡◌, ℕ, ◌≤◌, cond, List, eqb, get_or, take, Option, None, Some}
use Rattle.std.proofs.Math.Option as math
use Rattle.std.proofs.Math.Option.{none, some}
use Rattle.model.specs.Computation.{Computation, stations, count, full, event_count}
use Rattle.model.specs.Structure.{Structure, row}
use Rattle.structure.specs.declared.Shape.{Shape}
use Rattle.lattice.specs.OfStation.{count_in}
use Rattle.slots.specs.Slots.{number, Small}

-- A small computation of shape x.
pub record Formed (K : Computation) (x : Shape) : Type 0 where
  pub small : Small K
  pub stationed : stations K ≡ x.n
  pub counted : event_count K ≡ x.e
  pub counts_are : take x.n x.counts ≡ full K

-- The entry to look up for a cut with event k of s for its last, if this event is found for it: 255 for none, 0 for event k itself.
abbrev pub pick_of : Computation → ℕ → ℕ → math.Option ℕ → ℕ
pick_of K s k none = 255
pick_of K s k (some i) = cond (eqb i k) 0 (number K s i)

-- The event of s that is found, as code has its number.
abbrev pub Numbers : Computation → ℕ → math.Option ℕ → Option ℕ → Type 0
Numbers K s none found = found ≡ None
Numbers K s (some i) found = found ≡ Some (number K s i)

-- The entry to look up for the event with number v, if the one with this number is found.
abbrev pub entry_of : Option ℕ → ℕ → ℕ
entry_of None v = 255
entry_of (Some i) v = cond (eqb i v) 0 i

-- A byte for each event of s that says the entry to look up, by the set's own rows.
abbrev pub Picks : Computation → ℕ → Structure → List ℕ → Type 0
Picks K s A pick = (k : ℕ) → k ≤ count K s → get_or pick (number K s k) 0 ≡ pick_of K s k (count_in s (row A s k))
