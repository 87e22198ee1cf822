-- A pair of structures as all its starts are run.
use Rattle.std.specs.Prelude.{◌≡◌, ℕ, List}
use Rattle.model.specs.Computation.{Computation, stations, event_count}
use Rattle.model.specs.Structure.{Structure}
use Rattle.slots.specs.Slots.{Code, Offsets}
use Rattle.slots.specs.Pair.{Both, Clocks}

-- Two structures of a computation, its starts, and how its counts become numbers.
pub record Known (K : Computation) (S T : Structure) (n e : ℕ) (left right first : List ℕ) (code : Code) : Type 0 where
  pub both : Both K S T left right
  pub clocks_are : Clocks K first
  pub offsets : Offsets K code
  pub stationed : stations K ≡ n
  pub counted : event_count K ≡ e
