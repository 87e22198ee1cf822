-- A pair of structures of a basis in tables, its starts, and what they leave.
use Rattle.std.specs.Prelude.{◌≡◌, ℕ, List, map, take, drop}
use Rattle.std.proofs.Math.Option.{Option, some}
use Rattle.model.specs.Cut.{Cut, ◌⊑◌, empty}
use Rattle.model.specs.Computation.{Computation, Event, clock, full}
use Rattle.model.specs.Structure.{Structure, row}
use Rattle.model.specs.Basis.{start}
use Rattle.model.specs.Rounds.{rounds_of_pair}
use Rattle.lattice.proofs.Bases.{Good}
use Rattle.structure.specs.Layout.{decoded, stations_at}
use Rattle.slots.specs.Slots.{Small, Slots}

-- Two structures of a basis, as tables.
pub record Both (K : Computation) (S T : Structure) (left right : List ℕ) : Type 0 where
  pub small : Small K
  pub good_left : Good K S
  pub good_right : Good K T
  pub slots_left : Slots K (row S) left
  pub slots_right : Slots K (row T) right

-- The starts of a computation, the empty cut and each event's clock, as a table.
abbrev pub Clocks : Computation → List ℕ → Type 0
Clocks K first = Slots K (λ j k. some (clock K j k)) first

-- x is contained in o where o is there.
abbrev pub Above : Cut → Option Cut → Type 0
Above x o = (m : Cut) → o ≡ some m → x ⊑ m

-- What all starts of a pair leave at the front of ws, with r rounds.
pub record Intersected (K : Computation) (S T : Structure) (n : ℕ) (ws : List ℕ) (r : ℕ) : Type 0 where
  pub rounds : r ≡ rounds_of_pair K S T
  pub least : decoded (take n ws) ≡ (start K S T (empty n)).reached
  pub rows : stations_at n (full K) (drop n ws) ≡ map (map (λ (v : Event). (start K S T v.clock).reached)) K.events
