-- A pair of structures of which one set is of one station, as they stand in tables or in the workspace.
use Rattle.std.specs.Prelude.{ℕ, List}
use Rattle.model.specs.Computation.{Computation}
use Rattle.model.specs.Structure.{Structure, row}
use Rattle.lattice.specs.OfStation.{OfOwnRows}
use Rattle.lattice.proofs.Bases.{Good}
use Rattle.structure.specs.declared.Shape.{Shape}
use Rattle.slots.specs.Slots.{Slots, Rows}
use Rattle.slots.specs.Pair.{Both, Clocks}
use Rattle.picking.specs.Formed.{Formed}

-- The right set is of station s and has its rows in the workspace, from a place on; the left one stands in a table.
pub record RightKnown (K : Computation) (S T : Structure) (x : Shape) (s from : ℕ) (ws left first : List ℕ) : Type 0 where
  pub formed : Formed K x
  pub good_left : Good K S
  pub good_right : Good K T
  pub slots_left : Slots K (row S) left
  pub rows_right : Rows K (row T) x.n from ws
  pub clocks_are : Clocks K first
  pub of_station : OfOwnRows K s T

-- The left set is of station s; both stand in tables.
pub record LeftKnown (K : Computation) (S T : Structure) (x : Shape) (s : ℕ) (left right first : List ℕ) : Type 0 where
  pub formed : Formed K x
  pub both : Both K S T left right
  pub clocks_are : Clocks K first
  pub of_station : OfOwnRows K s S
