-- Marks of structures: the station by whose events alone a set raises cuts.
use Rattle.std.specs.Prelude.{◌≡◌, ℕ, ◌<◌, Option, Some, None, List, get_or}
use Rattle.std.proofs.Math.Option.{some}
use Rattle.std.proofs.Math.ListN.{get_elem?}
use Rattle.model.specs.Computation.{Computation}
use Rattle.model.specs.Structure.{Structure}
use Rattle.lattice.specs.OfStation.{OfOwnRows}

-- A mark is the station that the set is of; none says nothing.
abbrev pub Mark : Computation → Option ℕ → Structure → Type 0
Mark K m A = (s : ℕ) → m ≡ Some s → OfOwnRows K s A

-- The marks of a list of structures, one behind the other.
pub record Marked (K : Computation) (L : List Structure) (marks : List (Option ℕ)) : Type 0 where
  pub each : (i : ℕ) (A : Structure) → get_elem? L i ≡ some A → Mark K (get_or marks i None) A

-- Marks of n stations.
abbrev pub Within : ℕ → List (Option ℕ) → Type 0
Within n marks = (i s : ℕ) → get_or marks i None ≡ Some s → s < n
