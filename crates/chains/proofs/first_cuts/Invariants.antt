-- `chains::first_cuts` meets its contract: after i starts their cuts stand in the table.
use Rattle.std.proofs.Common.{◌≡◌, length}
use Rattle.model.specs.Computation.{Computation}
use Rattle.model.specs.Structure.{Structure, row}
use Rattle.lattice.specs.Chains.{outcome_of_first_round}
use Rattle.slots.specs.Slots.{Small, Slots}
use Rattle.chains.proofs.Finding.{Done}
use Rattle.chains.proofs.first_cuts.Given as goal

abbrev pub invariant-loop-i : goal.invariant-loop-i
invariant-loop-i l = record {
  size : length l.cuts ≡ 2048;
  done : (K : Computation) (S T : Structure) → Small K → Slots K (row S) l.left → Slots K (row T) l.right → Done K (λ j k. outcome_of_first_round T l.s j k (row S j k)) l.cuts l.i;
}
