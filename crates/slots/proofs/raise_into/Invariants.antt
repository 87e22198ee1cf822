-- `slots::raise_into` meets its contract: after some stations the accumulator says what they raise to.
use Rattle.std.proofs.Common.{◌≡◌, length}
use Rattle.model.specs.Cut.{Cut}
use Rattle.model.specs.Computation.{Computation}
use Rattle.model.specs.Structure.{Structure, row, raise_by}
use Rattle.slots.specs.Slots.{Small, Coded, Says, Slots}
use Rattle.slots.proofs.raise_into.Given as goal

abbrev pub invariant-loop-k : goal.invariant-loop-k
invariant-loop-k l = record {
  eight : length l.acc ≡ 8;
  says : (K : Computation) (S : Structure) (x : Cut) → Small K → Slots K (row S) l.table → Coded K x l.cut → Says K (raise_by S x l.k-index) l.acc;
}
