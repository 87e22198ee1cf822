-- The join of the two parts is written, element by element.
use Rattle.std.proofs.Common.{◌≡◌, take, drop}
use Rattle.std.proofs.Math.Seq.{paste}
use Rattle.model.specs.Cut.{join}
use Rattle.steps.proofs.join_cells.Given as goal

abbrev pub invariant-loop-i : goal.invariant-loop-i
invariant-loop-i l = l.ws ≡ paste l.initial.ws l.at (join (take l.len (drop l.a l.src)) (take l.len (drop l.b l.src))) l.i
