-- After j stations the accumulator is what these have raised.
use Rattle.std.proofs.Common.{◌≡◌, List, ℕ, take}
use Rattle.model.specs.Structure.{raise_by}
use Rattle.structure.specs.Layout.{decoded, structure_at}
use Rattle.structure.proofs.raise.Given as goal

abbrev pub invariant-loop-j : goal.invariant-loop-j
invariant-loop-j l = (bs : List ℕ) → decoded (take l.x.n l.acc) ≡ raise_by (structure_at l.x.n (take l.x.n l.x.counts) l.ws bs) (take l.x.n l.cut) l.j
