-- After j stations the accumulator has their rows in it.
use Rattle.std.proofs.Common.{◌≡◌, List, ℕ, length, take}
use Rattle.lattice.specs.Ascending.{RowsAscend}
use Rattle.lattice.proofs.Ascending.{Gathered}
use Rattle.structure.specs.Layout.{structure_at}
use Rattle.tops.proofs.greatest.Given as goal

abbrev pub invariant-loop-j : goal.invariant-loop-j
invariant-loop-j l =
    (length l.acc ≡ 8) × ((bs : List ℕ) → RowsAscend (take l.x.n l.x.counts) (structure_at l.x.n (take l.x.n l.x.counts) l.ws bs)
    → Gathered (structure_at l.x.n (take l.x.n l.x.counts) l.ws bs) l.j (take l.x.n l.acc))
