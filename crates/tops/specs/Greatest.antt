-- The greatest cut of a structure in a workspace.
use Rattle.std.specs.Prelude.{◌≡◌, ℕ, List, take}
use Rattle.model.specs.Cut.{Cut}
use Rattle.model.specs.Structure.{greatest}
use Rattle.lattice.specs.Ascending.{RowsAscend}
use Rattle.structure.specs.declared.Shape.{Shape}
use Rattle.structure.specs.Layout.{placed}

-- g is the greatest cut of the structure of the shape x at a place of ws, if its rows ascend.
abbrev pub GreatestAt : Shape → List ℕ → ℕ → Cut → Type 0
GreatestAt x ws at g = (bs : List ℕ) → RowsAscend (take x.n x.counts) (placed x.n x.counts ws at bs) → g ≡ greatest (placed x.n x.counts ws at bs)
