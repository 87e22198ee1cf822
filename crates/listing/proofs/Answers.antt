-- The answer to a question, from the basis that stands in the workspace.
use mathlib.Core.Path.{◌≡◌, refl, sym, subst}
use Prim.Native.Nat.{ℕ}
use mathlib.Core.Bool.{Bool}
use mathlib.Core.List.{List, map}
use lib.ListN.{take}
use Rattle.model.specs.Formula.{Formula}
use Rattle.model.specs.Cut.{Cut, empty}
use Rattle.model.specs.Computation.{Computation}
use Rattle.model.specs.Structure.{greatest, belongs_any}
use Rattle.model.specs.Answer.{Answer, tops, sort, true_at, answer}
use Rattle.model.specs.Rules.{as_true}
use Rattle.lattice.specs.Ascending.{RowsAscend}
use Rattle.lattice.proofs.Lists.{All}
use Rattle.lattice.proofs.Theorem.{basis_ascend}
use Rattle.structure.specs.declared.Shape.{Shape}
use Rattle.structure.specs.Layout.{standing}
use Rattle.listing.specs.Worked.{Worked}

-- The rows of what was worked out ascend.
pub worked_ascend : (K : Computation) (f : Formula) (x : Shape) (k sum : ℕ) (ws bs : List ℕ) → Worked K f x k sum ws bs
    → All (RowsAscend (take x.n x.counts)) (standing x.n (take x.n x.counts) k ws bs)
worked_ascend K f x k sum ws bs w =
    subst (λ (l : List ℕ). All (RowsAscend l) (standing x.n (take x.n x.counts) k ws bs)) (sym w.counts_are) (basis_ascend K w.valid (as_true f) _ w.is_basis)

pub answer-is : (K : Computation) (f : Formula) (x : Shape) (k sum : ℕ) (ws bs : List ℕ) → Worked K f x k sum ws bs → (start : Bool) (cuts : List Cut)
    → start ≡ belongs_any (standing x.n (take x.n x.counts) k ws bs) (empty x.n)
    → cuts ≡ sort (tops (map greatest (standing x.n (take x.n x.counts) k ws bs)))
    → ◌≡◌ {A = Answer} (record { start = start; cuts = cuts; rounds = sum }) (answer K f)
unfolding answer true_at
answer-is K f x k sum ws bs w start cuts e l = rw (← w.is_basis, w.stationed, ← w.summed, ← e, ← l) refl
