-- `work_out` meets its contract: there is room for the basis, and it is worked out. Assumes nothing.
use native.Mathlib.Omega.{arith}
use Rattle.question.proofs.Bases.{room, stands, worked}
use Rattle.question.proofs.work_out.Goals as goal

pub basis_true-requires : goal.basis_true-requires
basis_true-requires c = let p = c.requires in room p.question.2 _ _ p.question.3 p.barspace_size_in_bounds

pub returns : goal.returns
returns c =
    let p = c.requires in
    let b = c.basis_true in
    let s = stands p.question.2 b.ensures (omega (arith, b.auto.ws, p.question.3)) (omega (arith, b.auto.bs, p.barspace_size_in_bounds)) in
    λ K f g. worked g b.ensures s
