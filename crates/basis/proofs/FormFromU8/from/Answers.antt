-- An atom's token is no sign's, and neither is a byte that is no token.
use native.Mathlib.Omega.{arith}
use Rattle.model.specs.declared.Token.TheVariants.{Not, And, Or, Possibly, Always}
use Rattle.token.proofs.Atoms.{other_sign}
use Rattle.basis.proofs.FormFromU8.from.Goals as goal

pub returns-in_default : goal.returns-in_default
returns-in_default c =
    let h = c.in_default.ensures.1 in
    λ a b. omega (arith, h Not, h And, h Or, h Possibly, h Always)

pub returns-in_default-token : goal.returns-in_default-token
returns-in_default-token c = let d = c.in_default-token in rw c.in-Ok.ensures at (other_sign c.in-Ok.token d.not-Not d.not-And d.not-Or d.not-Possibly d.not-Always)
