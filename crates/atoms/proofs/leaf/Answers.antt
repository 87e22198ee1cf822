-- `atoms::leaf` meets its contract: each atom's token by its function, any other spells nothing. Assumes nothing.
use mathlib.Core.Path.{◌≡◌}
use native.Mathlib.Omega.{arith}
use Rattle.model.specs.Codes.{token_byte}
use Rattle.atoms.proofs.Tokens.{token_of, no_token, is_sign, nothing_unknown}
use Rattle.atoms.proofs.leaf.Goals as goal
use Rattle.atoms.proofs.leaf.Goals.{In_ok-ok}

-- The byte is its token's.
is : (c : In_ok-ok) → token_byte c.in_ok-ok.field-0 ≡ c.args.t
is c = token_of c.try_from.result c.try_from.ensures c.in_ok-ok.ensures.value

pub returns-in_err-ok : goal.returns-in_err-ok
returns-in_err-ok c = rw c.from_residual.ensures (nothing_unknown _ _ (no_token c.try_from.result c.try_from.ensures c.in_err-ok.ensures.value))

pub returns-in-Range : goal.returns-in-Range
returns-in-Range c = rw (← is (goal.at.returns-in-Range c).In_ok-ok, c.in-Range.is) (c.range.ensures c.args.sign c.in-Range.field-0)

pub returns-in-Clear : goal.returns-in-Clear
returns-in-Clear c = rw (← is (goal.at.returns-in-Clear c).In_ok-ok, c.in-Clear.is) c.clear.ensures

pub returns-in_default : goal.returns-in_default
returns-in_default c =
    let s = is_sign c.in_ok-ok.field-0 c.in_default.not-Range c.in_default.not-Clear in
    let b = is (goal.at.returns-in_default c).In_ok-ok in
    absurd (c.requires (omega (arith, s, b)) (omega (arith, s, b)))
