-- `picking::number` meets its contract.
use native.Mathlib.Omega.{arith}
use Rattle.picking.proofs.Picking.{number-none, number-some}
use Rattle.picking.proofs.number.Goals as goal

pub returns-then-k-eq0 : goal.returns-then-k-eq0
returns-then-k-eq0 c = let a = c.args in (omega arith, λ K s e. number-none K s a.k c.if-k-eq0.true)

pub returns-else-k-eq0 : goal.returns-else-k-eq0
returns-else-k-eq0 c = let a = c.args in (omega arith, λ K s e. number-some K s a.k a.before c.if-k-eq0.false e)
