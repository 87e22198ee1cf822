use Rattle.model.specs.Basis.{then_right}
use Rattle.numbering.proofs.Numbers.{says_none, says_some}
use Rattle.slots.proofs.raise.Goals as goal

pub returns-then-out : goal.returns-then-out
returns-then-out c K S o m t h = says_none K m (then_right S o) c.raise_into.new.out (c.raise_into.ensures K S o m t h) c.if-out.true

pub returns-else-out : goal.returns-else-out
returns-else-out c K S o m t h = says_some K m (then_right S o) c.raise_into.new.out (c.raise_into.ensures K S o m t h) c.if-out.false
