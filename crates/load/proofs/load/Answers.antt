-- A log that is too long is refused by the first test of the definition. Assumes nothing.
use Rattle.codec.proofs.Input.{read_long}
use Rattle.load.proofs.load.Goals as goal

pub returns-then-m-log-clause-loads : goal.returns-then-m-log-clause-loads
returns-then-m-log-clause-loads c = rw c.into.ensures (read_long _ _ c.if-m-log.true)
