-- The second size counts where the first is enough.
use mathlib.Core.Path.{sym}
use borrow.Author.Tests.{lt-ltb, le-ltb}
use Rattle.model.specs.Operations.{cramped}
use Rattle.opening.proofs.cramped.Goals as goal

pub returns-then-ws-cells : goal.returns-then-ws-cells
unfolding cramped
returns-then-ws-cells c = λ m log t a f is. rw (sym (c.foresee-cells.ensures m log t a f is), lt-ltb _ _ c.if-ws-cells.true)

pub returns-else-ws-cells : goal.returns-else-ws-cells
unfolding cramped
returns-else-ws-cells c = λ m log t a f is. rw (sym (c.foresee-cells.ensures m log t a f is), le-ltb _ _ c.if-ws-cells.false)
