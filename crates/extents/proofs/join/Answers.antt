-- `extents::join` meets its contract, by the laws of extents. Assumes nothing.
use Rattle.std.proofs.Common.{sym, ◌∙◌}
use Rattle.extents.proofs.Extents.{narrow_of, join_wide_left, join_wide_right, join-both, join-either}
use Rattle.extents.proofs.join.Goals as goal

pub returns-in_err-x : goal.returns-in_err-x
returns-in_err-x c = λ p q e o. rw c.from_residual.ensures (join_wide_left c.args.pair p q (sym c.in_err-x.was ∙ e))

pub returns-in_err-y : goal.returns-in_err-y
returns-in_err-y c = λ p q e o. rw c.from_residual-in_err-y.ensures (join_wide_right c.args.pair p q (sym c.in_err-y.was ∙ o))

pub returns-then-pair : goal.returns-then-pair
returns-then-pair c = λ p q e o.
    rw (c.limit.ensures, c.joined.ensures, c.if-pair.true) (join-both p q _ _ (narrow_of p _ (sym c.in_ok-x.was ∙ e)) (narrow_of q _ (sym c.in_ok-y.was ∙ o)))

pub returns-else-pair : goal.returns-else-pair
returns-else-pair c = λ p q e o.
    rw (c.limit-else-pair.ensures, c.joined-else-pair.ensures, c.max.ensures, c.if-pair.false) (join-either p q _ _ (narrow_of p _ (sym c.in_ok-x.was ∙ e)) (narrow_of q _ (sym c.in_ok-y.was ∙ o)))
