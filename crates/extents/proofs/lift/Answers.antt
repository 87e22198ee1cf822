-- `extents::lift` meets its contract, by the laws of extents. Assumes nothing.
use Rattle.std.proofs.Common.{sym, ◌∙◌}
use Rattle.extents.proofs.Extents.{narrow_of, lift_wide, lift_keep, lift_bars}
use Rattle.extents.proofs.lift.Goals as goal

pub returns-in_err-x : goal.returns-in_err-x
returns-in_err-x c = λ p e. rw c.from_residual.ensures (lift_wide c.args.keep p (sym c.in_err-x.was ∙ e))

pub returns-then-keep : goal.returns-then-keep
returns-then-keep c = λ p e. rw (c.lifted.ensures, c.if-keep.true) (lift_keep p _ (narrow_of p _ (sym c.in_ok-x.was ∙ e)))

pub returns-else-keep : goal.returns-else-keep
returns-else-keep c = λ p e. rw (c.lifted-else-keep.ensures, c.if-keep.false) (lift_bars p _ (narrow_of p _ (sym c.in_ok-x.was ∙ e)))
