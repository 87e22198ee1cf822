-- What was filled is the zeros put. Assumes nothing.
use mathlib.Core.Path.{refl, ◌∙◌}
use Prim.Native.Nat.{ℕ}
use lib.ListN.{length-replicate}
use Rattle.cells.proofs.Puts.{put_copied}
use Rattle.write_beside.proofs.report.put_zeros.Goals as goal

pub returns : goal.returns
returns c =
    (refl, c.fill.ensures ∙ put_copied c.args.frame.now _ c.args.at _ (length-replicate {A = ℕ} c.args.k 0))
