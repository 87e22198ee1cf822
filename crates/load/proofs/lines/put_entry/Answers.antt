-- The length byte is put first, and the frame behind it. Assumes nothing.
use mathlib.Core.Path.{◌∙◌}
use native.Mathlib.Omega.{arith}
use Rattle.cells.proofs.Puts.{put-cons}
use Rattle.load.proofs.lines.put_entry.Goals as goal

pub returns : goal.returns
returns c = let p = c.requires in c.put.ensures ∙ put-cons _ _ _ _ (omega arith)
