-- `question_at` meets its contract: the frame at the index without its kind. Assumes nothing.
use mathlib.Core.Path.{sym, ap}
use native.Mathlib.Omega.{arith}
use lib.ListN.{length}
use lib.Seq.{length-take-le}
use Rattle.frames.proofs.Walks.{asked-frame, frame_tail}
use Rattle.frames.proofs.question_at.Goals as goal

pub slice_bounds-frame_at-end : goal.slice_bounds-frame_at-end
slice_bounds-frame_at-end c = sym (length-take-le _ _ c.requires.0)

pub slice_bounds-result-count : goal.slice_bounds-result-count
slice_bounds-result-count c = omega (arith, ap length (asked-frame c.requires.1.1 c.frame_at-frame.ensures))

pub slice_bounds-result-start : goal.slice_bounds-result-start
slice_bounds-result-start c = omega (arith, ap length (asked-frame c.requires.1.1 c.frame_at-frame.ensures))

pub returns : goal.returns
returns c = λ q a. frame_tail _ q (asked-frame a c.frame_at-frame.ensures)
