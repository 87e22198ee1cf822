-- `write_beside::frames::put_event` meets its contract: the line of the event that was made at the front of the array. Assumes nothing.
use mathlib.Core.Path.{sym, ap, ◌∙◌}
use native.Mathlib.Omega.{arith}
use lib.ListN.{length}
use Rattle.model.specs.Reading.{report_size}
use Rattle.write_beside.proofs.Lines.{line-room, line-put}
use Rattle.write_beside.proofs.frames.put_event.Goals as goal

pub slice_bounds-event-end : goal.slice_bounds-event-end
unfolding report_size
slice_bounds-event-end c = omega (arith, c.moved_event-k.ensures.0, c.requires.covered.1.2)

pub slice_bounds-put_line-end : goal.slice_bounds-put_line-end
slice_bounds-put_line-end c = c.moved_event-k.ensures.0 ∙ ap length (sym c.moved_event-k.ensures.1)

pub put_line-requires : goal.put_line-requires
put_line-requires c = line-room _ _ c.moved_event-k.ensures.1 _ _ c.requires.frame_in_bounds

pub returns : goal.returns
returns c =
    let l = c.put_line.ensures in
    line-put _ _ c.moved_event-k.ensures.1 c.args.at c.args.out.now _ _ l.0 l.1
