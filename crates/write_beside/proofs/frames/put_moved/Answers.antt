-- `write_beside::frames::put_moved` meets its contract: each part by its own function; a question is its own frame. Assumes nothing.
use lib.ListN.{drop}
use Rattle.write_beside.proofs.Lines.{line-room, line-put}
use Rattle.write_beside.proofs.Moves.{question-is, part_as, moved_as}
use Rattle.write_beside.proofs.frames.put_moved.Goals as goal

pub put_event-requires : goal.put_event-requires
put_event-requires c =
    let m = part_as _ _ c.in-Events.is c.args.side (drop 1 c.args.frame.now) c.requires.covered.3 c.args.at _ c.requires.frame_in_bounds in
    record { covered = (c.requires.covered.0, m.0); frame_in_bounds = m.1 }

pub put_message-requires : goal.put_message-requires
put_message-requires c = let r = part_as _ _ c.in-Messages.is c.args.side (drop 1 c.args.frame.now) c.requires.covered.3 c.args.at _ c.requires.frame_in_bounds in
    record { fits = r.0; frame_in_bounds = r.1 }

pub put_line-requires : goal.put_line-requires
put_line-requires c =
    line-room _ _ (question-is c.args.side c.args.frame.now c.args.part c.in-Questions.is c.requires.covered.1 c.requires.covered.2) _ _ c.requires.frame_in_bounds

pub returns-in-Events : goal.returns-in-Events
returns-in-Events c =
    let l = c.put_event.ensures in
    line-put _ _ (moved_as _ _ c.in-Events.is c.args.side (drop 1 c.args.frame.now)) c.args.at c.args.out.now _ _ l.0 l.1

pub returns-in-Messages : goal.returns-in-Messages
returns-in-Messages c =
    let l = c.put_message.ensures in
    line-put _ _ (moved_as _ _ c.in-Messages.is c.args.side (drop 1 c.args.frame.now)) c.args.at c.args.out.now _ _ l.0 l.1

pub returns-in-Questions : goal.returns-in-Questions
returns-in-Questions c =
    let l = c.put_line.ensures in
    line-put _ _ (question-is c.args.side c.args.frame.now c.args.part c.in-Questions.is c.requires.covered.1 c.requires.covered.2) c.args.at c.args.out.now _ _ l.0 l.1
