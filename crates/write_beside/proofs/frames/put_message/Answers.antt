-- `write_beside::frames::put_message` meets its contract: the array is the message, byte for byte. Assumes nothing.
use native.Mathlib.Omega.{arith}
use Rattle.write_beside.proofs.Lines.{line-room, line-put}
use Rattle.write_beside.proofs.Moves.{message_is, message_long, message_sender, message_receiver}
use Rattle.write_beside.proofs.frames.put_message.Goals as goal

pub bounds-frame-1 : goal.bounds-frame-1
bounds-frame-1 c = omega (arith, message_long c.args.side c.args.frame.now c.requires.fits)

pub overflow_add-message : goal.overflow_add-message
overflow_add-message c = omega (arith, message_sender c.args.side c.args.frame.now c.requires.fits)

pub bounds-frame-2 : goal.bounds-frame-2
bounds-frame-2 c = omega (arith, message_long c.args.side c.args.frame.now c.requires.fits)

pub bounds-frame-3 : goal.bounds-frame-3
bounds-frame-3 c = omega (arith, message_long c.args.side c.args.frame.now c.requires.fits)

pub overflow_add-message-2 : goal.overflow_add-message-2
overflow_add-message-2 c = omega (arith, message_receiver c.args.side c.args.frame.now c.requires.fits)

pub bounds-frame-4 : goal.bounds-frame-4
bounds-frame-4 c = omega (arith, message_long c.args.side c.args.frame.now c.requires.fits)

pub put_line-requires : goal.put_line-requires
put_line-requires c = line-room _ _ (message_is c.args.side c.args.frame.now) _ _ c.requires.frame_in_bounds

pub returns : goal.returns
returns c =
    let l = rw c.from.ensures at c.put_line.ensures in
    line-put _ _ (message_is c.args.side c.args.frame.now) c.args.at c.args.out.now _ _ l.0 l.1
