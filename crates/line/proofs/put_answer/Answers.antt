-- The line of the answer's frame.
use Rattle.line.proofs.Frames.{answer-line, written}
use Rattle.line.proofs.put_answer.Goals as goal

pub returns : goal.returns
returns c =
    let a = c.args in
    written _ _ _ _ _ (answer-line a.start a.cuts.now a.n a.count a.rounds _ c.requires.2 c.put_frame-end.ensures.1) c.put_line.ensures.0 c.put_line.ensures.1
