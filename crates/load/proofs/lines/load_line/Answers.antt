-- What the walk over the line tells decides; a frame goes to `load_frame`. Assumes nothing.
use Rattle.load.proofs.Loads.{reads_malformed, reads_check, reads_frame}
use Rattle.load.proofs.lines.load_line.Goals as goal

pub returns-in_default : goal.returns-in_default
returns-in_default c = reads_malformed c.requires.no_larger.1 _ _ c.in_default.ensures.walked

pub returns-then-sum-ne0 : goal.returns-then-sum-ne0
returns-then-sum-ne0 c = reads_check c.requires.no_larger.1 _ _ c.in-Ok.ensures.walked c.if-sum-ne0.true

pub returns : goal.returns
returns c = reads_frame c.requires.no_larger.1 _ _ c.in-Ok.ensures.walked c.if-sum-ne0.false _ _ _ c.load_frame.ensures
