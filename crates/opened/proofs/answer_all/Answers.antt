-- The log is laid out once, and all its questions are answered over that.
use Rattle.opened.proofs.answer_all.Goals as goal

pub put_lines-requires-clause-prepared : goal.put_lines-requires-clause-prepared
put_lines-requires-clause-prepared c = let a = c.requires.accepts.1 in record { log = _; store = _; accepts = a; laid = c.lay-x.ensures.1 _ _ _ a }

pub returns : goal.returns
returns c log a = c.put_lines.ensures (record { log = log; store = _; accepts = a; laid = c.lay-x.ensures.1 _ _ _ a })
