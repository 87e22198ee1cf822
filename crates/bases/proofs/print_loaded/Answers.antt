-- The log is laid out once, and all its questions are worked out over that.
use Rattle.bases.proofs.print_loaded.Goals as goal

pub print_questions-requires-clause-prepared : goal.print_questions-requires-clause-prepared
print_questions-requires-clause-prepared c = let a = c.requires.accepts.1 in record { log = _; store = _; accepts = a; laid = c.lay-x.ensures.1 _ _ _ a }
