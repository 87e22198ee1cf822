-- The frame behind the header, the events and the messages, without its kind, spells the question.
use mathlib.Core.Path.{◌∙◌}
use Rattle.opening.proofs.Logs.{asks_at, below, spelt-at}
use Rattle.opening.proofs.asked.Goals as goal

pub question_at-requires : goal.question_at-requires
question_at-requires c = let p = c.requires in (p.question_lt_questions.1, (_, asks_at p.held.1.accepts _ c.first_question.ensures _ p.question_lt_questions.0))

pub returns : goal.returns
returns c = λ m log t a f is. c.question_at.ensures _ (asks_at a _ c.first_question.ensures _ (below a _ f is)) ∙ spelt-at a _ f is
