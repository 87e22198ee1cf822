-- The question is found and worked out over the computation that was laid out.
use Rattle.question.proofs.Posed.{question}
use Rattle.opening.proofs.Logs.{below, good-at}
use Rattle.opened.proofs.answer_one.Goals as goal

pub asked-q-requires-clause-question_lt_questions : goal.asked-q-requires-clause-question_lt_questions
asked-q-requires-clause-question_lt_questions c = let p = c.requires in let o = p.poses.1 in (below o.accepts _ o.question o.is, p.length_in_bounds.0)

pub put_line-requires-clause-question : goal.put_line-requires-clause-question
put_line-requires-clause-question c =
    let p = c.requires.poses in
    let o = p.1 in
    let a = o.accepts in
    (_, o.question, question _ o.question (good-at a _ o.question o.is) _ (c.asked-q.ensures _ _ _ a o.question o.is) (c.lay-x.ensures.1 _ _ _ a), p.2)

pub returns : goal.returns
returns c = λ log o.
    let a = o.accepts in
    c.put_line.ensures _ o.question (question _ o.question (good-at a _ o.question o.is) _ (c.asked-q.ensures _ _ _ a o.question o.is) (c.lay-x.ensures.1 _ _ _ a))
