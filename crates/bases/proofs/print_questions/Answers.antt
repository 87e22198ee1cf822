-- Each question is found, and worked out over the computation that was laid out.
use Rattle.std.proofs.Common.{arith}
use Rattle.question.proofs.Posed.{posed}
use Rattle.opening.proofs.Logs.{question-there, question-count, good-at, few-at}
use Rattle.bases.proofs.print_questions.Goals as goal

pub print_basis-requires-clause-question : goal.print_basis-requires-clause-question
print_basis-requires-clause-question c =
    let p = c.requires.prepared in
    let a = p.accepts in
    let v = c.loop-i in
    let f = question-there a.reading.questions v.i (omega (arith, question-count a, c.loop-i-test.true)) in
    posed _ f.0 (good-at a _ f.0 f.1) _ (c.asked-q.ensures _ _ _ a f.0 f.1) p.laid (few-at a) _ (omega (arith, v.auto.ws, c.requires.length_in_bounds.1))
