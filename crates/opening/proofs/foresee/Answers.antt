-- The figures of the question's formula and the counts of the log make its forecast.
use mathlib.Core.Path.{ap}
use native.Mathlib.Omega.{arith}
use lib.ListN.{length}
use Rattle.opening.proofs.Logs.{question-count, question-there}
use Rattle.opening.proofs.Foreseen.{few_bytes, figures-here, foreseen}
use Rattle.opening.proofs.foresee.Goals as goal

pub figures-costs-requires : goal.figures-costs-requires
figures-costs-requires c =
    let p = c.requires in
    let a = p.held.1.accepts in
    let f = question-there a.reading.questions c.args.question (omega (arith, question-count a, p.question_lt_questions.0)) in
    omega (arith, ap length (c.asked.ensures _ _ _ a f.0 f.1), few_bytes a _ f.0 f.1)

pub returns : goal.returns
returns c = λ m log t a f is. let e = foreseen a _ f is _ (figures-here a _ f is (c.asked.ensures m log t a f is) c.figures-costs.ensures) in cc
