-- A refusal is that of opening, and the figures those of the question.
use Rattle.std.proofs.Common.{arith}
use Rattle.opening.proofs.Logs.{below}
use Rattle.opening.proofs.Openings.{poses-is, unread-is}
use Rattle.forecast.proofs.Replies.{met_shut, met_given}
use Rattle.forecast.proofs.forecast.Goals as goal

pub foresee-requires-clause-question_lt_questions : goal.foresee-requires-clause-question_lt_questions
foresee-requires-clause-question_lt_questions c = let p = rw c.limits.ensures at c.in_ok-loaded.ensures.opens in (below p.accepts _ p.question p.is, omega (arith, p.accepts.short, c.open_log.array_long))

pub returns-in_err-loaded : goal.returns-in_err-loaded
returns-in_err-loaded c =
    let u = c.in_err-loaded.field-0.0 in
    let r = met_shut _ _ u.refusal (rw c.limits.ensures at c.in_err-loaded.ensures.opens) in
    rw (unread-is c.from_residual.result u c.from_residual.ensures.1) (record { result_value = r.0; foretold = r.1 })

pub returns : goal.returns
returns c =
    let p = rw c.limits.ensures at c.in_ok-loaded.ensures.opens in
    let r = met_given _ _ _ p.question (poses-is _ _ _ _ _ _ p) _ (c.foresee.ensures _ _ _ p.accepts p.question p.is) in
    record { result_value = r.0; foretold = r.1 }
