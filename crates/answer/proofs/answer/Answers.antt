-- Each refusal and the line are those of `answer_op`, and what is promised follows.
use mathlib.Core.Path.{◌≡◌, sym, ap, ◌∙◌}
use mathlib.Core.Bool.{false}
use borrow.Author.Rules.{rules}
use Rattle.std.proofs.Common.{arith}
use Rattle.model.specs.Reply.{refusal, line_reply}
use Rattle.opening.proofs.Logs.{below}
use Rattle.opening.proofs.Openings.{poses-is, unread-is}
use Rattle.opening.proofs.Room.{roomy}
use Rattle.answer.proofs.Replies.{answer-shut, answer-cramped, answer-short, answer-line, met_refused, met_written}
use Rattle.answer.proofs.answer.Goals as goal

pub cramped-tight-requires-clause-question_lt_questions : goal.cramped-tight-requires-clause-question_lt_questions
cramped-tight-requires-clause-question_lt_questions c = let p = rw c.limits.ensures at c.in_ok-loaded.ensures.opens in (below p.accepts _ p.question p.is, omega (arith, p.accepts.short, c.open_log.array_long))

pub answer_one-requires : goal.answer_one-requires
answer_one-requires c =
    let o = c.open_log in
    let p = rw c.limits.ensures at c.in_ok-loaded.ensures.opens in
    let room = roomy _ _ _ _ (sym (c.cramped-tight.ensures _ _ _ p.accepts p.question p.is) ∙ c.if-tight.false) in
    record { length_in_bounds = (omega (arith, p.accepts.short, o.array_long), room.1, omega arith); poses = (_, p, room.0) }

pub returns-in_err-loaded : goal.returns-in_err-loaded
returns-in_err-loaded c =
    let u = c.in_err-loaded.field-0.0 in
    let r = met_refused _ _ _ _ _ _ _ _ (ap line_reply (unread-is c.from_residual.result u c.from_residual.ensures.1)) (answer-shut _ _ _ _ _ _ _ (rw c.limits.ensures at c.in_err-loaded.ensures.opens)) in
    record { result_value = r.0; out_after = r.1.0; kept = r.1.1.0; answered = r.1.1.1 }

-- That the spaces suffice is sought and not named: so it is looked for where the tests stand in another order, too.
pub returns-then-short : goal.returns-then-short
returns-then-short c =
    let p = rw c.limits.ensures at c.in_ok-loaded.ensures.opens in
    let roomy : c.cramped-tight.result ≡ false = search rules in
    let r = met_refused _ _ _ _ _ _ 12 0 (ap refusal c.into-then-short.ensures) (answer-short _ _ _ _ _ _ _ (poses-is _ _ _ _ _ _ p) (sym (c.cramped-tight.ensures _ _ _ p.accepts p.question p.is) ∙ roomy) c.if-short.true) in
    record { result_value = r.0; out_after = r.1.0; kept = r.1.1.0; answered = r.1.1.1 }

pub returns-then-tight : goal.returns-then-tight
returns-then-tight c =
    let p = rw c.limits.ensures at c.in_ok-loaded.ensures.opens in
    let r = met_refused _ _ _ _ _ _ 11 0 (ap refusal c.into.ensures) (answer-cramped _ _ _ _ _ _ _ (poses-is _ _ _ _ _ _ p) (sym (c.cramped-tight.ensures _ _ _ p.accepts p.question p.is) ∙ c.if-tight.true)) in
    record { result_value = r.0; out_after = r.1.0; kept = r.1.1.0; answered = r.1.1.1 }

pub returns : goal.returns
returns c =
    let p = rw c.limits.ensures at c.in_ok-loaded.ensures.opens in
    let a = c.args in
    let r = met_written _ _ a.ws.now a.bs.now _ _ (answer-line _ _ _ _ _ _ _ (poses-is _ _ _ _ _ _ p) (sym (c.cramped-tight.ensures _ _ _ p.accepts p.question p.is) ∙ c.if-tight.false) (omega arith)) _ _ (c.answer_one.ensures _ p) in
    record { result_value = r.0; out_after = r.1.0; kept = r.1.1.0; answered = r.1.1.1 }
