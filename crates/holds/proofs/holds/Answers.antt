-- Each refusal and each reply are those of `holds_op`, and what is promised follows.
use mathlib.Core.Path.{◌≡◌, sym, ap, ◌∙◌}
use mathlib.Core.Bool.{true}
use borrow.Author.Rules.{rules}
use Rattle.std.proofs.Common.{arith}
use Rattle.model.specs.Reply.{refusal, holds_reply}
use Rattle.opening.proofs.Logs.{below, cut-size}
use Rattle.opening.proofs.Openings.{poses-is, unread-is}
use Rattle.opening.proofs.Room.{roomy}
use Rattle.holds.proofs.Replies.{holds-shut, holds_inconsistent, holds-cramped, holds-told, told-refused, told_given}
use Rattle.holds.proofs.holds.Goals as goal

pub consistent-inside-requires : goal.consistent-inside-requires
consistent-inside-requires c =
    let b = (rw c.limits.ensures at c.in_ok-loaded.ensures.opens).accepts.bounded in
    record { n_le_stations = b.few_stations; by_index = λ i. omega (arith, b.each i, b.few_events) }

pub cramped-small-requires-clause-question_lt_questions : goal.cramped-small-requires-clause-question_lt_questions
cramped-small-requires-clause-question_lt_questions c = let p = rw c.limits.ensures at c.in_ok-loaded.ensures.opens in (below p.accepts _ p.question p.is, omega (arith, p.accepts.short, c.open_log.array_long))

pub test_cut-requires : goal.test_cut-requires
test_cut-requires c =
    let o = c.open_log in
    let p = rw c.limits.ensures at c.in_ok-loaded.ensures.opens in
    let room = roomy _ _ _ _ (sym (c.cramped-small.ensures _ _ _ p.accepts p.question p.is) ∙ c.if-small.false) in
    record { length_in_bounds = (omega (arith, p.accepts.short, o.array_long), cut-size p.accepts _ (sym (c.consistent-inside.ensures _ p.accepts.holds.stored) ∙ c.if-not-inside.false), room.1); poses = (_, p, room.0) }

pub returns-in_err-loaded : goal.returns-in_err-loaded
returns-in_err-loaded c =
    let u = c.in_err-loaded.field-0.0 in
    let r = told-refused _ _ _ _ _ _ _ _ (ap holds_reply (unread-is c.from_residual.result u c.from_residual.ensures.1)) (holds-shut _ _ _ _ _ _ _ (rw c.limits.ensures at c.in_err-loaded.ensures.opens)) in
    record { result_value = r.0; kept = r.1.0; tested = r.1.1 }

-- That the cut is consistent is sought and not named: so it is looked for where the tests stand in another order, too.
pub returns-then-small : goal.returns-then-small
returns-then-small c =
    let p = rw c.limits.ensures at c.in_ok-loaded.ensures.opens in
    let fits : c.consistent-inside.result ≡ true = search rules in
    let r = told-refused _ _ _ _ _ _ 11 0 (ap refusal c.into-then-small.ensures) (holds-cramped _ _ _ _ _ _ _ (poses-is _ _ _ _ _ _ p) (sym (c.consistent-inside.ensures _ p.accepts.holds.stored) ∙ fits) (sym (c.cramped-small.ensures _ _ _ p.accepts p.question p.is) ∙ c.if-small.true)) in
    record { result_value = r.0; kept = r.1.0; tested = r.1.1 }

pub returns-then-not-inside : goal.returns-then-not-inside
returns-then-not-inside c =
    let p = rw c.limits.ensures at c.in_ok-loaded.ensures.opens in
    let r = told-refused _ _ _ _ _ _ 13 0 (ap refusal c.into.ensures) (holds_inconsistent _ _ _ _ _ _ _ (poses-is _ _ _ _ _ _ p) (sym (c.consistent-inside.ensures _ p.accepts.holds.stored) ∙ c.if-not-inside.true)) in
    record { result_value = r.0; kept = r.1.0; tested = r.1.1 }

pub returns : goal.returns
returns c =
    let p = rw c.limits.ensures at c.in_ok-loaded.ensures.opens in
    let a = c.args in
    let r = told_given _ _ _ a.ws.now a.bs.now c.test_cut.result (holds-told _ _ _ _ _ _ _ (poses-is _ _ _ _ _ _ p) (sym (c.consistent-inside.ensures _ p.accepts.holds.stored) ∙ c.if-not-inside.false) (sym (c.cramped-small.ensures _ _ _ p.accepts p.question p.is) ∙ c.if-small.false) _ (sym (c.test_cut.ensures _ p))) _ _ in
    record { result_value = r.0; kept = r.1.0; tested = r.1.1 }
