-- One refusal line, or the lines to all questions.
use Rattle.std.proofs.Common.{arith}
use borrow.Author.Rules.{rules}
use Rattle.model.specs.Limits.{print_limits}
use Rattle.codec.proofs.Refusals.{log-named}
use Rattle.print.proofs.Printed.{printed_so, printed-lines, printed-refusal}
use Rattle.print.proofs.print_log.Goals as goal

pub put_refusal-requires : goal.put_refusal-requires
put_refusal-requires c = (omega (arith, log-named print_limits _ _ _ (rw c.print_limits.ensures at c.in-Err.ensures.loads)), search rules)

pub answer_all-requires : goal.answer_all-requires
answer_all-requires c =
    let l = c.load in
    let a = rw c.print_limits.ensures at c.in-Ok.ensures.loads in
    record { length_in_bounds = (omega (arith, a.short, l.array_long), search rules); accepts = (_, a) }

pub returns-in-Err : goal.returns-in-Err
returns-in-Err c =
    let r = printed_so (printed-refusal _ _ _ (rw c.print_limits.ensures at c.in-Err.ensures.loads) _ c.from.ensures) c.put_refusal.ensures in
    record { value = r.0; out_after = r.1 }

pub returns-in-Ok : goal.returns-in-Ok
returns-in-Ok c =
    let a = rw c.print_limits.ensures at c.in-Ok.ensures.loads in
    let r = printed_so (printed-lines _ a.reading a.is) (c.answer_all.ensures _ a) in
    record { value = r.0; out_after = r.1 }
