use Rattle.std.proofs.Common.{arith, ◌≤◌, ◌+◌, length}
use borrow.Author.Rules.{rules}
use Rattle.model.specs.Limits.{line_size}
use Rattle.question.proofs.Posed.{posed}
use Rattle.opening.proofs.Logs.{question-there, question-count, good-at, few-at}
use Rattle.opened.proofs.Lines.{printing_none, printing_more, printing_all, line-short}
use Rattle.opened.proofs.put_lines.Goals as goal

pub loop-i-init : goal.loop-i-init
loop-i-init c = (omega arith, printing_none _ _ _ _)

pub put_line-end-requires-clause-question : goal.put_line-end-requires-clause-question
put_line-end-requires-clause-question c =
    let p = c.requires.prepared in
    let a = p.accepts in
    let v = c.loop-i in
    let f = question-there a.reading.questions v.i (omega (arith, question-count a)) in
    posed _ f.0 (good-at a _ f.0 f.1) _ (c.asked-q.ensures _ _ _ a f.0 f.1) p.laid (few-at a) _ (search rules)

pub overflow_add-end : goal.overflow_add-end
overflow_add-end c =
    let v = c.loop-i in
    let p = c.requires in
    let inside : v.end + line_size ≤ length v.out = omega (arith, v.invariant.0, v.auto.out, c.loop-i-test.true, p.length_in_bounds.1, p.prepared.accepts.bounded.few_questions) in
    omega (arith, inside, line-short v.out v.end v.i c.loop-i-test.true (omega arith) _ c.asked-q.ensures _ _ c.put_line-end.ensures p.prepared)

pub loop-i-preserved : goal.loop-i-preserved
loop-i-preserved c =
    let v = c.loop-i in
    let p = c.requires in
    let inside : v.end ≤ length v.out = omega (arith, v.invariant.0, v.auto.out, c.loop-i-test.true, p.length_in_bounds.1, p.prepared.accepts.bounded.few_questions) in
    let short = line-short v.out v.end v.i c.loop-i-test.true inside _ c.asked-q.ensures _ _ c.put_line-end.ensures p.prepared in
    (omega (arith, v.invariant.0, short), printing_more v.out v.end v.i c.loop-i-test.true inside _ c.asked-q.ensures _ _ c.put_line-end.ensures v.invariant.1)

pub returns : goal.returns
returns c = printing_all c.loop-i.invariant.1 (omega arith)
