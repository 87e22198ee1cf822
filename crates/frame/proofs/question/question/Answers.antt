-- The two tests of the place are those of the definition, and the verdict is its own. Assumes nothing.
use mathlib.Core.Path.{sym, ap}
use Rattle.cells.proofs.Parts.{drop-whole}
use Rattle.query.specs.Judged.{fault_of}
use Rattle.std.proofs.lemmas.Result.{err_from_is_err_and}
use Rattle.frame.proofs.Questions.{before_header, too_many, wrong, question_next}
use Rattle.frame.proofs.question.question.Goals as goal
use Rattle.frame.proofs.question.question.Goals.{then-s-eq0-via-then-s-eq0, then-s-eq0-via-else-s-eq0+then-m-s}

pub returns-then-s-eq0 : goal.returns-then-s-eq0
returns-then-s-eq0 c t = let p = c.requires.in_bounds in elim c.then-s-eq0.branch [
  | then-s-eq0-via-then-s-eq0 w ↦ before_header _ _ t p.0 p.2 w.if-s-eq0.true
  | then-s-eq0-via-else-s-eq0+then-m-s w ↦ too_many _ _ t p.0 p.2 w.if-m-s.true
]

pub returns-in_err-judge : goal.returns-in_err-judge
returns-in_err-judge c t = let p = c.requires in
    let r = err_from_is_err_and c.from_residual.result c.from_residual.ensures.1 in
    rw (r.1, r.2) (wrong _ _ t p.in_bounds.0 p.in_bounds.2 c.if-s-eq0.false c.if-m-s.false _ (ap fault_of (sym (rw (drop-whole 1 c.args.frame.now) at c.in_err-judge.ensures))))

pub returns : goal.returns
returns c t = let p = c.requires in
    rw c.with_question.ensures (question_next _ _ t p.in_bounds.0 p.in_bounds.2 c.if-s-eq0.false c.if-m-s.false p.no_larger.1 (ap fault_of (sym (rw (drop-whole 1 c.args.frame.now) at c.in_ok-judge.ensures))))
