-- `query::judge` meets its contract: each way out is one law of the verdict. Assumes nothing.
use mathlib.Core.Path.{ap, ◌∙◌}
use mathlib.Core.Bool.{true}
use borrow.Author.Tests.{not-true, not-false}
use Rattle.std.specs.Prelude.{Err}
use Rattle.model.specs.declared.Fault.TheVariants as fault
use Rattle.atoms.specs.Measured.{Sized}
use Rattle.query.proofs.Ends.{was_some, was_none, handed}
use Rattle.query.proofs.Judged.{judged-nothing, judged-more, judged_unsound, judged-tokens, judged-atoms, judged_wide, judged_unworkable, judged_fine}
use Rattle.query.proofs.judge.Goals as goal
use Rattle.query.proofs.judge.Goals.{In_ok-z, then-z-q-via-then-z-q, then-z-q-via-else-z-q+then-not-z, then-z-gt32-via-then-z-gt32, then-z-gt32-via-else-z-gt32+then-z-gt12}

-- The size of the formula at the front.
size : (c : In_ok-z) → Sized c.args.n true c.args.q.now c.in_ok-z.z
size c = rw (was_some c.measure.result fault.Formula c.in_ok-z.ensures.value) at c.measure.ensures

pub returns-in_err-z : goal.returns-in_err-z
returns-in_err-z c =
    let e = was_none c.measure.result fault.Formula c.in_err-z.ensures.value in
    handed c.from_residual.result c.from_residual.ensures.1 ∙ ap Err e.1 ∙ judged-nothing c.args.n c.args.q.now (rw e.0 at c.measure.ensures)

pub returns-then-z-q : goal.returns-then-z-q
returns-then-z-q c =
    let x = size (goal.at.returns-then-z-q c).In_ok-z in
    elim c.then-z-q.branch [
      | then-z-q-via-then-z-q w ↦ judged-more x w.if-z-q.true
      | then-z-q-via-else-z-q+then-not-z w ↦ judged_unsound x w.if-z-q.false (not-true _ w.if-not-z.true)
    ]

pub returns-then-z-gt32 : goal.returns-then-z-gt32
returns-then-z-gt32 c =
    let x = size (goal.at.returns-then-z-gt32 c).In_ok-z in
    elim c.then-z-gt32.branch [
      | then-z-gt32-via-then-z-gt32 w ↦ judged-tokens x c.if-z-q.false (not-false _ c.if-not-z.false) w.if-z-gt32.true
      | then-z-gt32-via-else-z-gt32+then-z-gt12 w ↦ judged-atoms x c.if-z-q.false (not-false _ c.if-not-z.false) w.if-z-gt32.false w.if-z-gt12.true
    ]

pub returns-in_err-g : goal.returns-in_err-g
returns-in_err-g c =
    let e = was_none _ fault.Size c.in_err-g.ensures.value in
    handed c.from_residual-in_err-g.result c.from_residual-in_err-g.ensures.1 ∙ ap Err e.1
    ∙ judged_wide (size (goal.at.returns-in_err-g c).In_ok-z) c.if-z-q.false (not-false _ c.if-not-z.false) c.if-z-gt32.false c.if-z-gt12.false e.0

pub returns-then-not-z-2 : goal.returns-then-not-z-2
returns-then-not-z-2 c =
    judged_unworkable (size (goal.at.returns-then-not-z-2 c).In_ok-z) c.if-z-q.false (not-false _ c.if-not-z.false) _ c.if-z-gt32.false c.if-z-gt12.false (was_some _ fault.Size c.in_ok-g.ensures.value) (not-true _ c.if-not-z-2.true)

pub returns : goal.returns
returns c =
    judged_fine (size (goal.at.returns c).In_ok-z) c.if-z-q.false (not-false _ c.if-not-z.false) _ c.if-z-gt32.false c.if-z-gt12.false (was_some _ fault.Size c.in_ok-g.ensures.value) (not-false _ c.if-not-z-2.false)
