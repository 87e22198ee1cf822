-- A byte of no kind is refused as such. Assumes nothing.
use mathlib.Core.Path.{refl}
use Rattle.std.proofs.lemmas.Result.{err_from_is_err_and}
use Rattle.frame.proofs.Steps.{kind_unknown}
use Rattle.admit.proofs.admit.Goals as goal

pub returns-in_err-panelled : goal.returns-in_err-panelled
returns-in_err-panelled c = let e = c.in_err-panelled.ensures in
    let r = err_from_is_err_and c.from_residual.result c.from_residual.ensures.1 in
    rw (r.1, r.2, e.0) (record { is = λ r h. kind_unknown _ r c.args.frame.now e.1; kept = refl })
