-- Where the first bar is not used, no cut is contained in one.
use mathlib.Core.Path.{sym, ◌∙◌}
use lib.ListN.{drop}
use Rattle.bars.proofs.Bars.{no_bars}
use Rattle.structure.proofs.Rows.{first-at}
use Rattle.bars.proofs.barred_out.Goals as goal

pub returns-then-bs-bar : goal.returns-then-bs-bar
returns-then-bs-bar c = λ d asc. sym (no_bars c.args.x.n (drop c.args.bar c.args.bs.now) _ (first-at c.args.bs.now c.args.bar ∙ c.if-bs-bar.true))
