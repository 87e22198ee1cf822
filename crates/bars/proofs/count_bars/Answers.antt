use mathlib.Core.Path.{◌∙◌}
use native.Mathlib.Omega.{arith}
use Rattle.bars.proofs.Bars as bars
use Rattle.bars.proofs.count_bars.Goals as goal

pub returns-then-bs-at : goal.returns-then-bs-at
returns-then-bs-at c = omega (arith, c.loop-i.invariant, bars.count_end c.args.n c.args.at c.loop-i.i c.args.bs.now c.loop-i-test.true c.if-bs-at.true)

pub loop-i-preserved : goal.loop-i-preserved
loop-i-preserved c = c.loop-i.invariant ∙ bars.count-more c.args.n c.args.at c.loop-i.i c.args.bs.now c.loop-i-test.true c.if-bs-at.false

pub returns : goal.returns
returns c = omega (arith, bars.count_all c.args.n c.args.at c.loop-i.i c.args.bs.now _ (omega arith) c.loop-i.invariant)
