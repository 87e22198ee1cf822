use mathlib.Core.Path.{sym, ◌∙◌}
use native.Mathlib.Omega.{arith}
use lib.ListN.{take}
use Rattle.cuts.proofs.Adding as adding
use Rattle.cuts.proofs.in_one.Goals as goal

pub returns-then-contained : goal.returns-then-contained
returns-then-contained c =
    let a = c.args in
    sym (c.loop-i.invariant ∙ adding.one_found (take a.n a.cut.now) a.cuts.now a.n c.loop-i.i a.count c.loop-i-test.true c.contained.ensures c.if-contained.true)

pub loop-i-preserved : goal.loop-i-preserved
loop-i-preserved c =
    let a = c.args in
    c.loop-i.invariant ∙ adding.one_later (take a.n a.cut.now) a.cuts.now a.n c.loop-i.i a.count c.loop-i-test.true c.contained.ensures c.if-contained.false

pub returns : goal.returns
returns c =
    let a = c.args in
    sym (c.loop-i.invariant ∙ adding.one_none (take a.n a.cut.now) a.cuts.now a.n c.loop-i.i a.count (omega arith))
