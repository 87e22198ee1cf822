use mathlib.Core.Path.{sym, ap, ◌∙◌}
use mathlib.Core.Bool.{Bool, ◌||◌}
use Prim.Native.Nat.{◌+◌, ◌*◌, ◌≤◌}
use native.Mathlib.Omega.{arith}
use lib.ListN.{length, take}
use Rattle.structure.proofs.Bars.{barred_from, bars_all, bars_end, bars_unused, bars-here}
use Rattle.structure.proofs.Places.{next_fits}
use Rattle.structure.proofs.barred.Goals as goal
use Rattle.structure.proofs.barred.Goals.{In-loop-i}

-- The bar of a turn lies among the bars.
room : (c : In-loop-i) → c.loop-i.i * c.args.n + c.args.n ≤ length c.args.bars.now
room c = omega (arith, next_fits c.loop-i.i 16 c.args.n c.loop-i-test.true, c.requires)

pub loop-i-init : goal.loop-i-init
loop-i-init c = bars_all c.args.n (take c.args.n c.args.cut.now) c.args.bars.now

pub returns-then-bars-i : goal.returns-then-bars-i
returns-then-bars-i c = sym (c.loop-i.invariant ∙ bars_unused c.args.n (take c.args.n c.args.cut.now) c.args.bars.now c.loop-i.i c.loop-i-test.true c.if-bars-i.true)

pub returns-then-contained : goal.returns-then-contained
returns-then-contained c =
    let a = c.args in
    sym (c.loop-i.invariant ∙ bars-here a.n (take a.n a.cut.now) a.bars.now c.loop-i.i c.loop-i-test.true c.if-bars-i.false _ c.contained.ensures
    ∙ ap (λ (b : Bool). b || barred_from a.n (take a.n a.cut.now) a.bars.now (c.loop-i.i + 1)) c.if-contained.true)

pub loop-i-preserved : goal.loop-i-preserved
loop-i-preserved c =
    let a = c.args in
    c.loop-i.invariant ∙ bars-here a.n (take a.n a.cut.now) a.bars.now c.loop-i.i c.loop-i-test.true c.if-bars-i.false _ c.contained.ensures
    ∙ ap (λ (b : Bool). b || barred_from a.n (take a.n a.cut.now) a.bars.now (c.loop-i.i + 1)) c.if-contained.false

pub returns : goal.returns
returns c = sym (c.loop-i.invariant ∙ bars_end c.args.n (take c.args.n c.args.cut.now) c.args.bars.now c.loop-i.i (omega arith))
