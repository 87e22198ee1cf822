use mathlib.Core.Path.{◌≡◌, ◌∙◌}
use native.Mathlib.Omega.{arith}
use lib.ListN.{take}
use Rattle.cuts.proofs.Adding as adding
use Rattle.cuts.proofs.place.Goals as goal

pub loop-i-init : goal.loop-i-init
loop-i-init c = adding.place-first (take c.args.n c.args.cut.now) c.args.cuts.now c.args.n c.args.count

pub returns-then-precedes : goal.returns-then-precedes
returns-then-precedes c =
    let a = c.args in
    let l = c.loop-i in
    (l.auto.i-end, l.invariant ∙ adding.place_here (take a.n a.cut.now) a.cuts.now a.n l.i a.count c.loop-i-test.true c.precedes.ensures c.if-precedes.true)

pub loop-i-preserved : goal.loop-i-preserved
loop-i-preserved c =
    let a = c.args in
    let l = c.loop-i in
    l.invariant ∙ adding.place-later (take a.n a.cut.now) a.cuts.now a.n l.i a.count c.loop-i-test.true c.precedes.ensures c.if-precedes.false

pub returns : goal.returns
returns c =
    let a = c.args in
    let l = c.loop-i in
    let e : l.i ≡ a.count = omega arith in
    (omega arith, rw e at (l.invariant ∙ adding.place_last (take a.n a.cut.now) a.cuts.now a.n l.i a.count (omega arith)))
