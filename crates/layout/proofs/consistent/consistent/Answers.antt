use mathlib.Core.Path.{refl, ap}
use mathlib.Core.Bool.{not}
use native.Mathlib.Omega.{arith}
use Rattle.model.specs.Lists.{every}
use Rattle.table.proofs.Clocks.{every_more, known-not, known_yes}
use Rattle.layout.proofs.Closed.{sized, wrong_size, wrong-station, all_right}
use Rattle.layout.proofs.consistent.consistent.Goals as goal

pub returns-then-cut-n : goal.returns-then-cut-n
returns-then-cut-n c = λ K g. wrong_size _ g c.if-cut-n.true

pub loop-j-init : goal.loop-j-init
unfolding every
loop-j-init c = λ K g. refl

pub returns-then-not-known : goal.returns-then-not-known
returns-then-not-known c = λ K g. wrong-station _ g c.if-cut-n.false _ c.loop-j-test.true (known-not K _ _ _ _ c.from.ensures _ (c.known.ensures K (sized c.args.cut.now g c.if-cut-n.false)) (ap not c.if-not-known.true))

pub loop-j-preserved : goal.loop-j-preserved
loop-j-preserved c = λ K g. every_more _ _ (c.loop-j.invariant K g) (known_yes K _ _ _ _ c.from.ensures _ (c.known.ensures K (sized c.args.cut.now g c.if-cut-n.false)) (ap not c.if-not-known.false))

pub returns : goal.returns
returns c = λ K g. all_right _ g c.if-cut-n.false _ c.loop-j.auto.j-end (omega arith) (c.loop-j.invariant K g)
