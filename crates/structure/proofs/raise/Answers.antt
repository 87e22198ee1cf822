use native.Mathlib.Omega.{arith}
use lib.ListN.{take}
use Rattle.structure.proofs.Raising.{raise-start, raise_turn, raise-finish}
use Rattle.structure.proofs.raise.Goals as goal

pub loop-j-init : goal.loop-j-init
loop-j-init c = raise-start c.args.x c.args.ws.now (take c.args.x.n c.args.cut.now) c.join_at.new.acc c.requires.0 c.requires.1 c.join_at.ensures

pub loop-j-preserved : goal.loop-j-preserved
loop-j-preserved c = λ bs. raise_turn c.args.x.n _ c.args.cut.now c.loop-j.j _ _ c.loop-j-test.true (c.loop-j.invariant bs) (c.add_station.ensures bs)

pub returns : goal.returns
returns c = λ bs. raise-finish c.args.x.n _ c.args.cut.now _ (omega arith) c.loop-j.j (omega arith) (c.loop-j.invariant bs)
