-- A cut belongs where it is raised to itself, and contained in no bar.
use lib.ListN.{take}
use Rattle.structure.proofs.Bars.{none_outside, raised_outside, raised_inside}
use Rattle.structure.proofs.belongs.Goals as goal

pub returns-then-raised : goal.returns-then-raised
returns-then-raised c = none_outside c.args.x.n _ (take c.args.x.n c.args.cut.now) c.raise-raised.result c.args.x.some_station (c.raise-raised.ensures c.args.bars.now) c.if-raised.true

pub returns-then-contained : goal.returns-then-contained
returns-then-contained c =
    let r = c.raise-raised in
    raised_inside c.args.x.n _ (take c.args.x.n c.args.cut.now) r.result c.args.x.some_station (r.ensures c.args.bars.now) c.if-raised.false _ c.contained.ensures c.if-contained.true _ c.barred.ensures

pub returns-else-contained : goal.returns-else-contained
returns-else-contained c =
    let r = c.raise-raised in
    raised_outside c.args.x.n _ (take c.args.x.n c.args.cut.now) r.result c.args.x.some_station (r.ensures c.args.bars.now) c.if-raised.false _ c.contained.ensures c.if-contained.false
