use native.Mathlib.Omega.{arith}
use Rattle.bars.proofs.Bars as bars
use Rattle.bars.proofs.join_bars.Goals as goal

pub returns : goal.returns
returns c =
    let a = c.args in
    let p = c.requires in
    bars.bars-joined a.n a.i a.j a.o c.count_bars-k.result c.count_bars-m.result a.bs.now c.shift.new.ws c.shift-2.new.ws c.end_bars.new.bs p.0 p.2 p.3 p.4 c.count_bars-k.ensures c.count_bars-m.ensures (omega (arith, c.count_bars-k.ensures, c.count_bars-m.ensures, p.5)) c.shift.ensures c.shift-2.ensures c.end_bars.ensures
