use Rattle.std.proofs.Common.{drop, arith, length-drop}
use Rattle.std.proofs.lemmas.List.{get_or-drop}
use Rattle.cells.proofs.Parts.{paste_more}
use Rattle.cells.proofs.copy.Goals as goal

pub loop-i-preserved : goal.loop-i-preserved
loop-i-preserved c =
    let a = c.args in
    let i = c.loop-i.i in
    rw c.loop-i.invariant (paste_more a.ws.now a.at (drop a.from a.src.now) i _ (omega arith) (omega (arith, length-drop a.from a.src.now)) (get_or-drop a.from a.src.now i 0))
