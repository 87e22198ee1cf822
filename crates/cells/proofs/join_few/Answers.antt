use Rattle.std.proofs.Common.{take, arith}
use Rattle.std.proofs.lemmas.Grind.{common_steps}
use Rattle.cells.proofs.Cuts.{join_row}
use Rattle.cells.proofs.join_few.Goals as goal

pub returns : goal.returns
returns c =
    let a = c.args in
    join_row (take a.n c.loop-i.acc) (take a.n a.acc.now) a.ws.now a.at a.n (grind (arith, common_steps)) (grind (arith, common_steps)) (omega arith) (grind (arith, common_steps))
