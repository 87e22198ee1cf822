-- Of eight cells the first n count.
use Rattle.std.proofs.Common.{arith, drop}
use Rattle.cells.proofs.Cuts.{join_front}
use Rattle.cells.proofs.join_at.Goals as goal

pub returns : goal.returns
returns c =
    let a = c.args in
    rw c.join_eight.ensures (join_front a.acc.now (drop a.at a.ws.now) a.n 8 (omega arith))
