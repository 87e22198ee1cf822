use Rattle.std.proofs.Common.{arith}
use Rattle.numbering.proofs.Copies.{counts_put}
use Rattle.numbering.proofs.put_counts.Goals as goal

pub returns-then-ws-at-lt8-clause-ws_after : goal.returns-then-ws-at-lt8-clause-ws_after
returns-then-ws-at-lt8-clause-ws_after c K o m e f h =
    let a = c.args in
    let l = c.loop-i in
    counts_put K a.code.now m f o a.cut.now l.t a.ws.now c.copy.new.ws a.at a.n a.n h e (omega arith) (omega arith) l.invariant.eight (λ i u. l.invariant.done i (omega arith)) c.copy.ensures c.requires.0

pub returns-else-ws-at-lt8-clause-ws_after : goal.returns-else-ws-at-lt8-clause-ws_after
returns-else-ws-at-lt8-clause-ws_after c K o m e f h =
    let a = c.args in
    let l = c.loop-i in
    counts_put K a.code.now m f o a.cut.now l.t a.ws.now c.copy-else-ws-at-lt8.new.ws a.at a.n 8 h e (omega arith) (omega arith) l.invariant.eight (λ i u. l.invariant.done i (omega arith))
    c.copy-else-ws-at-lt8.ensures (omega arith)
