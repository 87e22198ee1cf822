use mathlib.Core.Path.{◌≡◌}
use Prim.Native.Nat.{◌+◌, ◌*◌}
use native.Mathlib.Omega.{arith}
use lib.ListN.{get_or}
use Rattle.tops.proofs.LastRows as last
use Rattle.tops.proofs.last_row.Goals as goal

pub loop-k-init : goal.loop-k-init
loop-k-init c = λ i p q. absurd (omega arith)

pub bounds-ws-p : goal.bounds-ws-p
bounds-ws-p c =
    let room = last.row_room c.args.x c.args.ws.now c.requires.1 c.args.j c.from-before.result c.from-k.result c.requires.0 c.from-before.ensures c.from-k.ensures c.loop-k.k c.loop-k.auto.k in
    omega (arith, room, c.args.x.some_station)

pub returns-then-ws-p : goal.returns-then-ws-p
returns-then-ws-p c =
    let a = c.args in (
      last.row_room a.x a.ws.now c.requires.1 a.j c.from-before.result c.from-k.result c.requires.0 c.from-before.ensures c.from-k.ensures c.loop-k.k c.loop-k.auto.k,
      last.last_there a.x a.ws.now c.requires.1 a.j c.from-before.result c.from-k.result c.requires.0 c.from-before.ensures c.from-k.ensures c.loop-k.k c.loop-k.auto.k c.loop-k.invariant (omega arith) c.if-ws-p.true,
    )

pub loop-k-preserved : goal.loop-k-preserved
loop-k-preserved c =
    last.one-before (λ i. get_or c.args.ws.now ((c.from-before.result + i) * c.args.x.n) 0 ≡ 255) c.loop-k.k c.from-k.result c.loop-k.invariant c.if-ws-p.false

pub returns : goal.returns
returns c =
    let a = c.args in (
      omega (arith, last.within a.x a.ws.now c.requires.1),
      last.last_least a.x a.ws.now c.requires.1 a.j c.from-before.result c.from-k.result c.requires.0 c.from-before.ensures c.from-k.ensures c.loop-k.k c.loop-k.auto.k c.loop-k.invariant (omega arith),
    )
