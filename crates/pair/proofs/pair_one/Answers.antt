-- `pair::pair_one` meets its contract: the set is the intersection, the bars are those of both, and the tests are those of `build` and `keep`.
use Prim.Native.Nat.{◌*◌}
use native.Mathlib.Omega.{arith}
use Rattle.structure.proofs.Places.{one_more, next_fits}
use Rattle.pair.proofs.One as one
use Rattle.pair.proofs.pair_one.Goals as goal

pub join_bars-requires : goal.join_bars-requires
join_bars-requires c =
    let a = c.args in
    let r = c.requires in
    (a.x.some_station, a.x.few_stations, next_fits a.p.left a.p.to (16 * a.x.n) r.placed.left, next_fits a.p.right a.p.to (16 * a.x.n) r.placed.right, omega (arith, one_more a.p.to (16 * a.x.n), r.bars_fit), r.bars)

pub returns-then-ws-at : goal.returns-then-ws-at
returns-then-ws-at c =
    let x = c.intersect_at-rounds in
    record { one = omega arith; rounds_few = x.ensures.small; put = one.one-empty x.ensures c.join_bars.ensures c.if-ws-at.true }

pub returns : goal.returns
returns c =
    let x = c.intersect_at-rounds in
    let t = c.barred_out-kept in
    record { one = grind arith; rounds_few = x.ensures.small; put = one.one-tested x.ensures c.join_bars.ensures c.if-ws-at.false t.result t.ensures _ c.from.ensures }
