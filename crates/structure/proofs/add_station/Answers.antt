-- `structure::add_station` meets its contract, by the three ways through it: no event, an event that is not there, a row to join.
use Prim.Native.Nat.{◌+◌, ◌*◌, ◌<◌}
use lib.ListN.{get_or}
use native.Mathlib.Omega.{arith}
use Rattle.structure.proofs.Raising.{station-zero, station-none, station-room, station_joins}
use Rattle.structure.proofs.add_station.Goals as goal

pub returns-then-count-eq0 : goal.returns-then-count-eq0
returns-then-count-eq0 c =
    station-zero c.args.x c.args.ws.now c.args.acc.now c.told-acc c.args.j c.args.count c.requires.0 c.if-count-eq0.true

pub returns-then-counts-j : goal.returns-then-counts-j
returns-then-counts-j c =
    station-none c.args.x c.args.ws.now c.args.acc.now c.told-acc c.args.j c.args.count c.requires.0 c.if-counts-j.true

pub join_at-requires : goal.join_at-requires
join_at-requires c =
    let a = c.args in
    (a.x.few_stations, station-room a.x a.ws.now a.acc.now c.told-acc a.j a.count c.requires.0 c.requires.1 _ (omega arith) c.if-counts-j.false)

pub returns : goal.returns
returns c =
    let a = c.args in
    let k = c.from.result + c.from-2.result in
    let byte : get_or a.ws.now (k * a.x.n) 0 < 256 = omega (arith, c.type_inv.ws (k * a.x.n)) in
    station_joins a.x a.ws.now a.acc.now c.told-acc a.j a.count c.requires.0 c.requires.1 k (omega arith) c.if-counts-j.false c.if-count-eq0.false (c.fits-acc 0) byte
    c.join_at.new.acc c.join_at.ensures
