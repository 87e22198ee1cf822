-- The clocks of one more station. Assumes nothing.
use mathlib.Core.Path.{◌≡◌, refl, ap, ◌∙◌}
use Prim.Native.Nat.{◌+◌, ◌≤◌}
use native.Mathlib.Omega.{arith}
use lib.ListN.{take}
use lib.Seq.{take-take}
use Rattle.model.specs.Limits.{stored_report, limits}
use Rattle.model.specs.Lists.{total}
use Rattle.offsets.proofs.Totals.{sum_few}
use Rattle.layout.proofs.Room.{station-fits}
use Rattle.layout.proofs.Grown.{copied, starts_first, starts_more}
use Rattle.layout.proofs.starts.lay_starts.Goals as goal

pub loop-j-init : goal.loop-j-init
loop-j-init c =
    let a = c.args in
    record { long = refl; clocks = starts_first a.store.now a.x.counts a.starts.now c.copy.new.ws a.x.n (copied a.starts.now c.copy.new.ws a.store.now 0 stored_report a.x.n (omega (arith, a.x.few_stations, c.requires)) (omega (arith, a.x.few_stations, c.told-store)) c.copy.ensures) }

pub station_clocks-requires : goal.station_clocks-requires
station_clocks-requires c =
    let x = c.args.x in
    let few : c.from-in-loop-j.result + c.from.result ≤ limits.events =
    omega (arith, sum_few x.counts x.n c.loop-j.j c.loop-j-test.true, x.offs_are c.loop-j.j c.loop-j-test.true, c.from.ensures, c.from-in-loop-j.ensures, x.few_events, x.events_are) in
    (x.few_stations, omega (arith, x.few_stations), omega arith, omega (arith, station-fits _ _ _ few x.few_stations, c.requires, c.copy.auto.ws, c.loop-j.auto.starts))

pub loop-j-preserved : goal.loop-j-preserved
loop-j-preserved c =
    let a = c.args in
    let l = c.loop-j in
    let h = c.loop-j-test.true in record {
      long = c.station_clocks.auto.starts ∙ l.invariant.long;
      clocks = starts_more a.store.now a.x.counts l.starts c.station_clocks.new.starts a.x.n l.j c.from.result c.from-in-loop-j.result h c.from.ensures (c.from-in-loop-j.ensures ∙ a.x.offs_are l.j h) l.invariant.clocks c.station_clocks.ensures;
    }

pub returns : goal.returns
returns c =
    let x = c.args.x in
    let e : c.loop-j.j ≡ x.n = omega arith in
    let t : total (take x.n (take x.n x.counts)) ≡ x.e = ap total (take-take x.n x.n x.counts (omega arith)) ∙ x.events_are in
    rw t at (rw e at c.loop-j.invariant.clocks)
