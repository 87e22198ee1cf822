-- The values of one more station. Assumes nothing.
use mathlib.Core.Path.{◌≡◌, refl, ap, ◌∙◌}
use native.Mathlib.Omega.{arith}
use lib.ListN.{take}
use lib.Seq.{take-take}
use Rattle.model.specs.Lists.{sum, total}
use Rattle.layout.specs.Rows.{in_turn, values_in}
use Rattle.offsets.proofs.Totals.{sum_few}
use Rattle.layout.proofs.Grown.{values_more}
use Rattle.layout.proofs.reports.lay_values.Goals as goal

pub loop-j-init : goal.loop-j-init
unfolding sum values_in in_turn
loop-j-init c = record { long = refl; values = refl }

pub station_values-requires : goal.station_values-requires
station_values-requires c =
    let x = c.args.x in
    let s = sum_few x.counts x.n c.loop-j.j c.loop-j-test.true in
    let o = x.offs_are c.loop-j.j c.loop-j-test.true in
    let m = c.from.ensures in
    let b = c.from-in-loop-j.ensures in
    let f = x.few_events in
    let t = x.events_are in
    let g = x.few_stations in
    (c.byte_of-b.ensures.1, omega arith, omega arith, omega arith)

pub loop-j-preserved : goal.loop-j-preserved
loop-j-preserved c =
    let a = c.args in
    let l = c.loop-j in
    let h = c.loop-j-test.true in record {
      long = c.station_values.auto.values ∙ l.invariant.long;
      values = values_more a.store.now a.x.counts l.values c.station_values.new.values a.x.n l.j c.from.result c.from-in-loop-j.result h c.from.ensures (c.from-in-loop-j.ensures ∙ a.x.offs_are l.j h) c.byte_of-b.result l.invariant.values c.station_values.ensures;
    }

pub returns : goal.returns
returns c =
    let x = c.args.x in
    let e : c.loop-j.j ≡ x.n = omega arith in
    let t : total (take x.n (take x.n x.counts)) ≡ x.e = ap total (take-take x.n x.n x.counts (omega arith)) ∙ x.events_are in
    rw (← c.byte_of-b.ensures.0) (rw t at (rw e at c.loop-j.invariant.values))
