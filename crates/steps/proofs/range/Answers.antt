-- The table is that of the values, or panels, that stand there, so it leads to the rows of the raising function.
use native.Mathlib.Omega.{arith}
use Rattle.structure.proofs.Starts.{own-fit}
use mathlib.Core.Path.{refl}
use Rattle.steps.proofs.Ranges as ranges
use Rattle.steps.proofs.range.Goals as goal

pub table_of-table-requires : goal.table_of-table-requires
table_of-table-requires c =
    let a = c.args in
    let p = c.requires in
    (omega (arith, own-fit _ _ _ p.laid.1.0 a.r.station p.station_lt_n.0, a.run.now.x.few_events), rw c.from-off.ensures (ranges.values_fit _ _ _ p.laid.1.0 a.r.station p.station_lt_n.0 _ p.laid.1.1 a.r.aspect _ c.aspect_at.ensures))

pub atom-requires-clause-tabled : goal.atom-requires-clause-tabled
atom-requires-clause-tabled c =
    let a = c.args in
    let p = c.requires in
    rw c.from-off.ensures (ranges.range_tabled _ _ _ p.laid.1.0 a.r.station p.station_lt_n.0 _ p.laid.1.1 a.r.aspect _ c.aspect_at.ensures a.sign a.r.lo a.r.hi _ (rw (← c.from-off.ensures) c.table_of-table.ensures))

pub returns : goal.returns
returns c =
    let a = c.args in
    let p = c.requires in
    let r = c.atom.ensures in
    (r.0, r.1, λ K g. r.2 a.run.now.x K _ refl refl g.0 (rw c.from-off.ensures (ranges.range_leads K _ _ g.0 a.r.station p.station_lt_n.0 _ g.1 a.r.aspect _ c.aspect_at.ensures a.sign a.r.lo a.r.hi _ (rw (← c.from-off.ensures) c.table_of-table.ensures))))
