-- Marked, gathered and settled, the table leads each count of the sender to where 07 is true.
use native.Mathlib.Omega.{arith}
use Rattle.structure.proofs.Starts.{own-fit}
use Rattle.arrivals.proofs.Entries as entries
use Rattle.arrivals.proofs.fill.Goals as goal

pub settle-requires : goal.settle-requires
settle-requires c =
    let p = c.requires in
    let g = p.laid.1 in
    let a = c.args in (
      omega arith,
      omega (arith, c.from.ensures, own-fit _ _ _ g.0 a.j p.i_lt_n.1, a.run.now.x.few_events),
      entries.gathered_known _ _ _ g.0 _ _ p.i_lt_n.0 p.i_lt_n.1 _ _ c.from-count.ensures c.from.ensures _ g.1 c.mark.new.table c.gather.new.table
          (c.mark.ensures p.laid.0.messages g.1.filed) c.gather.ensures.0,
    )

pub returns : goal.returns
returns c =
    let p = c.requires in
    λ K g.
    entries.arrivals K _ _ g.0 _ _ p.i_lt_n.0 p.i_lt_n.1 _ _ c.from-count.ensures c.from.ensures _ g.1 c.mark.new.table c.gather.new.table
    (c.mark.ensures K.messages g.1.filed) c.gather.ensures.0 _ c.gather.ensures.1 c.settle.ensures.0 c.settle.ensures.1
