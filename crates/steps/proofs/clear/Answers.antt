-- The table is that of arrivals, so it leads to the rows of the raising function.
use mathlib.Core.Path.{refl}
use Rattle.steps.proofs.Arrivals as arrivals
use Rattle.steps.proofs.clear.Goals as goal

pub atom-requires-clause-tabled : goal.atom-requires-clause-tabled
atom-requires-clause-tabled c =
    let p = c.requires in
    rw c.from.ensures (arrivals.clear_tabled _ _ _ p.laid.1.0 _ _ p.i_lt_n.0 p.i_lt_n.1 _ (c.fill.ensures p.laid.0 p.laid.1))

pub returns : goal.returns
returns c =
    let p = c.requires in
    let r = c.atom.ensures in
    (r.0, r.1, λ K g. r.2 c.args.run.now.x K _ refl refl g.0 (rw c.from.ensures (arrivals.clear_leads K _ _ g.0 _ _ p.i_lt_n.0 p.i_lt_n.1 _ (c.fill.ensures K g))))
