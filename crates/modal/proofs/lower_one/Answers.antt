-- The rows written are those of all cuts below the greatest.
use Rattle.modal.proofs.Laws as laws
use Rattle.modal.proofs.lower_one.Goals as goal

pub returns : goal.returns
returns c =
    let a = c.args in
    let p = c.requires in
    laws.lower_one a.x a.starts.now a.ws.now c.below_rows.new.ws a.bs.now _ a.x.some_station p.1 p.3 c.greatest-g.ensures c.below_rows.ensures.0 c.below_rows.ensures.1
