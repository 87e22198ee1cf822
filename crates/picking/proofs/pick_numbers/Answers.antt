-- `picking::pick_numbers` meets its contract.
use Rattle.std.proofs.Common.{arith}
use Rattle.picking.proofs.Picking.{from_table}
use Rattle.picking.proofs.pick_numbers.Goals as goal

pub returns : goal.returns
returns c = λ K A f h.
    let q = c.args.q in
    c.pick.ensures K A f (λ k o l p. from_table K q.s f.small A c.args.table.now k o (omega (arith, q.there, q.x.few_stations)) h l p.0 p.1)
