-- `picking::pick_counts` meets its contract.
use Rattle.std.proofs.Common.{arith, ◌∙◌}
use Rattle.structure.proofs.Places.{row_fits}
use Rattle.picking.proofs.Forms.{events-fit, before-is, count-is}
use Rattle.picking.proofs.Picking.{from_rows}
use Rattle.picking.proofs.pick_counts.Goals as goal

pub pick-requires : goal.pick-requires
pick-requires c = λ v h.
    let q = c.args.q in
    (omega (arith, row_fits v q.x.e q.x.n h, c.requires), q.there, omega (arith, events-fit q.x q.s q.there))

pub returns : goal.returns
returns c = λ K A f h.
    let q = c.args.q in
    c.pick.ensures K A f (λ k o l p. from_rows K q.s A c.args.ws.now c.args.from q.x.n k o q.there h l p.0
    (λ m. p.1 K (c.from-before.ensures ∙ before-is q.x q.s q.there K f) (omega (arith, m, count-is q.x q.s q.there K f, c.from-most.ensures))))
