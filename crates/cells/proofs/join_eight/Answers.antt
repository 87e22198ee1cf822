use Rattle.std.proofs.Common.{◌≡◌, arith}
use Rattle.std.proofs.lemmas.Grind.{common_steps}
use Rattle.cells.proofs.Cuts.{join_row}
use Rattle.cells.proofs.join_eight.Goals as goal

pub returns : goal.returns
returns c =
    let a = c.args in
    let l = c.loop-i.invariant in
    let e : c.copy.new.ws ≡ c.loop-i.t = grind (arith, common_steps, c.copy.ensures) in
    rw e (join_row c.loop-i.t a.acc.now a.ws.now a.at 8 l.eight (omega arith) (omega arith) (λ k m. l.joined k (omega arith)))
