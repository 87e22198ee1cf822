-- `picking::join_row` meets its contract.
use Rattle.std.proofs.Common.{◌≡◌, ◌∙◌, ap, arith, List, ℕ}
use Rattle.model.specs.Cut.{join}
use Rattle.picking.specs.Rows.{row_of}
use Rattle.picking.proofs.Reading.{row_copied}
use Rattle.picking.proofs.join_row.Goals as goal

pub returns : goal.returns
returns c =
    let a = c.args in
    let e : c.copy.new.ws ≡ row_of a.a.now a.i = row_copied a.a.now a.out.now c.copy.new.ws a.i (omega arith) c.copy.ensures in
    c.join_eight.ensures ∙ ap (λ (l : List ℕ). join l (row_of a.b.now a.k)) e
