use Rattle.std.proofs.Common.{arith, ◌*◌, ◌∙◌}
use Rattle.numbering.proofs.Copies.{copied_cells, copied_front}
use Rattle.numbering.proofs.put_row.Goals as goal

pub returns : goal.returns
returns c =
    let a = c.args in
    let l = c.loop-i in
    record {
      front = copied_front a.table.now l.t c.copy.new.ws (a.k * 8) 8 (omega arith) (omega arith) c.copy.ensures;
      cells = λ i h. copied_cells a.table.now l.t c.copy.new.ws (a.k * 8) 8 (omega arith) (omega arith) c.copy.ensures i h ∙ l.invariant.done i (omega arith);
    }
