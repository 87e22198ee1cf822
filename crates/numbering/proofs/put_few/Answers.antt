use Rattle.std.proofs.Common.{rules}
use Rattle.numbering.proofs.Copies.{copied_more}
use Rattle.numbering.proofs.put_few.Goals as goal

pub loop-k-preserved : goal.loop-k-preserved
loop-k-preserved c =
    let a = c.args in
    let l = c.loop-k in
    record {
      whole = search rules;
      copied = copied_more a.code.now a.n a.ws.now a.at l.k l.table c.put_row.new.table c.cut_at.result c.requires.3 l.invariant.copied c.cut_at.ensures.0 c.put_row.ensures;
    }
