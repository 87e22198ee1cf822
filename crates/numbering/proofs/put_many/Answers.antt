use Rattle.std.proofs.Common.{rules, ap, take, drop, ◌∙◌, ◌+◌, ◌*◌}
use Rattle.std.proofs.Math.Seq.{take-take}
use Rattle.numbering.proofs.Copies.{copied_more}
use Rattle.numbering.proofs.put_many.Goals as goal

pub loop-k-preserved : goal.loop-k-preserved
loop-k-preserved c =
    let a = c.args in
    let l = c.loop-k in
    let row = ap (take a.n) c.eight.ensures ∙ take-take a.n 8 (drop (a.at + l.k * a.n) a.ws.now) c.requires.0 in
    record {
      whole = search rules;
      copied = copied_more a.code.now a.n a.ws.now a.at l.k l.table c.put_row.new.table c.eight.result.now c.requires.3 l.invariant.copied row c.put_row.ensures;
    }
