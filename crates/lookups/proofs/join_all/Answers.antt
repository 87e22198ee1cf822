use Rattle.std.proofs.Common.{arith, rules}
use Rattle.lookups.proofs.Starts.{joined-more}
use Rattle.lookups.proofs.join_all.Goals as goal

pub loop-i-preserved : goal.loop-i-preserved
loop-i-preserved c =
    let a = c.args in
    let l = c.loop-i in
    let p = c.place_of in
    record {
      size = search rules;
      joined = joined-more a.s a.picks.now a.cuts.now a.rows.now l.out c.put_row.new.table c.join_row.new.out l.i p.result l.invariant.size (omega arith) (omega arith) p.ensures.0 c.join_row.ensures c.put_row.ensures l.invariant.joined;
    }
