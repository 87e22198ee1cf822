use Rattle.std.proofs.Common.{arith, rules}
use Rattle.chains.proofs.Finding.{done_more, done_all}
use Rattle.chains.proofs.first_cuts.Goals as goal

pub loop-i-preserved : goal.loop-i-preserved
loop-i-preserved c =
    let l = c.loop-i in
    record {
      size = search rules;
      done = λ K S T m u v. done_more K _ l.cuts c.put_row.new.table c.first_cut.new.out l.i l.invariant.size (omega arith) (omega arith) c.put_row.ensures
          (λ j k h e. c.first_cut.ensures K S T j k m u v h e) (l.invariant.done K S T m u v);
    }

pub returns : goal.returns
returns c = λ K S T m e u v. done_all K _ c.loop-i.cuts c.loop-i.i (omega (arith, e)) (c.loop-i.invariant.done K S T m u v)
