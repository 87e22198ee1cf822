-- One more count is added, and one more sum stored. Assumes nothing.
use native.Mathlib.Omega.{arith}
use lib.ListN.{length-set}
use Rattle.offsets.proofs.Totals.{sum_next, sum-set}
use Rattle.offsets.proofs.offsets.Goals as goal

pub loop-j-preserved : goal.loop-j-preserved
loop-j-preserved c = let l = c.loop-j in record {
  eight = rw length-set l.invariant.eight;
  so_far = omega (arith, sum_next c.args.counts c.args.n l.j c.loop-j-test.true, l.invariant.so_far);
  each = sum-set c.args.counts l.offs c.args.n l.j l.sum (omega arith) l.invariant.so_far l.invariant.each;
}
