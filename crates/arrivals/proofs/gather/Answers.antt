-- An entry becomes the larger of itself and the one before it.
use Prim.Native.Nat.{◌+◌, ◌<◌}
use mathlib.Core.Path.{refl}
use native.Mathlib.Omega.{arith}
use lib.ListN.{length-set}
use Rattle.arrivals.proofs.Passes as passes
use Rattle.arrivals.proofs.gather.Goals as goal

pub loop-x-init : goal.loop-x-init
loop-x-init c = record { long = c.told-table; below = passes.gather_first _; above = λ y h. refl }

pub loop-x-preserved : goal.loop-x-preserved
loop-x-preserved c =
    let a = c.args in
    let v = c.loop-x in
    let h : v.x + 1 < 256 = omega arith in record {
      long = simp length-set v.invariant.long;
      below = passes.gather_turn a.table.now v.table v.x _ v.invariant.long h v.invariant.below v.invariant.above c.max.ensures;
      above = passes.gather_kept a.table.now v.table v.x _ v.invariant.long h v.invariant.above;
    }
