-- An entry looks only at those above it, which are settled.
use Prim.Native.Nat.{◌-◌, ◌<◌}
use mathlib.Core.Path.{refl, ◌∙◌}
use native.Mathlib.Omega.{arith}
use lib.ListN.{length-set}
use lib.Seq.{get_or-set_other}
use Rattle.arrivals.proofs.Passes as passes
use Rattle.arrivals.proofs.settle.Goals as goal

pub loop-x-init : goal.loop-x-init
loop-x-init c = record { long = c.told-table; below = λ y h. refl; behind = λ y h. refl; from = λ y h l. absurd (omega arith) }

pub entry-requires : goal.entry-requires
entry-requires c =
    let a = c.args in
    let v = c.loop-x in
    (omega arith, c.requires.1, passes.known_same a.n a.i a.off a.starts.now v.table (v.x - 1) a.table.now (v.invariant.below (v.x - 1) (omega arith)) (c.requires.2 (v.x - 1) (omega arith)))

pub loop-x-preserved : goal.loop-x-preserved
loop-x-preserved c =
    let v = c.loop-x in
    let h : v.x - 1 < 256 = omega arith in record {
      long = simp length-set v.invariant.long;
      below = λ y l. get_or-set_other v.table (v.x - 1) y _ 0 (λ z. omega arith) ∙ v.invariant.below y (omega arith);
      behind = λ y l. get_or-set_other v.table (v.x - 1) y _ 0 (λ z. omega arith) ∙ v.invariant.behind y l;
      from = passes.settle_turn _ _ _ _ _ (v.x - 1) c.args.table.now _ c.args.count v.invariant.long h (λ y l. v.invariant.below y (omega arith)) c.entry.ensures (λ y l m. v.invariant.from y (omega arith) m);
    }

pub returns : goal.returns
returns c = let v = c.loop-x in (λ x h. v.invariant.from x (omega arith) h, v.invariant.behind)
