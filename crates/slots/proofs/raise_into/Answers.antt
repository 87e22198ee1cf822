use Rattle.std.proofs.Common.{arith, rules, ◌≡◌}
use Rattle.std.proofs.lemmas.Grind.{common_steps}
use Rattle.std.proofs.Math.Seq.{get_or-set_same}
use Rattle.slots.proofs.Rising as laws
use Rattle.slots.proofs.raise_into.Goals as goal

pub returns-then-cut-eq-NONE : goal.returns-then-cut-eq-NONE
returns-then-cut-eq-NONE c K S o m t h = rw (laws.rise_none K S o c.args.cut.now m h c.if-cut-eq-NONE.true) (get_or-set_same c.args.out.now 0 255 0 (omega arith))

pub loop-k-init : goal.loop-k-init
loop-k-init c =
    let a = c.args in
    record { eight = search rules; says = λ K S x m t h. laws.rise_start K S x a.table.now a.cut.now m t h (omega arith) c.join_eight.new.acc c.join_eight.ensures }

pub loop-k-preserved : goal.loop-k-preserved
loop-k-preserved c =
    let a = c.args in
    let l = c.loop-k in
    let j = c.join_eight-in-loop-k in
    record { eight = search rules; says = λ K S x m t h. laws.rise_turn K S x a.table.now a.cut.now m t h l.k-index l.acc j.new.acc _ (l.invariant.says K S x m t h) (omega arith) j.ensures }

pub returns : goal.returns
returns c K S o m t h =
    let l = c.loop-k in
    let e : c.copy.new.ws ≡ l.acc = grind (arith, common_steps) in
    rw e (laws.risen K S o c.args.table.now c.args.cut.now l.k-index l.acc m t h c.if-cut-eq-NONE.false (omega arith) (l.invariant.says K S))
