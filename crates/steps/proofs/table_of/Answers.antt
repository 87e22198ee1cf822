use Prim.Native.Nat.{ℕ, ◌-◌, ◌+◌}
use mathlib.Core.Path.{◌≡◌, sym, ap, ◌∙◌}
use mathlib.Core.Bool.{Bool}
use native.Mathlib.Omega.{arith}
use lib.ListN.{get_or, length-replicate, length-set}
use Rattle.model.specs.Atom.{passes}
use Rattle.steps.specs.Rows.{entry}
use Rattle.steps.proofs.Laws as laws
use Rattle.steps.proofs.table_of.Goals as goal
use Rattle.steps.proofs.table_of.Goals.{then-passes, else-passes}

pub loop-k-init : goal.loop-k-init
loop-k-init c = (length-replicate {A = ℕ} 256 255, sym (laws.entry_past _ _ _ (omega arith)), λ j h l. laws.table-start j l ∙ sym (laws.entry_past _ _ _ (omega arith)))

pub loop-k-preserved : goal.loop-k-preserved
loop-k-preserved c =
    let k = c.loop-k.k in
    let p : ℕ → Bool = λ j. passes c.args.sign c.args.r.aspect c.args.r.lo c.args.r.hi (get_or c.args.values.now (c.args.at + j) 0) in
    let e : c.if-passes.last ≡ entry p c.args.count k =
    elim c.if-passes.branch [
      | then-passes w ↦ w.last-is ∙ laws.entry_hit p c.args.count k _ c.from-i.ensures c.loop-k.auto.k (sym c.passes.ensures ∙ w.if-passes.true)
      | else-passes w ↦ w.last-is ∙ c.loop-k.invariant.1 ∙ laws.entry_miss p c.args.count k _ c.from-i.ensures c.loop-k.auto.k (sym c.passes.ensures ∙ w.if-passes.false)
    ] in
    let q : k - 1 + 1 ≡ k = omega arith in
    let filled = laws.table_turn p c.args.count k _ c.from-i.ensures c.loop-k.auto.k c.loop-k.table c.if-passes.last (omega arith) c.loop-k.invariant.0 e c.loop-k.invariant.2 in
    (length-set _ _ _ ∙ c.loop-k.invariant.0, e ∙ ap (entry p c.args.count) (sym q), λ j a b. filled j (omega arith) b)

pub returns-after-passes : goal.returns-after-passes
returns-after-passes c =
    let k = c.loop-k.k in
    let p : ℕ → Bool = λ j. passes c.args.sign c.args.r.aspect c.args.r.lo c.args.r.hi (get_or c.args.values.now (c.args.at + j) 0) in
    let e : c.if-passes.last ≡ entry p c.args.count k =
    elim c.if-passes.branch [
      | then-passes w ↦ w.last-is ∙ laws.entry_hit p c.args.count k _ c.from-i.ensures c.loop-k.auto.k (sym c.passes.ensures ∙ w.if-passes.true)
      | else-passes w ↦ w.last-is ∙ c.loop-k.invariant.1 ∙ laws.entry_miss p c.args.count k _ c.from-i.ensures c.loop-k.auto.k (sym c.passes.ensures ∙ w.if-passes.false)
    ] in
    λ j b. laws.table_turn p c.args.count k _ c.from-i.ensures c.loop-k.auto.k c.loop-k.table c.if-passes.last (omega arith) c.loop-k.invariant.0 e c.loop-k.invariant.2 j (omega arith) b
