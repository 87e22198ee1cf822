use mathlib.Core.Path.{◌≡◌, ◌∙◌}
use Prim.Native.Nat.{suc, ◌-◌, ◌+◌}
use native.Mathlib.Nat.{le_trans}
use native.Mathlib.Omega.{arith}
use lib.ListN.{replicate}
use Rattle.model.specs.Computation.{count}
use Rattle.lattice.specs.Chains.{entries}
use Rattle.lattice.specs.OfStation.{own_row}
use Rattle.picking.proofs.Forms.{events-fit, before-is, count-is}
use Rattle.chaining.proofs.Telling.{least-le, unless}
use Rattle.chaining.proofs.Filling as laws
use Rattle.chaining.proofs.fill.Goals as goal

pub number-v-requires : goal.number-v-requires
number-v-requires c = let q = c.args.q in omega (arith, events-fit q.x q.s q.there)

pub make_entry-requires : goal.make_entry-requires
make_entry-requires c = let q = c.args.q in
    (omega (arith, events-fit q.x q.s q.there), λ i. omega (arith, c.loop-k.invariant.low i, events-fit q.x q.s q.there))

pub put_entry-requires-in-loop-k : goal.put_entry-requires-in-loop-k
put_entry-requires-in-loop-k c = let q = c.args.q in omega (arith, events-fit q.x q.s q.there)

pub loop-k-init : goal.loop-k-init
loop-k-init c =
    let q = c.args.q in
    let w = c.put_entry.ensures in
    let none-yet = laws.low-more 0 _ _ 0 _ _ w 0 0 c.requires (omega arith) (omega arith) in
    let r = unless q.right _ c.from.ensures in
    record {
      low = laws.low-more 255 (replicate 8 255) (replicate 8 255) c.from.result _ _ c.put_entry-2.ensures 0 _ none-yet (omega (arith, r, least-le q.right)) (omega arith);
      filled = λ K A B f g.
          let n : c.from-most.result + 1 - 1 ≡ c.from-most.result = omega arith in
          rw n (laws.filled_none K A B q.right q.s c.from-most.result c.from.result _ _ w.above_is w.under_is none-yet c.put_entry-2.ensures r (c.from-most.ensures ∙ count-is q.x q.s q.there K f));
    }

pub loop-k-preserved : goal.loop-k-preserved
loop-k-preserved c =
    let q = c.args.q in
    let l = c.loop-k in
    let v = c.number-v in
    let w = c.make_entry in
    let p = c.put_entry-in-loop-k.ensures in
    record {
      low = laws.low-more v.result _ _ _ _ _ p (suc (c.from-most.result - (l.k - 1))) _ l.invariant.low (le_trans (w.ensures.few_rounds _ l.invariant.low) (omega arith)) (omega arith);
      filled = λ K A B f g.
          let most = count-is q.x q.s q.there K f in
          let e = v.ensures.1 K q.s (c.from-before.ensures ∙ before-is q.x q.s q.there K f) in
          let old = l.invariant.filled K A B f g in
          laws.filled_more K A B q.right q.s (l.k - 1) v.result _ _ _ _ _ p f.small (omega arith) (omega (arith, most, c.from-most.ensures)) e old
          (w.ensures.tells K A B (entries K q.right q.s (own_row A q.s) B (count K q.s - (l.k - 1))) (l.k - 1) g old (omega (arith, most, c.from-most.ensures)) e);
    }

pub returns-clause-chained : goal.returns-clause-chained
returns-clause-chained c = λ K A B f g.
    let q = c.args.q in
    laws.filled_all K A B q.right q.s (c.loop-k.k - 1) _ (omega arith) (c.loop-k.invariant.filled K A B f g)

pub returns-clause-few_rounds : goal.returns-clause-few_rounds
returns-clause-few_rounds c = λ i. let q = c.args.q in omega (arith, c.loop-k.invariant.low i, events-fit q.x q.s q.there)
