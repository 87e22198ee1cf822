use Rattle.std.proofs.Common.{ℕ, arith, rules, subst, ap, ◌∙◌}
use Rattle.picking.specs.Formed.{entry_of}
use Rattle.picking.proofs.Forms.{events-fit, before-is, count-is}
use Rattle.picking.proofs.Picking.{picked_more, entry-found}
use Rattle.picking.proofs.pick.Goals as goal

pub number-v-requires : goal.number-v-requires
number-v-requires g c = let q = c.args.q in omega (arith, events-fit q.x q.s q.there)

pub found-requires : goal.found-requires
found-requires g c = let q = c.args.q in c.requires c.number-v.result (omega (arith, events-fit q.x q.s q.there))

pub bounds-picks-v : goal.bounds-picks-v
bounds-picks-v g c = let q = c.args.q in omega (arith, events-fit q.x q.s q.there)

pub loop-k-preserved : goal.loop-k-preserved
loop-k-preserved g c = record {
  size = search rules;
  picked = λ K A f h.
      let q = c.args.q in
      let l = c.loop-k in
      let r = c.found.result in
      let e = c.number-v.ensures.1 K q.s (c.from-before.ensures ∙ before-is q.x q.s q.there K f) in
      let found = h l.k r (omega (arith, count-is q.x q.s q.there K f, c.from-most.ensures)) (subst (λ (v : ℕ). goal.F-post g c.args.found v r) e c.found.ensures) in
      picked_more K q.s A l.picks l.k c.number-v.result c.entry_of.result (omega (arith, l.invariant.size, events-fit q.x q.s q.there)) e
      (c.entry_of.ensures ∙ ap (entry_of r) e ∙ entry-found K q.s l.k _ r found) (l.invariant.picked K A f h);
}

pub returns : goal.returns
returns g c = λ K A f h k l.
    let q = c.args.q in
    c.loop-k.invariant.picked K A f h k (omega (arith, count-is q.x q.s q.there K f))
