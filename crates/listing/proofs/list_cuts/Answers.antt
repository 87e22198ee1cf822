use mathlib.Core.Path.{◌≡◌, sym, ap, subst, ◌∙◌}
use Prim.Native.Nat.{ℕ, ◌+◌, ◌*◌, ◌-◌}
use native.Mathlib.Omega.{arith}
use mathlib.Core.List.{List, map}
use lib.ListN.{take, drop}
use Rattle.model.specs.Structure.{Structure, greatest}
use Rattle.model.specs.Answer.{tops, sort}
use Rattle.lattice.specs.Ascending.{RowsAscend}
use Rattle.lattice.proofs.Lists.{All}
use Rattle.structure.specs.Layout.{cuts_at}
use Rattle.tops.specs.Greatest.{GreatestAt}
use Rattle.std.proofs.lemmas.List.{take_rest}
use Rattle.listing.proofs.Standing as stands
use Rattle.listing.proofs.list_cuts.Goals as goal

pub loop-i-init : goal.loop-i-init
loop-i-init c =
    let a = c.args in
    (omega arith, λ bs _. stands.list-none a.x.n a.count a.cuts.now (take a.x.n a.x.counts) (drop (a.count * ((a.x.e + 1) * a.x.n)) a.ws.now) bs)

pub loop-i-preserved : goal.loop-i-preserved
loop-i-preserved c =
    let a = c.args in
    let l = c.loop-i in
    let i = l.i - 1 in
    let g = c.greatest-cut in
    let d = c.add_cut-listed in
    let s : l.i ≡ i + 1 = omega (arith, c.loop-i-test.true) in
    let top = subst (λ (w : List ℕ). GreatestAt a.x w 0 (take a.x.n g.result)) (take_rest a.ws.now (i * ((a.x.e + 1) * a.x.n))) g.ensures in (
      omega (arith, l.invariant.0, l.auto.i, d.ensures.0, c.loop-i-test.true),
      λ bs all.
          let u = stands.all_from a.x.n a.x.e a.count (take a.x.n a.x.counts) a.ws.now a.x.events_are l.i i bs s (omega (arith, l.auto.i)) all in
          stands.list-more a.x.n a.x.e a.count (take a.x.n a.x.counts) a.ws.now a.x.events_are l.i i bs (take a.x.n g.result) (cuts_at a.x.n l.listed l.cuts) (cuts_at a.x.n d.result d.new.cuts) s (omega (arith, l.auto.i)) (l.invariant.1 (drop (16 * a.x.n) bs) u.1) (top bs u.0) d.ensures.1,
    )

pub returns : goal.returns
returns c =
    let l = c.loop-i in
    let a = c.args in (
      omega (arith, l.invariant.0),
      λ bs all.
          let e = stands.list_all a.x.n a.x.e a.count (take a.x.n a.x.counts) a.ws.now a.x.events_are l.i bs (omega (arith, c.loop-i-test.false)) in
          l.invariant.1 bs (subst (All (RowsAscend (take a.x.n a.x.counts))) (sym e) all) ∙ ap (λ (x : List Structure). sort (tops (map greatest x))) e,
    )
