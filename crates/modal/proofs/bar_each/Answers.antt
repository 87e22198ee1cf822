use Prim.Native.Nat.{ℕ, ◌<◌, ◌≤◌, ◌+◌, ◌*◌}
use mathlib.Core.Path.{subst}
use mathlib.Core.List.{List}
use native.Mathlib.Omega.{arith}
use lib.ListN.{length, take}
use Rattle.cells.proofs.Parts.{drop-whole}
use Rattle.tops.specs.Greatest.{GreatestAt}
use Rattle.structure.proofs.Places.{next_fits}
use Rattle.modal.proofs.Laws as laws
use Rattle.modal.proofs.bar_each.Goals as goal

pub loop-i-preserved : goal.loop-i-preserved
loop-i-preserved c =
    let a = c.args in
    let v = c.loop-i in
    let h : v.i < 16 = omega (arith, c.loop-i-test.true, c.requires.0) in
    let room : v.i * a.x.n + a.x.n ≤ length v.bs = omega (arith, next_fits v.i 16 a.x.n h, c.requires.2, v.auto.bs) in
    let long : a.x.n ≤ length c.greatest-g.result = omega (arith, a.x.few_stations) in
    let top = subst (λ (w : List ℕ). GreatestAt a.x w 0 (take a.x.n c.greatest-g.result)) (drop-whole (v.i * ((a.x.e + 1) * a.x.n)) a.ws.now) c.greatest-g.ensures in
    (laws.bars_turn (λ j g. GreatestAt a.x a.ws.now (j * ((a.x.e + 1) * a.x.n)) g) a.x.n v.i v.bs c.copy.new.ws c.greatest-g.result room long top c.copy.ensures v.invariant.0, laws.bars_behind a.x.n v.i a.bs.now v.bs c.copy.new.ws c.greatest-g.result room long c.copy.ensures v.invariant.1)
