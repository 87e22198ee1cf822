use mathlib.Core.Path.{refl, ap, ◌∙◌}
use mathlib.Core.Bool.{not}
use native.Mathlib.Omega.{arith}
use lib.ListN.{take}
use Rattle.model.specs.Answer.{not_inside}
use Rattle.structure.specs.Layout.{cuts_at}
use Rattle.cuts.proofs.Cuts.{within}
use Rattle.cuts.proofs.Adding as adding
use Rattle.cuts.proofs.take_out.Goals as goal
use Rattle.cuts.proofs.take_out.Goals.{then-not-contained, else-not-contained}

pub loop-i-init : goal.loop-i-init
unfolding cuts_at not_inside
loop-i-init c = record { left_low = omega arith; long = refl; behind = refl; stay = refl }

pub loop-i-preserved : goal.loop-i-preserved
loop-i-preserved c =
    let l = c.loop-i in
    let a = c.args in
    let v = l.invariant in
    let r = within a.n l.i a.count c.loop-i-test.true c.requires.1 in
    elim c.if-not-contained.branch [
      | then-not-contained w ↦
          let t = adding.stays (take a.n a.cut.now) a.cuts.now l.cuts a.n l.i l.left v.behind v.stay c.if-not-contained.cuts c.if-not-contained.left v.left_low (omega (arith, r, v.long)) (w.cuts-is ∙ w.shift.ensures) w.left-is c.contained.ensures (ap not w.if-not-contained.true) in
          record { left_low = omega (arith, w.left-is, v.left_low); long = c.if-not-contained.auto.cuts ∙ v.long; behind = t.0; stay = t.1 }
      | else-not-contained w ↦
          let t = adding.goes (take a.n a.cut.now) a.cuts.now l.cuts a.n l.i l.left v.behind v.stay c.if-not-contained.cuts c.if-not-contained.left w.cuts-is w.left-is c.contained.ensures (ap not w.if-not-contained.false) in
          record { left_low = omega (arith, w.left-is, v.left_low); long = c.if-not-contained.auto.cuts ∙ v.long; behind = t.0; stay = t.1 }
    ]
