use mathlib.Core.Path.{◌≡◌, sym, ◌∙◌}
use Prim.Native.Nat.{◌+◌, ◌*◌}
use lib.ListN.{take, drop}
use Rattle.model.specs.Structure.{belongs}
use Rattle.structure.specs.Layout.{structure_at}
use Rattle.std.proofs.lemmas.List.{take_rest}
use Rattle.listing.proofs.Standing as stands
use Rattle.listing.proofs.belongs_any.Goals as goal

pub loop-i-init : goal.loop-i-init
loop-i-init c = stands.belongs_all c.args.x.n c.args.x.e c.args.count (take c.args.x.n c.args.x.counts) c.args.ws.now c.args.bs.now (take c.args.x.n c.args.cut.now)

pub returns-then-belongs : goal.returns-then-belongs
returns-then-belongs c =
    let a = c.args in
    let i = c.loop-i.i in
    let here : c.belongs.result ≡ belongs (structure_at a.x.n (take a.x.n a.x.counts) (drop (i * ((a.x.e + 1) * a.x.n)) a.ws.now) (drop (i * (16 * a.x.n)) a.bs.now)) (take a.x.n a.cut.now) =
    rw (take_rest a.ws.now (i * ((a.x.e + 1) * a.x.n)), take_rest a.bs.now (i * (16 * a.x.n))) at c.belongs.ensures in
    sym (c.loop-i.invariant ∙ stands.one-belongs a.x.n a.x.e a.count (take a.x.n a.x.counts) a.ws.now a.x.events_are (take a.x.n a.cut.now) a.bs.now i c.loop-i-test.true here c.if-belongs.true)

pub loop-i-preserved : goal.loop-i-preserved
loop-i-preserved c =
    let a = c.args in
    let i = c.loop-i.i in
    let here : c.belongs.result ≡ belongs (structure_at a.x.n (take a.x.n a.x.counts) (drop (i * ((a.x.e + 1) * a.x.n)) a.ws.now) (drop (i * (16 * a.x.n)) a.bs.now)) (take a.x.n a.cut.now) =
    rw (take_rest a.ws.now (i * ((a.x.e + 1) * a.x.n)), take_rest a.bs.now (i * (16 * a.x.n))) at c.belongs.ensures in
    c.loop-i.invariant ∙ stands.others_belong a.x.n a.x.e a.count (take a.x.n a.x.counts) a.ws.now a.x.events_are (take a.x.n a.cut.now) a.bs.now i c.loop-i-test.true here c.if-belongs.false

pub returns : goal.returns
returns c =
    let a = c.args in
    sym (c.loop-i.invariant ∙ stands.none-belongs a.x.n a.x.e a.count (take a.x.n a.x.counts) a.ws.now a.x.events_are (take a.x.n a.cut.now) a.bs.now c.loop-i.i c.loop-i-test.false)
