use Prim.Native.Nat.{◌≤◌, ◌+◌, ◌*◌}
use native.Mathlib.Omega.{arith}
use lib.ListN.{length}
use Rattle.structure.proofs.Places.{next_fits}
use Rattle.modal.proofs.Laws as laws
use Rattle.modal.proofs.lower.Goals as goal

pub loop-i-init : goal.loop-i-init
loop-i-init c = laws.lower_none c.args.x c.args.starts.now c.args.ws.now c.args.bs.now

pub loop-i-preserved : goal.loop-i-preserved
loop-i-preserved c =
    let a = c.args in
    let p = c.requires.fits in
    let v = c.loop-i in
    let hw : v.i * ((a.x.e + 1) * a.x.n) ≤ length v.ws = omega (arith, next_fits v.i a.count ((a.x.e + 1) * a.x.n) c.loop-i-test.true, p.0, v.auto.ws) in
    let hb : v.i * (16 * a.x.n) ≤ length v.bs = omega (arith, next_fits v.i a.count (16 * a.x.n) c.loop-i-test.true, p.1, v.auto.bs) in
    laws.lower_put a.x v.i a.starts.now a.ws.now v.ws c.lower_one.new.ws a.bs.now v.bs c.lower_one.new.bs a.x.some_station hw hb v.invariant c.lower_one.ensures
