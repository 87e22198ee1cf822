use Prim.Native.Nat.{◌≤◌, ◌+◌, ◌*◌}
use mathlib.Core.Path.{ap, ◌∙◌}
use native.Mathlib.Omega.{arith}
use lib.ListN.{length, take, drop}
use Rattle.steps.specs.Rows.{below_row}
use Rattle.cells.proofs.Parts.{paste_behind}
use Rattle.structure.proofs.Places.{row_fits}
use Rattle.steps.proofs.Parts.{rows_more}
use Rattle.modal.proofs.Laws as laws
use Rattle.modal.proofs.below_rows.Goals as goal

pub loop-i-preserved : goal.loop-i-preserved
loop-i-preserved c =
    let a = c.args in
    let v = c.loop-i in
    let h : v.i ≤ a.x.e = omega (arith, c.loop-i-test.true) in
    let f = row_fits v.i a.x.e a.x.n h in
    let l = laws.below_length a.x.n (take a.x.n a.g.now) a.starts.now v.i a.x.e h c.requires.1 in
    let k : v.i * a.x.n + a.x.n ≤ length v.ws = omega (arith, c.requires.0, v.auto.ws, f) in
    (rows_more a.x.n (below_row a.x.n (take a.x.n a.g.now) a.starts.now) v.i v.ws c.below_row.new.ws k l c.below_row.ensures v.invariant.0, ap (drop ((a.x.e + 1) * a.x.n)) c.below_row.ensures ∙ paste_behind v.ws (v.i * a.x.n) (below_row a.x.n (take a.x.n a.g.now) a.starts.now v.i) a.x.n (omega arith) (omega arith) ((a.x.e + 1) * a.x.n) f ∙ v.invariant.1)
