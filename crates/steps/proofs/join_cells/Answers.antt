use mathlib.Core.Path.{sym, ◌∙◌}
use native.Mathlib.Omega.{arith}
use lib.ListN.{take, drop}
use lib.Seq.{paste-zero}
use Rattle.model.specs.Cut.{join}
use Rattle.cells.proofs.Parts as parts
use Rattle.steps.proofs.Laws as laws
use Rattle.steps.proofs.join_cells.Goals as goal

pub loop-i-init : goal.loop-i-init
loop-i-init c =
    let a = c.args in
    paste-zero a.ws.now a.at (join (take a.len (drop a.a a.src.now)) (take a.len (drop a.b a.src.now)))

pub loop-i-preserved : goal.loop-i-preserved
loop-i-preserved c =
    let a = c.args in
    let v = c.loop-i in
    let s = a.src.now in
    rw v.invariant (parts.paste_more a.ws.now a.at (join (take a.len (drop a.a s)) (take a.len (drop a.b s))) v.i _ (omega arith) (omega (arith, laws.parts-length s a.a a.b a.len (omega arith) (omega arith))) (laws.parts_at s a.a a.b a.len v.i c.loop-i-test.true ∙ sym c.max.ensures))
