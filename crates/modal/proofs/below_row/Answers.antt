-- The two cases of the test.
use Prim.Native.Nat.{◌*◌}
use mathlib.Core.Path.{ap, sym, ◌∙◌}
use mathlib.Core.List.{List}
use Prim.Native.Nat.{ℕ}
use lib.ListN.{take, drop}
use lib.Seq.{paste}
use Rattle.cells.proofs.Parts.{paste_take}
use Rattle.modal.proofs.Laws as laws
use Rattle.modal.proofs.below_row.Goals as goal

pub returns-then-contained : goal.returns-then-contained
returns-then-contained c =
    let a = c.args in
    c.copy.ensures ∙ paste_take a.ws.now (a.i * a.x.n) (drop (a.i * a.x.n) a.starts.now) a.x.n
    ∙ ap (λ (r : List ℕ). paste a.ws.now (a.i * a.x.n) r a.x.n) (laws.below_in a.x.n (take a.x.n a.g.now) a.starts.now a.i (sym c.contained.ensures ∙ c.if-contained.true))

pub returns-else-contained : goal.returns-else-contained
returns-else-contained c =
    let a = c.args in
    c.fill.ensures
    ∙ ap (λ (r : List ℕ). paste a.ws.now (a.i * a.x.n) r a.x.n) (laws.below_out a.x.n (take a.x.n a.g.now) a.starts.now a.i (sym c.contained.ensures ∙ c.if-contained.false))
