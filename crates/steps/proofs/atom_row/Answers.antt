-- The two cases of what the table names.
use Prim.Native.Nat.{◌+◌, ◌*◌, ◌≤◌}
use lib.ListN.{length}
use Rattle.steps.proofs.Laws as laws
use Rattle.steps.proofs.atom_row.Goals as goal

pub returns-then-k-eq-NONE : goal.returns-then-k-eq-NONE
returns-then-k-eq-NONE c =
    let a = c.args in
    laws.row-none a.n a.w a.i c.requires.1 a.ws.now _ c.requires.2 a.off a.starts.now a.k c.if-k-eq-NONE.true c.fill.ensures

pub returns-else-k-eq-NONE : goal.returns-else-k-eq-NONE
returns-else-k-eq-NONE c =
    let a = c.args in
    let r = c.event_row in
    let room : r.result * a.n + a.w ≤ length a.starts.now = rw r.ensures (c.requires.4 c.if-k-eq-NONE.false) in
    laws.row-joined a.n a.w a.i c.requires.1 a.ws.now _ c.requires.2 a.off a.starts.now a.k c.if-k-eq-NONE.false r.result r.ensures c.requires.3 room c.join_cells.ensures
