-- `slots::put_start` meets its contract: the cells written are the start's cut, or say none.
use Rattle.std.proofs.Common.{arith, sym, ◌∙◌}
use Rattle.std.proofs.Math.ListN.{drop, set}
use Rattle.std.proofs.Math.Seq.{get_or-set_same}
use Rattle.structure.proofs.Rows.{is_none, first-at}
use Rattle.slots.proofs.put_start.Goals as goal

pub returns-in-Some-clause-ws_after : goal.returns-in-Some-clause-ws_after
returns-in-Some-clause-ws_after c K o m e f h =
    let v = rw c.in-Some.is at h in
    c.put_counts.ensures.ws_after K _ m e f v.2 ∙ sym v.1

pub returns-in-None-clause-ws_after : goal.returns-in-None-clause-ws_after
returns-in-None-clause-ws_after c K o m e f h =
    let a = c.args in
    let v = rw c.in-None.is at h in
    is_none a.n (drop a.at (set a.ws.now a.at 255)) c.requires.0 (first-at (set a.ws.now a.at 255) a.at ∙ get_or-set_same a.ws.now a.at 255 0 (omega arith)) ∙ sym v
