-- The entry at p has its form, so its frame can be lent; the step follows from what `admit` ensures. Assumes nothing.
use native.Mathlib.Omega.{arith}
use lib.ListN.{length-take, length-drop}
use Rattle.std.proofs.lemmas.Result.{err_from_is_err_and}
use Rattle.codec.proofs.Entries.{Entry, part}
use Rattle.entries.proofs.Writes.{here, entered_next, entered_ends}
use Rattle.entries.proofs.try_entry.Goals as goal
use Rattle.entries.proofs.try_entry.Goals.{After-from}

entry : (c : After-from) → Entry c.args.list.now c.args.p.length c.from.result
entry c = here c.requires.no_larger.1 c.requires.length_in_bounds.0 _ c.from.ensures

pub slice_bounds-admit-end : goal.slice_bounds-admit-end
slice_bounds-admit-end c = let e = entry (goal.at.slice_bounds-admit-end c).After-from in omega arith

pub admit-requires-clause-in_bounds : goal.admit-requires-clause-in_bounds
admit-requires-clause-in_bounds c = let e = entry (goal.at.admit-requires-clause-in_bounds c).After-from in
    (simp (length-take, length-drop) (omega arith), simp (length-take, length-drop) (omega arith))

pub returns-in_err-state : goal.returns-in_err-state
returns-in_err-state c = let p = c.requires in let r = err_from_is_err_and c.from_residual.result c.from_residual.ensures.1 in
    rw (r.1, r.2) (entered_ends p.no_larger.1 p.length_in_bounds.0 _ c.from.ensures (part c.args.list.now c.args.p.length c.from.result) _ c.in_err-state.ensures)

pub returns : goal.returns
returns c = let p = c.requires in (entered_next p.no_larger.1 p.length_in_bounds.0 _ c.from.ensures (part c.args.list.now c.args.p.length c.from.result) _ c.in_ok-state.ensures, omega arith)
