-- The step follows from what `admit` ensures, and the list from what `put_entry` does. Assumes nothing.
use native.Mathlib.Omega.{arith}
use Rattle.std.proofs.lemmas.Result.{err_from_is_err_and}
use Rattle.load.proofs.Loads.{tries_next, tries_faulty}
use Rattle.load.proofs.lines.load_frame.Goals as goal

pub returns-in_err-state : goal.returns-in_err-state
returns-in_err-state c = let r = err_from_is_err_and c.from_residual.result c.from_residual.ensures.1 in
    rw (r.1, r.2) (tries_faulty _ c.in_err-state.ensures)

pub returns : goal.returns
returns c = tries_next _ c.in_ok-state.ensures _ _ (omega (arith, c.requires.in_bounds, c.told-list)) c.put_entry.ensures
