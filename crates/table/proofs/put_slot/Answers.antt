-- The report is put, and the clock behind it. Assumes nothing.
use borrow.Author.Rules.{rules}
use Rattle.table.proofs.Slots.{length-report, slot-put}
use Rattle.table.proofs.put_slot.Goals as goal

pub returns : goal.returns
returns c = let a = c.args in slot-put a.store.now _ _ _ _ _ a.at (search rules) (length-report a.panelled _) c.report-r.ensures c.put.ensures c.put-2.ensures
