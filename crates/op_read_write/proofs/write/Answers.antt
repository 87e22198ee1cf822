-- Each refusal is one test of the definition, in its order; the lines of an accepted list fit. Assumes nothing.
use mathlib.Core.Path.{sym, ◌∙◌}
use native.Mathlib.Omega.{arith}
use Rattle.std.proofs.Common.{List, ℕ, Fits, w8, get_or}
use Rattle.std.proofs.lemmas.Result.{err_from_is_err_and}
use Rattle.codec.proofs.Bytes.{Bytes}
use Rattle.model.specs.Limits.{limits}
use Rattle.model.specs.Reply.{refuses}
use Rattle.codec.proofs.Suited.{suitable}
use Rattle.codec.specs.Entries.{Formed}
use Rattle.entries.specs.Entries.{Allowed}
use Rattle.entries.proofs.Writes.{list-long, list_unformed, allowed_frames}
use Rattle.op_read_write.proofs.Operations.{WriteMet, write-refused, write_no_room, write_done}
use Rattle.op_read_write.proofs.write.Goals as goal
use Rattle.op_read_write.proofs.write.Goals.{then-list-gt-LIST-via-then-list-gt-LIST, then-list-gt-LIST-via-else-list-gt-LIST+then-not-lengths_ok, In_ok-try_entries}

-- its entries are bytes
bytes : (l : List ℕ) → ((i : ℕ) → Fits w8 (get_or l i 0)) → Bytes l
bytes l f i = omega (arith, f i)

-- the list has the form of one
form : (c : In_ok-try_entries) → Formed c.args.list.now
form c = sym c.lengths_ok.ensures ∙ c.if-not-lengths_ok.false

-- it is accepted
allowed : (c : In_ok-try_entries) → Allowed limits c.args.list.now
allowed c = rw c.limits.ensures at c.in_ok-try_entries.ensures

pub returns-then-list-gt-LIST : goal.returns-then-list-gt-LIST
returns-then-list-gt-LIST c = let b = bytes _ c.type_inv.list in
    let m : WriteMet c.args.list.now c.args.out.now (refuses 14 0) c.args.out.now = elim c.then-list-gt-LIST.branch [
      | then-list-gt-LIST-via-then-list-gt-LIST w ↦ write-refused _ c.args.out.now b (list-long _ _ w.if-list-gt-LIST.true)
      | then-list-gt-LIST-via-else-list-gt-LIST+then-not-lengths_ok w ↦ write-refused _ c.args.out.now b (list_unformed _ _ w.if-list-gt-LIST.false (sym w.lengths_ok.ensures ∙ w.if-not-lengths_ok.true))
    ] in
    rw c.into.ensures (record { result_value = m.0; out_after = m.1.0; reread = m.1.1 })

pub returns-in_err-try_entries : goal.returns-in_err-try_entries
returns-in_err-try_entries c = let r = err_from_is_err_and c.from_residual.result c.from_residual.ensures.1 in
    let m = write-refused _ c.args.out.now (bytes _ c.type_inv.list) (rw c.limits.ensures at c.in_err-try_entries.ensures) in
    rw (r.1, r.2) (record { result_value = m.0; out_after = m.1.0; reread = m.1.1 })

pub returns-then-out-lt-BYTES : goal.returns-then-out-lt-BYTES
returns-then-out-lt-BYTES c = let m = write_no_room (allowed (goal.at.returns-then-out-lt-BYTES c).In_ok-try_entries) _ (bytes _ c.type_inv.list) c.if-out-lt-BYTES.true in
    rw c.into-then-out-lt-BYTES.ensures (record { result_value = m.0; out_after = m.1.0; reread = m.1.1 })

pub put_lines-requires-clause-list_in_bounds : goal.put_lines-requires-clause-list_in_bounds
put_lines-requires-clause-list_in_bounds c = let f = allowed_frames suitable c.if-list-gt-LIST.false (form (goal.at.put_lines-requires-clause-list_in_bounds c).In_ok-try_entries) (allowed (goal.at.put_lines-requires-clause-list_in_bounds c).In_ok-try_entries) in
    omega (arith, f.1, c.if-out-lt-BYTES.false)

pub returns : goal.returns
returns c = let h = (goal.at.returns c).In_ok-try_entries in
    let f = allowed_frames suitable c.if-list-gt-LIST.false (form h) (allowed h) in
    let m = write_done (allowed h) _ (bytes _ c.type_inv.list) f.0 c.if-out-lt-BYTES.false _ _ c.put_lines.ensures.value c.put_lines.ensures.out_after in
    record { result_value = m.0; out_after = m.1.0; reread = m.1.1 }
