-- What `load` comes to decides; the list is put at the front of the output. Assumes nothing.
use mathlib.Core.Path.{ap}
use mathlib.Core.Bool.{not}
use native.Mathlib.Omega.{arith}
use lib.ListN.{length-take}
use Rattle.std.proofs.lemmas.Result.{err_from_is_err_and}
use Rattle.model.specs.Limits.{limits}
use Rattle.load.specs.Loading.{Accepts}
use Rattle.op_read_write.proofs.Operations.{read_refused, read_no_room, read_done}
use Rattle.op_read_write.proofs.read.Goals as goal
use Rattle.op_read_write.proofs.read.Goals.{In_ok-state}

-- the log is accepted
accepts : (c : In_ok-state) → Accepts limits c.args.log.now c.in_ok-state.field-0.state c.in_ok-state.field-0.length c.load.new.list c.load.new.store
accepts c = rw c.limits.ensures at c.in_ok-state.ensures.loads

pub returns-in_err-state : goal.returns-in_err-state
returns-in_err-state c = let r = err_from_is_err_and c.from_residual.result c.from_residual.ensures.1 in
    let m = read_refused _ c.args.out.now (rw c.limits.ensures at c.in_err-state.ensures.loads) in
    rw (r.1, r.2) (record { result_value = m.0; out_after = m.1.0; rewritten = m.1.1 })

pub put_list-requires : goal.put_list-requires
put_list-requires c = let a = accepts (goal.at.put_list-requires c).In_ok-state in simp length-take (omega (arith, a.short))

pub returns-then-not-put_list : goal.returns-then-not-put_list
returns-then-not-put_list c =
    let p = c.put_list.ensures in
    let m = read_no_room (accepts (goal.at.returns-then-not-put_list c).In_ok-state) _ _ p.value _ p.out_after (ap not c.if-not-put_list.true) in
    rw c.into.ensures (record { result_value = m.0; out_after = m.1.0; rewritten = m.1.1 })

pub returns : goal.returns
returns c =
    let p = c.put_list.ensures in
    let m = read_done (accepts (goal.at.returns c).In_ok-state) _ _ p.value _ p.out_after (ap not c.if-not-put_list.false) c.load.array_long in
    record { result_value = m.0; out_after = m.1.0; rewritten = m.1.1 }
