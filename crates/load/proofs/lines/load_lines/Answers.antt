-- Each line leads on, or its fault ends the whole; at the end the stations decide. Assumes nothing.
use native.Mathlib.Nat.{le_trans}
use Rattle.load.proofs.Loads.{loading_first, left_more, loads_empty, loads_all}
use Rattle.load.proofs.lines.load_lines.Goals as goal

pub loop-p-init : goal.loop-p-init
loop-p-init c = let f = loading_first _ c.args.list.now c.args.store.now _ c.first-p.ensures c.requires.log_len_bound in record { within = f.0; left = f.1; sofar = f.2 }

pub returns-in-Err-clause-loads : goal.returns-in-Err-clause-loads
returns-in-Err-clause-loads c = rw c.unread.ensures (c.in-Err.ensures.ends _ c.loop-p.invariant.sofar)

pub loop-p-preserved : goal.loop-p-preserved
loop-p-preserved c = let i = c.loop-p.invariant in let d = c.in-Ok.ensures in
    record { within = d.within; left = left_more i.left d.left d.longer; sofar = d.onward _ i.sofar }

pub returns-then-p-eq0-clause-loads : goal.returns-then-p-eq0-clause-loads
returns-then-p-eq0-clause-loads c = let i = c.loop-p.invariant in loads_empty c.args.log.now i.within c.loop-p-test.false i.sofar c.if-p-eq0.true

pub returns-clause-loads : goal.returns-clause-loads
returns-clause-loads c = let i = c.loop-p.invariant in let p = c.requires in
    loads_all _ i.within c.loop-p-test.false i.sofar (le_trans p.log_len_bound p.no_larger.bytes) c.if-p-eq0.false
