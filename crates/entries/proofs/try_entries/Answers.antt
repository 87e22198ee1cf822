-- At the end the stations decide. Assumes nothing.
use Rattle.entries.proofs.Writes.{partly_first, tried_empty, tried_all}
use Rattle.entries.proofs.try_entries.Goals as goal

pub loop-p-init : goal.loop-p-init
loop-p-init c = let p = c.requires in rw c.first-p.ensures (partly_first _ _ p.list_len_bound p.no_larger.1)

pub returns-then-p-eq0 : goal.returns-then-p-eq0
returns-then-p-eq0 c = tried_empty c.loop-p.invariant c.loop-p-test.false c.if-p-eq0.true

pub returns : goal.returns
returns c = tried_all c.loop-p.invariant c.loop-p-test.false c.if-p-eq0.false
