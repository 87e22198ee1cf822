-- The entry in front has its form, and its line is put behind those before. Assumes nothing.
use native.Mathlib.Omega.{arith}
use lib.ListN.{length-take, length-drop}
use lib.Seq.{drop-drop}
use Rattle.cells.proofs.Parts.{drop-whole}
use Rattle.codec.proofs.Entries.{Entry}
use Rattle.entries.proofs.Writes.{lined_none, entry, room, lined_more, lined_all}
use Rattle.entries.proofs.put_lines.Goals as goal
use Rattle.entries.proofs.put_lines.Goals.{After-from}

pub loop-rest-init : goal.loop-rest-init
loop-rest-init c = lined_none _ _ c.requires.formed c.requires.list_in_bounds

here : (c : After-from) → Entry c.loop-rest.rest.now 0 c.from.result
here c = entry c.loop-rest.invariant c.in-len1-up.len_at_least _ c.from.ensures

pub split_at-requires : goal.split_at-requires
split_at-requires c = let e = here (goal.at.split_at-requires c).After-from in simp (length-take, length-drop) (omega arith)

pub put_line-end-requires : goal.put_line-end-requires
put_line-end-requires c = omega (arith, c.split_at.ensures.front_len, room c.loop-rest.invariant c.in-len1-up.len_at_least _ c.from.ensures)

pub loop-rest-preserved : goal.loop-rest-preserved
loop-rest-preserved c = let r = c.loop-rest.rest.now in
    let w = lined_more c.loop-rest.invariant c.in-len1-up.len_at_least _ c.from.ensures in
    rw (c.put_line-end.ensures.1, c.put_line-end.ensures.0, c.split_at.ensures.front, c.split_at.ensures.back, drop-whole 1 r, drop-drop c.from.result 1 r) w

pub returns-clause-value : goal.returns-clause-value
returns-clause-value c = (lined_all c.loop-rest.invariant (omega arith)).0

pub returns-clause-out_after : goal.returns-clause-out_after
returns-clause-out_after c = (lined_all c.loop-rest.invariant (omega arith)).1
