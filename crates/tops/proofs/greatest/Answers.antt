use native.Mathlib.Omega.{arith}
use Rattle.std.proofs.Common.{rules}
use lib.ListN.{take, drop}
use Rattle.tops.proofs.LastRows as last
use Rattle.tops.proofs.greatest.Goals as goal

pub loop-j-init : goal.loop-j-init
loop-j-init c = (search rules, λ bs _. last.greatest-start c.args.x c.args.ws.now c.requires bs c.join_at.new.acc c.join_at.ensures)

pub loop-j-preserved : goal.loop-j-preserved
loop-j-preserved c =
    let a = c.args in
    let l = c.loop-j in
    let next = c.join_at-in-loop-j in (
      search rules,
      λ bs asc. last.greatest_turn a.x a.ws.now c.requires bs asc l.j c.loop-j-test.true l.acc next.new.acc (take a.x.n (drop c.last_row.result a.ws.now)) (c.last_row.ensures.1 bs) next.ensures (l.invariant.1 bs asc),
    )

pub returns : goal.returns
returns c = λ bs asc. last.greatest_end c.args.x c.args.ws.now c.requires bs c.loop-j.j (omega arith) c.loop-j.acc c.loop-j.invariant.0 (c.loop-j.invariant.1 bs asc)
