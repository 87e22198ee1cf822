use Rattle.std.proofs.Common.{arith, rules, ◌∙◌}
use Rattle.start.proofs.Turns as turns
use Rattle.start.proofs.more_rounds.Goals as goal

pub loop-rounds-init : goal.loop-rounds-init
loop-rounds-init c K S T x b h v = (x, h, v, turns.begins S T c.args.e x)

pub returns-in_default-clause-ended : goal.returns-in_default-clause-ended
returns-in_default-clause-ended c K S T x b h v =
    let l = c.loop-rounds in
    let i = l.invariant K S T x b h v in
    let p = rw c.in_default.is at (c.next_round.ensures K S T i.0 b i.1 i.2) in
    turns.ended_lost K _ _ (i.3 ∙ turns.turn_lost K S T c.args.e l.rounds (omega arith) i.0 p)

pub returns-then-not-round-clause-ended : goal.returns-then-not-round-clause-ended
returns-then-not-round-clause-ended c K S T x b h v =
    let l = c.loop-rounds in
    let i = l.invariant K S T x b h v in
    let p = rw c.in-Some.is at (c.next_round.ensures K S T i.0 b i.1 i.2) in
    turns.ended_raised K _ p.cut _ _ (i.3 ∙ turns.turn_ended K S T c.args.e l.rounds (omega arith) i.0 c.in-Some.round p (search rules)) p.coded

pub returns-then-round-clause-ended : goal.returns-then-round-clause-ended
returns-then-round-clause-ended c K S T x b h v =
    let l = c.loop-rounds in
    let i = l.invariant K S T x b h v in
    let p = rw c.in-Some.is at (c.next_round.ensures K S T i.0 b i.1 i.2) in
    turns.ended_raised K _ p.cut _ _ (i.3 ∙ turns.turn_settled K S T c.args.e l.rounds (omega arith) i.0 c.in-Some.round p (search rules) c.if-round.true) p.coded

pub loop-rounds-preserved : goal.loop-rounds-preserved
loop-rounds-preserved c K S T x b h v =
    let l = c.loop-rounds in
    let i = l.invariant K S T x b h v in
    let p = rw c.in-Some.is at (c.next_round.ensures K S T i.0 b i.1 i.2) in
    (p.cut, p.coded, p.member, i.3 ∙ turns.turn_goes K S T c.args.e l.rounds (omega arith) i.0 c.in-Some.round p (search rules) c.if-round.false)

pub returns-clause-ended : goal.returns-clause-ended
returns-clause-ended c K S T x b h v =
    let l = c.loop-rounds in
    let i = l.invariant K S T x b h v in
    turns.ended_lost K _ _ (i.3 ∙ turns.turn_out S T c.args.e l.rounds i.0 (omega arith))
