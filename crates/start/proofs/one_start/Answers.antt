-- `start::one_start` meets its contract.
use Rattle.std.proofs.Common.{arith, rules, sym, ◌∙◌}
use Rattle.std.proofs.Math.Seq.{take_all}
use Rattle.start.proofs.Turns as laws
use Rattle.start.proofs.one_start.Goals as goal

pub returns-in_default-clause-ended : goal.returns-in_default-clause-ended
returns-in_default-clause-ended c K S T j k b t q l i =
    let a = c.args in
    let x = c.cut_at-start in
    let h = laws.clock_read K a.first.now j k a.i x.result t l i (sym (take_all 8 x.result (omega arith)) ∙ x.ensures.0) in
    let p = rw c.in_default.is at (c.first_round.ensures K S T j k b l i h) in
    laws.ended_lost K _ _ (laws.first_lost K S T a.left.now a.right.now a.e q b j k l p)

pub returns-then-not-round-clause-ended : goal.returns-then-not-round-clause-ended
returns-then-not-round-clause-ended c K S T j k b t q l i =
    let a = c.args in
    let x = c.cut_at-start in
    let h = laws.clock_read K a.first.now j k a.i x.result t l i (sym (take_all 8 x.result (omega arith)) ∙ x.ensures.0) in
    let p = rw c.in-Some.is at (c.first_round.ensures K S T j k b l i h) in
    laws.ended_raised K _ p.cut _ _ (laws.first_ended K S T a.left.now a.right.now a.e q b j k l c.in-Some.round p (search rules)) p.coded

pub returns-then-round-clause-ended : goal.returns-then-round-clause-ended
returns-then-round-clause-ended c K S T j k b t q l i =
    let a = c.args in
    let x = c.cut_at-start in
    let h = laws.clock_read K a.first.now j k a.i x.result t l i (sym (take_all 8 x.result (omega arith)) ∙ x.ensures.0) in
    let p = rw c.in-Some.is at (c.first_round.ensures K S T j k b l i h) in
    laws.ended_raised K _ p.cut _ _ (laws.first_settled K S T a.left.now a.right.now a.e q b j k l c.in-Some.round p (search rules) c.if-round.true) p.coded

pub returns-clause-ended : goal.returns-clause-ended
returns-clause-ended c K S T j k b t q l i =
    let a = c.args in
    let x = c.cut_at-start in
    let h = laws.clock_read K a.first.now j k a.i x.result t l i (sym (take_all 8 x.result (omega arith)) ∙ x.ensures.0) in
    let p = rw c.in-Some.is at (c.first_round.ensures K S T j k b l i h) in
    rw (laws.first_goes K S T a.left.now a.right.now a.e q b j k l c.in-Some.round p (search rules) c.if-round.false) (c.more_rounds.ensures.ended K S T p.cut b p.coded p.member)
