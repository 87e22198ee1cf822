-- `lookups::lost_rounds` meets its contract: a start that comes to none has no first cut, or looks up an entry that is lost.
use Rattle.std.proofs.Common.{arith}
use Rattle.lookups.proofs.AtRow as laws
use Rattle.lookups.proofs.lost_rounds.Goals as goal

pub returns-then-t-i-clause-value : goal.returns-then-t-i-clause-value
returns-then-t-i-clause-value c = λ K S T j k h e. laws.none-rounds K S T c.args.s _ _ _ _ _ _ c.args.i j k h c.if-t-i.true

pub returns-clause-value : goal.returns-clause-value
returns-clause-value c = λ K S T j k h e.
    let p = c.place_of in
    omega (arith, c.from.ensures, laws.lost-rounds K S T c.args.s _ _ _ _ _ _ c.args.i j k h c.args.t.now.long.0 c.requires.0 c.requires.1 p.result p.ensures.0 c.if-t-i.false e)
