use Rattle.std.proofs.Common.{arith, rules}
use Rattle.std.proofs.lemmas.Grind.{common_steps}
use Rattle.numbering.proofs.coding.Goals as goal

pub loop-i-preserved : goal.loop-i-preserved
loop-i-preserved c = record {
  eight = search rules;
  room = λ k h. grind (arith, common_steps, c.loop-i.invariant.room k);
  before = λ k h. grind (arith, common_steps, c.loop-i.invariant.before k);
  rest = λ k h l. grind (arith, common_steps, c.loop-i.invariant.rest k);
}
