-- Silent first, then inside or outside.
use Rattle.std.proofs.Common.{rules}
use Rattle.model.specs.Atom.{test}
use Rattle.ranges.proofs.test.Goals as goal

pub returns-then-silent : goal.returns-then-silent
unfolding test
returns-then-silent c = search rules

pub returns-then-within : goal.returns-then-within
unfolding test
returns-then-within c = search rules

pub returns-else-within : goal.returns-else-within
unfolding test
returns-else-within c = search rules
