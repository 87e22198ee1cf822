-- The invariant is `Walking`: the first k of out are the bytes of the pairs passed, the sum is theirs, and each of their digits was looked at once.
use Rattle.std.proofs.Common.{◌+◌, ◌*◌}
use Rattle.walk.proofs.Walks.{Walking}
use Rattle.walk.proofs.walk_line.Given as goal

abbrev pub invariant-loop-k : goal.invariant-loop-k
invariant-loop-k l = Walking l.log l.at l.initial.out l.out l.k l.sum l.looks (l.at + 2 * l.k)
