-- The rows behind event k are none.
use Rattle.std.proofs.Common.{◌≡◌, ℕ, ◌+◌, ◌*◌, ◌≤◌, ◌<◌, get_or}
use Rattle.tops.proofs.last_row.Given as goal

abbrev pub invariant-loop-k : goal.invariant-loop-k
invariant-loop-k l = (i : ℕ) → l.k < i → i ≤ l.initial.k → get_or l.ws ((l.before + i) * l.n) 0 ≡ 255
