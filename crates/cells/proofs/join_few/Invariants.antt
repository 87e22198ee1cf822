-- The counts below i are joined, the others as they were.
use Rattle.std.proofs.Common.{◌≡◌, ℕ, ◌+◌, ◌<◌, ◌≤◌, max, length, get_or}
use Rattle.cells.proofs.join_few.Given as goal

abbrev pub invariant-loop-i : goal.invariant-loop-i
invariant-loop-i l = record {
  joined : (k : ℕ) → k < l.i → get_or l.acc k 0 ≡ max (get_or l.initial.acc k 0) (get_or l.ws (l.at + k) 0);
  long : length l.acc ≡ 8;
  left : (k : ℕ) → l.i ≤ k → get_or l.acc k 0 ≡ get_or l.initial.acc k 0;
}
