-- The counts below i are joined.
use Rattle.std.proofs.Common.{◌≡◌, ℕ, ◌+◌, ◌<◌, max, length, get_or}
use Rattle.cells.proofs.join_eight.Given as goal

abbrev pub invariant-loop-i : goal.invariant-loop-i
invariant-loop-i l = record {
  eight : length l.t ≡ 8;
  joined : (k : ℕ) → k < l.i → get_or l.t k 0 ≡ max (get_or l.acc k 0) (get_or l.ws (l.at + k) 0);
}
