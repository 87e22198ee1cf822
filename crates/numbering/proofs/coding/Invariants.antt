-- `numbering::coding` meets its contract: after i stations their cells stand, and the others are 0.
use Rattle.std.proofs.Common.{◌≡◌, ℕ, ◌+◌, ◌≤◌, ◌<◌, length, get_or}
use Rattle.numbering.proofs.coding.Given as goal

abbrev pub invariant-loop-i : goal.invariant-loop-i
invariant-loop-i l = record {
  eight : (length l.room ≡ 8) × (length l.before ≡ 8);
  room : (k : ℕ) → k < l.i → get_or l.room k 0 + get_or l.offs k 0 ≡ 255;
  before : (k : ℕ) → k < l.i → get_or l.before k 0 ≡ get_or l.offs k 0;
  rest : (k : ℕ) → l.i ≤ k → k < 8 → (get_or l.room k 0 ≡ 0) × (get_or l.before k 0 ≡ 0);
}
