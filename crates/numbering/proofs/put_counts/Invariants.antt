-- `numbering::put_counts` meets its contract: after i cells each is a count.
use Rattle.std.proofs.Common.{◌≡◌, ℕ, ◌-◌, ◌<◌, length, get_or}
use Rattle.numbering.proofs.put_counts.Given as goal

abbrev pub invariant-loop-i : goal.invariant-loop-i
invariant-loop-i l = record {
  eight : length l.t ≡ 8;
  done : (k : ℕ) → k < l.i → get_or l.t k 0 ≡ get_or l.cut k 0 - get_or l.code.before k 0;
}
