-- i bars are passed, and those from bar i on are left.
use Rattle.std.proofs.Common.{◌≡◌, ◌+◌, ◌-◌, ◌*◌, length, drop}
use Rattle.structure.specs.Layout.{bars_at}
use Rattle.bars.proofs.count_bars.Given as goal

abbrev pub invariant-loop-i : goal.invariant-loop-i
invariant-loop-i l = length (bars_at l.n 16 (drop l.at l.bs)) ≡ l.i + length (bars_at l.n (16 - l.i) (drop (l.at + l.i * l.n) l.bs))
