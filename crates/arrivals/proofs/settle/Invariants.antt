-- The entries from x on are settled, those below it and behind the last count as they were.
use Prim.Native.Nat.{ℕ, ◌≤◌, ◌<◌}
use mathlib.Core.Path.{◌≡◌}
use lib.ListN.{length, get_or}
use Rattle.arrivals.specs.Table.{settled}
use Rattle.arrivals.proofs.settle.Given as goal

abbrev pub invariant-loop-x : goal.invariant-loop-x
invariant-loop-x l = record {
  long : length l.table ≡ 256;
  below : (y : ℕ) → y < l.x → get_or l.table y 0 ≡ get_or l.initial.table y 0;
  behind : (y : ℕ) → l.count < y → get_or l.table y 0 ≡ get_or l.initial.table y 0;
  from : (y : ℕ) → l.x ≤ y → y ≤ l.count → get_or l.table y 0 ≡ settled l.n l.i l.off l.starts l.table y (get_or l.initial.table y 0);
}
