-- The entries up to x are the largest so far, those behind it as they were.
use Prim.Native.Nat.{ℕ, ◌≤◌, ◌<◌}
use mathlib.Core.Path.{◌≡◌}
use lib.ListN.{length, get_or}
use Rattle.arrivals.specs.Table.{highest}
use Rattle.arrivals.proofs.gather.Given as goal

abbrev pub invariant-loop-x : goal.invariant-loop-x
invariant-loop-x l = record {
  long : length l.table ≡ 256;
  below : (y : ℕ) → y ≤ l.x → get_or l.table y 0 ≡ highest l.initial.table y;
  above : (y : ℕ) → l.x < y → get_or l.table y 0 ≡ get_or l.initial.table y 0;
}
