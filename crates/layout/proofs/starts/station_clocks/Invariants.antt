-- The invariant: k clocks of the station stand at `at`, behind what stood before it. Assumes nothing.
use mathlib.Core.Path.{◌≡◌}
use mathlib.Core.List.{◌++◌}
use Prim.Native.Nat.{◌+◌, ◌*◌}
use lib.ListN.{length, take}
use Rattle.layout.specs.Rows.{clocks_in}
use Rattle.layout.proofs.starts.station_clocks.Given as goal

abbrev pub invariant-loop-k : goal.invariant-loop-k
invariant-loop-k l = record {
  long : length l.starts ≡ length l.initial.starts;
  clocks : take (l.at + l.k * l.n) l.starts ≡ take l.at l.initial.starts ++ clocks_in l.store l.n l.j l.k;
}
