-- The invariant: k values of the station stand at `at`, behind what stood before it. Assumes nothing.
use mathlib.Core.Path.{◌≡◌}
use mathlib.Core.List.{◌++◌}
use Prim.Native.Nat.{◌+◌}
use lib.ListN.{length, take}
use Rattle.layout.specs.Rows.{values_of}
use Rattle.layout.proofs.reports.station_values.Given as goal

abbrev pub invariant-loop-k : goal.invariant-loop-k
invariant-loop-k l = record {
  long : length l.values ≡ length l.initial.values;
  values : take (l.at + l.k) l.values ≡ take l.at l.initial.values ++ values_of l.b l.store l.j l.k;
}
