-- The invariant: the values of the stations before j stand at the front. Assumes nothing.
use mathlib.Core.Path.{◌≡◌}
use Prim.Native.Nat.{◌+◌}
use lib.ListN.{length, take}
use Rattle.model.specs.Lists.{total}
use Rattle.layout.specs.Rows.{values_in}
use Rattle.layout.proofs.reports.lay_values.Given as goal

abbrev pub invariant-loop-j : goal.invariant-loop-j
invariant-loop-j l = record {
  long : length l.values ≡ length l.initial.values;
  values : take (total (take l.j (take l.n l.counts)) + l.j) l.values ≡ values_in l.b l.store l.counts l.j;
}
