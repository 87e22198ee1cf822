-- The invariant: the first slots of the stations below j stand. Assumes nothing.
use Rattle.std.proofs.Common.{◌≡◌, length}
use Rattle.model.specs.Limits.{store_size}
use Rattle.table.specs.Opening.{Open}
use Rattle.table.proofs.open_stations.Given as goal

abbrev pub invariant-loop-j : goal.invariant-loop-j
invariant-loop-j l = record {
  long : length l.store ≡ store_size;
  opened : Open l.panelled l.frame l.j l.store;
}
