-- The invariant: what the log comes to is what its rest comes to after what has been read. Assumes nothing.
use Prim.Native.Nat.{◌-◌}
use lib.ListN.{length, drop}
use Rattle.model.specs.Bytes.{lines_of, items}
use Rattle.model.specs.Reading.{read_log}
use Rattle.load.specs.Loading.{Sofar, Left, Within}
use Rattle.load.proofs.lines.load_lines.Given as goal

abbrev pub invariant-loop-p : goal.invariant-loop-p
invariant-loop-p l = record {
  within : Within l.m l.log l.p;
  left : Left l.p.length l.initial.list l.list;
  sofar : Sofar l.m (read_log l.m l.log) (items (lines_of (drop l.p.at l.log))) l.p l.list l.store;
}

abbrev pub decreases-loop-p : goal.decreases-loop-p
decreases-loop-p l = length l.log - l.p.at
