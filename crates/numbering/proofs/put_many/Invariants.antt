-- `numbering::put_many` meets its contract: after k rows they stand in the table.
use Rattle.std.proofs.Common.{◌≡◌, length}
use Rattle.numbering.specs.Rows.{Copied}
use Rattle.numbering.proofs.put_many.Given as goal

abbrev pub invariant-loop-k : goal.invariant-loop-k
invariant-loop-k l = record {
  whole : length l.table ≡ 2048;
  copied : Copied l.code l.n l.ws l.at l.k l.table;
}
