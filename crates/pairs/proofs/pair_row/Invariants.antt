-- `pairs::pair_row` meets its contract: c of the first j pairs are kept.
use Prim.Native.Nat.{◌≤◌, ◌+◌, ◌*◌}
use Rattle.pair.specs.Post.{Put}
use Rattle.pairs.specs.Post.{RowPair}
use Rattle.pairs.proofs.Putting.{row_x, row_y}
use Rattle.pairs.proofs.pair_row.Given as goal

abbrev pub invariant-loop-j : goal.invariant-loop-j
invariant-loop-j l = record {
  few : l.kept ≤ l.j;
  small : l.rounds ≤ l.j * ((l.e + 1) * (l.e + 5));
  put : Put l.n l.e l.o l.kept (RowPair l.x l.fn.q l.first l.initial.ws l.initial.bs) l.initial.ws l.ws l.initial.bs l.bs (row_x l.n l.e l.initial.ws l.initial.bs l.i l.l l.j) (row_y l.n l.e l.initial.ws l.initial.bs l.i l.l l.j) l.rounds;
}
