-- `pairs::pair_rows` meets its contract: c of the pairs of the first i left structures are kept.
use Prim.Native.Nat.{◌≤◌, ◌+◌, ◌*◌}
use Rattle.pair.specs.Post.{Put}
use Rattle.pairs.specs.Post.{AllPairs}
use Rattle.pairs.proofs.Putting.{all_x, all_y}
use Rattle.pairs.proofs.pair_rows.Given as goal

abbrev pub invariant-loop-i : goal.invariant-loop-i
invariant-loop-i l = record {
  few : l.kept ≤ l.i * l.r.count;
  small : l.rounds ≤ l.i * l.r.count * ((l.x.e + 1) * (l.x.e + 5));
  put : Put l.x.n l.x.e (l.many + l.r.count) l.kept (AllPairs l.x l.fn.l l.r l.first l.initial.ws l.initial.bs) l.initial.ws l.ws l.initial.bs l.bs (all_x l.x.n l.x.e l.initial.ws l.initial.bs l.many l.r.count l.i) (all_y l.x.n l.x.e l.initial.ws l.initial.bs l.many l.r.count l.i) l.rounds;
}
