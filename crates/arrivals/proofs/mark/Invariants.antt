-- From the last message down: the messages from q on are marked.
use Prim.Native.Nat.{ℕ, ◌<◌}
use mathlib.Core.Path.{◌≡◌}
use mathlib.Core.List.{List}
use lib.ListN.{length, get_or, drop}
use Rattle.model.specs.Computation.{Message}
use Rattle.structure.specs.Laid.{AllFiled}
use Rattle.arrivals.specs.Table.{latest}
use Rattle.arrivals.proofs.mark.Given as goal

abbrev pub invariant-loop-q : goal.invariant-loop-q
invariant-loop-q l = record {
  long : length l.table ≡ 256;
  marks : (ms : List Message) → AllFiled ms l.facts → (x : ℕ) → x < 256 → get_or l.table x 0 ≡ latest l.pair x (drop l.q ms);
}
