-- The invariant: the empty cut and the clocks of the stations before j stand at the front. Assumes nothing.
use mathlib.Core.Path.{◌≡◌}
use Prim.Native.Nat.{◌+◌, ◌*◌}
use lib.ListN.{length, take}
use Rattle.model.specs.Lists.{total}
use Rattle.layout.specs.Rows.{starts_in}
use Rattle.layout.proofs.starts.lay_starts.Given as goal

abbrev pub invariant-loop-j : goal.invariant-loop-j
invariant-loop-j l = record {
  long : length l.starts ≡ length l.initial.starts;
  clocks : take ((total (take l.j (take l.n l.counts)) + 1) * l.n) l.starts ≡ starts_in l.store l.n l.counts l.j;
}
