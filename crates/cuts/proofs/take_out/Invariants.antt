-- `cuts::take_out` meets its contract: of the cuts below the i-th those that stay stand at the front, and those from it on are as they were.
use mathlib.Core.Path.{◌≡◌}
use Prim.Native.Nat.{◌≤◌, ◌*◌}
use lib.ListN.{length, drop}
use lib.ListN.{take}
use Rattle.model.specs.Answer.{not_inside}
use Rattle.structure.specs.Layout.{cuts_at}
use Rattle.cuts.proofs.take_out.Given as goal

abbrev pub invariant-loop-i : goal.invariant-loop-i
invariant-loop-i l = record {
  left_low : l.left ≤ l.i;
  long : length l.cuts ≡ length l.initial.cuts;
  behind : drop (l.i * l.n) l.cuts ≡ drop (l.i * l.n) l.initial.cuts;
  stay : cuts_at l.n l.left l.cuts ≡ not_inside (take l.n l.cut) (cuts_at l.n l.i l.initial.cuts);
}
