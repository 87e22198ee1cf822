-- `cuts::place` meets its contract: the cut does not stand before those below the i-th.
use mathlib.Core.Path.{◌≡◌}
use Prim.Native.Nat.{◌-◌, ◌*◌}
use mathlib.Core.List.{◌++◌}
use lib.ListN.{take, drop}
use Rattle.model.specs.Answer.{insert}
use Rattle.structure.specs.Layout.{cuts_at}
use Rattle.cuts.proofs.place.Given as goal

abbrev pub invariant-loop-i : goal.invariant-loop-i
invariant-loop-i l = insert (take l.n l.cut) (cuts_at l.n l.count l.cuts) ≡ cuts_at l.n l.i l.cuts ++ insert (take l.n l.cut) (cuts_at l.n (l.count - l.i) (drop (l.i * l.n) l.cuts))
