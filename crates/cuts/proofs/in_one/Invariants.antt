-- `cuts::in_one` meets its contract: the cuts before the i-th do not contain the cut.
use mathlib.Core.Path.{◌≡◌}
use Prim.Native.Nat.{◌-◌, ◌*◌}
use lib.ListN.{take, drop}
use Rattle.model.specs.Cut.{inside_any}
use Rattle.structure.specs.Layout.{cuts_at}
use Rattle.cuts.proofs.in_one.Given as goal

abbrev pub invariant-loop-i : goal.invariant-loop-i
invariant-loop-i l = inside_any (take l.n l.cut) (cuts_at l.n l.count l.cuts) ≡ inside_any (take l.n l.cut) (cuts_at l.n (l.count - l.i) (drop (l.i * l.n) l.cuts))
