-- Whether one of the bars contains the cut depends on those from slot i on.
use Rattle.std.proofs.Common.{◌≡◌, take}
use Rattle.model.specs.Cut.{inside_any}
use Rattle.structure.specs.Layout.{bars_at}
use Rattle.structure.proofs.Bars.{barred_from}
use Rattle.structure.proofs.barred.Given as goal

abbrev pub invariant-loop-i : goal.invariant-loop-i
invariant-loop-i l = inside_any (take l.n l.cut) (bars_at l.n 16 l.bars) ≡ barred_from l.n (take l.n l.cut) l.bars l.i
