-- `put_lines` meets its contract. The loop's invariant: the lines to the first `i` questions stand one behind the other up to `end`. Assumes nothing.
use Rattle.model.specs.Limits.{line_size}
use Prim.Native.Nat.{◌*◌, ◌≤◌}
use Rattle.opened.proofs.Lines.{Printing}
use Rattle.opened.proofs.put_lines.Given as goal

abbrev pub invariant-loop-i : goal.invariant-loop-i
invariant-loop-i l =
    (l.end ≤ line_size * l.i) × Printing l.loaded l.list l.run l.initial.out l.out l.end l.i
