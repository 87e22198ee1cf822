-- The rows before i are written.
use Rattle.std.proofs.Common.{◌≡◌, ℕ, ◌<◌}
use Rattle.steps.specs.Rows.{row_at, atom_row}
use Rattle.steps.proofs.atom_rows.Given as goal

abbrev pub invariant-loop-i : goal.invariant-loop-i
invariant-loop-i l = (r : ℕ) → r < l.i → row_at l.n r l.ws ≡ atom_row l.n l.s l.off l.table l.starts r
