-- The rows before i are written, and nothing past the last.
use Rattle.std.proofs.Common.{◌≡◌, ℕ, ◌+◌, ◌*◌, ◌<◌, take, drop}
use Rattle.steps.specs.Rows.{row_at, below_row}
use Rattle.modal.proofs.below_rows.Given as goal

abbrev pub invariant-loop-i : goal.invariant-loop-i
invariant-loop-i l =
    ((r : ℕ) → r < l.i → row_at l.x.n r l.ws ≡ below_row l.x.n (take l.x.n l.g) l.starts r) × (drop ((l.x.e + 1) * l.x.n) l.ws ≡ drop ((l.x.e + 1) * l.x.n) l.initial.ws)
