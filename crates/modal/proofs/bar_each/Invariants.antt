-- The bars before i are written.
use Rattle.std.proofs.Common.{◌≡◌, ℕ, ◌+◌, ◌*◌, ◌<◌, drop}
use Rattle.tops.specs.Greatest.{GreatestAt}
use Rattle.steps.specs.Rows.{row_at}
use Rattle.modal.proofs.bar_each.Given as goal

abbrev pub invariant-loop-i : goal.invariant-loop-i
invariant-loop-i l =
    ((r : ℕ) → r < l.i → GreatestAt l.x l.ws (r * ((l.x.e + 1) * l.x.n)) (row_at l.x.n r l.bs)) × (drop (l.i * l.x.n) l.bs ≡ drop (l.i * l.x.n) l.initial.bs)
