-- `picking::pick` meets its contract: after k events each of them has its entry.
use Rattle.std.proofs.Common.{◌≡◌, ℕ, ◌≤◌, length, Option}
use Rattle.model.specs.Computation.{Computation, count}
use Rattle.model.specs.Structure.{Structure, row}
use Rattle.lattice.specs.OfStation.{count_in}
use Rattle.slots.specs.Slots.{number}
use Rattle.picking.specs.Formed.{Formed, Numbers}
use Rattle.picking.proofs.Picking.{Picked}
use Rattle.picking.proofs.pick.Given as goal

abbrev pub invariant-loop-k : goal.invariant-loop-k
invariant-loop-k g l = record {
  size : length l.picks ≡ 256;
  picked : (K : Computation) (A : Structure) → Formed K l.fn.q.x
      → ((k : ℕ) (o : Option ℕ) → k ≤ count K l.fn.q.s → goal.F-post g l.found (number K l.fn.q.s k) o → Numbers K l.fn.q.s (count_in l.fn.q.s (row A l.fn.q.s k)) o)
      → Picked K l.fn.q.s A l.picks l.k;
}
