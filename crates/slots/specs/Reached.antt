-- What a start came to.
use Rattle.std.specs.Prelude.{◌≡◌, ℕ, List, Option, Some, None}
use Rattle.std.proofs.Math.Option as maybe
use Rattle.model.specs.Cut.{Cut}
use Rattle.model.specs.Computation.{Computation}
use Rattle.slots.specs.Slots.{Coded}

-- A start came to the cut of these cells, or to none.
abbrev pub Reached : Computation → Option (List ℕ) → maybe.Option Cut → Type 0
Reached K (Some cut) o = (x : Cut) × (o ≡ maybe.some x) × Coded K x cut
Reached K None o = o ≡ maybe.none
