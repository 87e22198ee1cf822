-- Sets that raise a cut by an event of one station.
use Rattle.std.specs.Prelude.{◌≡◌, ℕ, ◌≤◌}
use Rattle.std.proofs.Math.Option.{Option, none, some}
use Rattle.model.specs.Cut.{Cut, ◌!◌}
use Rattle.model.specs.Computation.{Computation, Consistent, count}
use Rattle.model.specs.Atom.{up_to}
use Rattle.model.specs.Structure.{Structure, row, raise}

-- A consistent cut is raised to its join with the clock of the event of station s that f finds for it, from the last one in the cut on.
pub record OfStation (K : Computation) (s : ℕ) (f : Cut → Option ℕ) (A : Structure) : Type 0 where
  pub raises : (c : Cut) → Consistent K c → raise A c ≡ up_to K s c (f c)
  pub onward : (c : Cut) (k : ℕ) → Consistent K c → f c ≡ some k → (c ! s ≤ k) × (k ≤ count K s)

-- The count of station s in a cut that is there.
unfoldable pub count_in : ℕ → Option Cut → Option ℕ
count_in s none = none
count_in s (some d) = some (d ! s)

-- The event that stands in the set's own row for the cut's count of s.
abbrev pub own_row : Structure → ℕ → Cut → Option ℕ
own_row A s c = count_in s (row A s (c ! s))

-- A set of station s whose events stand in its own rows.
abbrev pub OfOwnRows : Computation → ℕ → Structure → Type 0
OfOwnRows K s A = OfStation K s (own_row A s) A
