-- What the code's answer for a round says in the rule's terms.
use Rattle.std.specs.Prelude.{◌≡◌, Bool, true, false, Option, Some, None}
use Rattle.std.proofs.Math.Option.{none, some}
use Rattle.model.specs.Cut.{Cut}
use Rattle.model.specs.Computation.{Computation}
use Rattle.model.specs.Structure.{Structure}
use Rattle.model.specs.Basis as rule
use Rattle.lattice.proofs.Bases.{In}
use Rattle.lattice.proofs.Shortcuts.{came, later}
use Rattle.slots.specs.Slots.{Coded}
use Rattle.round.specs.declared.Round.{Round}

-- What a round that came to y says of its start, if `go` is what follows a cut that is not settled.
unfoldable pub reading : (Cut → rule.Outcome) → Bool → Bool → Cut → rule.Outcome
reading go false settled y = came (some y) 1
reading go true true y = came (some y) 2
reading go true false y = later (go y)

-- A round says F, which takes what follows a cut; the cut that it came to is one of the right set.
pub record Came (K : Computation) (T : Structure) (F : (Cut → rule.Outcome) → rule.Outcome) (r : Round) : Type 0 where
  pub cut : Cut
  pub coded : Coded K cut r.cut
  pub member : In K T cut
  pub says : (go : Cut → rule.Outcome) → F go ≡ reading go r.changed r.settled cut

-- A round's answer says F: one that is lost, that the start came to none.
abbrev pub Answers : Computation → Structure → ((Cut → rule.Outcome) → rule.Outcome) → Option Round → Type 0
Answers K T F (Some r) = Came K T F r
Answers K T F None = (go : Cut → rule.Outcome) → F go ≡ came none 1
