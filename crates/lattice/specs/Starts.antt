-- The outcome of a start by the cut that its first round comes to.
use Rattle.std.specs.Prelude.{◌+◌, cond}
use Rattle.std.proofs.Math.Option.{Option, none, some}
use Rattle.model.specs.Cut.{Cut}
use Rattle.model.specs.Computation.{Computation}
use Rattle.model.specs.Structure.{Structure, reaches}
use Rattle.model.specs.Basis.{Outcome, start}

-- A start from c whose first round comes to a cut from which a start comes to r: one round more, unless r is c itself.
unfoldable pub upon : Cut → Outcome → Outcome
upon c r = record { reached = r.reached; rounds = r.rounds + cond (reaches r.reached c) 0 1 }

-- A start from c whose first round comes to this.
unfoldable pub from_first : Computation → Structure → Structure → Cut → Option Cut → Outcome
from_first K S T c none = record { reached = none; rounds = 1 }
from_first K S T c (some q) = upon c (start K S T q)
