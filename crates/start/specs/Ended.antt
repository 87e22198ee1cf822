-- What the code's answer for a start says in the rule's terms.
use Rattle.std.specs.Prelude.{◌≡◌}
use Rattle.model.specs.Computation.{Computation}
use Rattle.model.specs.Basis as rule
use Rattle.slots.specs.Reached.{Reached}
use Rattle.start.specs.declared.Start.{Start}

-- A start's answer says the rule's outcome.
pub record Ended (K : Computation) (o : rule.Outcome) (r : Start) : Type 0 where
  pub rounds : r.rounds ≡ o.rounds
  pub reached : Reached K r.cut o.reached
