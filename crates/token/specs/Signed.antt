-- Tokens and steps, with the sign as an argument.
use Rattle.std.specs.Prelude.{ℕ, Bool, true, false, List, ◌++◌}
use Rattle.model.specs.Computation.{Computation}
use Rattle.model.specs.Structure.{Structure}
use Rattle.model.specs.Basis.{pairs, lowered, barred}
use Rattle.model.specs.Rounds.{rounds_of_pairs}

-- 03 or 04; 05 or 06.
abbrev pub two_token : Bool → ℕ
two_token true = 3
two_token false = 4

abbrev pub modal_token : Bool → ℕ
modal_token true = 5
modal_token false = 6

-- Two bases: their pairs, or one after the other.
abbrev pub joined_basis : Bool → Computation → List Structure → List Structure → List Structure
joined_basis true K L R = pairs K L R
joined_basis false K L R = L ++ R

abbrev pub rounds_of_joined : Bool → Computation → List Structure → List Structure → ℕ
rounds_of_joined true K L R = rounds_of_pairs K L R
rounds_of_joined false K L R = 0

-- Possibly, or not possibly.
abbrev pub lifted_basis : Bool → Computation → List Structure → List Structure
lifted_basis true K L = lowered K L
lifted_basis false K L = barred K L
