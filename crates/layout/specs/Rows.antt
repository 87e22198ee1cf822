-- Clocks, values and panels of an event table, in the order in which the basis wants them.
use Rattle.std.specs.Prelude.{ℕ, zero, suc, ◌+◌, List, [], ◌∷◌, ◌++◌, get_or, take, drop}
use Rattle.model.specs.declared.Aspect.{Aspect}
use Rattle.model.specs.declared.Aspect.TheVariants.{Value, Panel}
use Rattle.model.specs.Limits.{stored_report}
use Rattle.model.specs.Frames.{word}
use Rattle.table.specs.Table.{slot}

-- The lists f 0 to f (m - 1), one after another.
unfoldable pub in_turn : (ℕ → List ℕ) → ℕ → List ℕ
in_turn f zero = []
in_turn f (suc m) = in_turn f m ++ f m

-- The clock of event k of station j, one of n.
unfoldable pub clock_in : List ℕ → ℕ → ℕ → ℕ → List ℕ
clock_in t n j k = take n (drop (slot j k + stored_report) t)

-- The clocks of the first m events of station j.
unfoldable pub clocks_in : List ℕ → ℕ → ℕ → ℕ → List ℕ
clocks_in t n j m = in_turn (λ k. clock_in t n j (suc k)) m

-- The empty cut, and the clocks of all events of the first j stations.
unfoldable pub starts_in : List ℕ → ℕ → List ℕ → ℕ → List ℕ
starts_in t n counts j = clock_in t n 0 0 ++ in_turn (λ i. clocks_in t n i (get_or counts i 0)) j

-- At which byte of a slot what is looked at stands.
abbrev pub byte_of : Aspect → ℕ
byte_of Value = 0
byte_of Panel = 2

-- The first m values of station j, which stand at byte b of their slots.
unfoldable pub values_of : ℕ → List ℕ → ℕ → ℕ → List ℕ
values_of b t j m = in_turn (λ k. word (drop (slot j k + b) t) ∷ []) m

-- All values of the first j stations: of each its first value and those after its events.
unfoldable pub values_in : ℕ → List ℕ → List ℕ → ℕ → List ℕ
values_in b t counts j = in_turn (λ i. values_of b t i (suc (get_or counts i 0))) j
