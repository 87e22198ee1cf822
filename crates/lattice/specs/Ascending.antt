-- Rows that ascend from event to event, and the last of a station.
use Rattle.std.specs.Prelude.{◌≡◌, ℕ, suc, ◌≤◌, ◌<◌, List, get_or}
use Rattle.std.proofs.Math.Option.{none, some}
use Rattle.model.specs.Cut.{Cut, ◌⊑◌}
use Rattle.model.specs.Structure.{Structure, row}

-- Where the row of an event is there, that of the event before is there too and contained in it; before a station's first event the least cut.
-- counts tells the events of each station.
pub record RowsAscend (counts : List ℕ) (S : Structure) : Type 0 where
  pub before : (j k : ℕ) (d : Cut) → k < get_or counts j 0 → row S j (suc k) ≡ some d → (c : Cut) × (row S j k ≡ some c) × (c ⊑ d)

-- d is the last row that is there of station j, which has m events; or else the least cut.
pub record LastRow (S : Structure) (j m : ℕ) (d : Cut) : Type 0 where
  pub event : ℕ
  pub within : event ≤ m
  pub there : row S j event ≡ some d
  pub ends : (k : ℕ) → event < k → row S j k ≡ none
