-- The first slots of the stations, as a header gives their reports.
use Rattle.std.specs.Prelude.{◌≡◌, ℕ, ◌+◌, ◌*◌, ◌<◌, Bool, List, ◌++◌, take, drop, replicate}
use Rattle.model.specs.Limits.{limits, slot_size}
use Rattle.model.specs.Reading.{report_size}
use Rattle.table.specs.Table.{slot, report_bytes}

-- The first slot of station j: what it first reports, and no events counted.
abbrev pub opening : Bool → List ℕ → ℕ → List ℕ
opening p f j = report_bytes p (drop (j * report_size p + 2) f) ++ replicate limits.stations 0

-- The first slots of the stations below n stand in the store t.
pub record Open (p : Bool) (f : List ℕ) (n : ℕ) (t : List ℕ) : Type 0 where
  pub at : (j : ℕ) → j < n → take slot_size (drop (slot j 0) t) ≡ opening p f j
