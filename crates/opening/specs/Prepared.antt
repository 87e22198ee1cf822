-- A log that was loaded and laid out.
use Rattle.std.specs.Prelude.{List, ℕ}
use Rattle.model.specs.declared.Limits.{Limits}
use Rattle.load.specs.declared.Loaded.{Loaded}
use Rattle.load.specs.Loading.{Accepts}
use Rattle.structure.specs.declared.Run.{Run}
use Rattle.structure.specs.Laid.{Given}

-- A log was loaded under the limits m, the first bytes of list are its frame list, and the run is that of its computation.
pub record Prepared (m : Limits) (l : Loaded) (list : List ℕ) (run : Run) : Type 0 where
  pub log : List ℕ
  pub store : List ℕ
  pub accepts : Accepts m log l.state l.length list store
  pub laid : Given accepts.reading.computation run
