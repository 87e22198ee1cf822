-- A question of a log: what is known when it is worked out.
use Rattle.std.specs.Prelude.{◌≡◌, ℕ, true, List}
use Rattle.model.specs.Formula.{Formula, prefix, sound}
use Rattle.model.specs.Rules.{as_true, workable}
use Rattle.model.specs.Size.{fits}
use Rattle.model.specs.Computation.{Computation}
use Rattle.structure.specs.declared.Run.{Run}
use Rattle.structure.specs.Laid.{Given}

-- The bytes q spell the question f of the computation K, whose run is laid out.
pub record Question (K : Computation) (f : Formula) (run : Run) (q : List ℕ) : Type 0 where
  pub laid : Given K run
  pub spells : q ≡ prefix f
  pub named : sound run.x.n f ≡ true
  pub fitting : fits f ≡ true
  pub works : workable (as_true f) ≡ true
