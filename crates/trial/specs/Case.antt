-- Where a case stands.
use Rattle.std.specs.Prelude.{◌≡◌, ℕ, List, ◌++◌, length}
use Rattle.trial.specs.declared.Case.{Case}

-- A case in front of an input has its parts behind its first bytes, in order; the rest stands behind them.
pub record Within (input : List ℕ) (c : Case) (rest : List ℕ) : Type 0 where
  pub parts : (head : List ℕ) × (length head ≡ 10) × (input ≡ head ++ (c.cut.now ++ (c.data.now ++ rest)))
