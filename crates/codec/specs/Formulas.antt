-- The formulas that bytes spell, one after another.
use Rattle.std.specs.Prelude.{ℕ, suc, List, length}
use Rattle.std.proofs.Math.Option.{Option}
use Rattle.model.specs.Formula.{Formula, formulas_in}

abbrev pub formulas : List ℕ → Option (List Formula)
formulas q = formulas_in (suc (length q)) q
