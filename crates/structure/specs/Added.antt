-- What one station adds to a raised cut.
use Rattle.std.specs.Prelude.{◌≡◌, ℕ}
use Rattle.std.proofs.Math.Option.{Option, some}
use Rattle.model.specs.Cut.{Cut}
use Rattle.model.specs.Structure.{Structure, row, joined}

-- x, which has the least cut in it, was joined with the row of event `count` of station j, and y came out.
abbrev pub Added : Structure → ℕ → ℕ → Option Cut → Option Cut → Type 0
Added S j count x y = joined x (some S.least) ≡ x → y ≡ joined x (row S j count)
