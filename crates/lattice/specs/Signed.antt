-- The two rules as one, with the sign as an argument; "and" with "or", and possibly with always, likewise.
use Rattle.std.specs.Prelude.{Bool, true, false}
use Rattle.model.specs.Formula.{Formula}
use Rattle.model.specs.Formula.Formula.{and, or, possibly, always}
use Rattle.model.specs.Rules.{Normal, as_true, as_false}
use Rattle.model.specs.Rules.Normal.{both, either, possible, impossible}

-- The normal form of a formula as true, or as false.
abbrev pub normal : Bool → Formula → Normal
normal true f = as_true f
normal false f = as_false f

-- 03 is true and 04 is false; 05 is true and 06 is false.
abbrev pub two : Bool → Formula → Formula → Formula
two true f g = and f g
two false f g = or f g

abbrev pub modal : Bool → Formula → Formula
modal true f = possibly f
modal false f = always f

abbrev pub joined_form : Bool → Normal → Normal → Normal
joined_form true p q = both p q
joined_form false p q = either p q

-- Possibly, or not possibly.
abbrev pub lifted_form : Bool → Normal → Normal
lifted_form true p = possible p
lifted_form false p = impossible p
