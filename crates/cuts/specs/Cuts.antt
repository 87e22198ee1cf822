-- One more cut in order among cuts.

use Rattle.std.specs.Prelude.{cond, List}
use Rattle.model.specs.Cut.{Cut, inside_any}
use Rattle.model.specs.Answer.{not_inside, insert}

-- One more cut among cuts in order none of which contains another: nothing new if one of them contains it, else in its place without
-- those that it contains.
abbrev pub added : Cut → List Cut → List Cut
added c l = cond (inside_any c l) l (insert c (not_inside c l))
