-- The two rules: a formula as true and as false, worked out until no sign is left but those of a basis.
use Rattle.std.specs.Prelude.{Bool, true, false, ◌&&◌}
use Rattle.model.specs.Atom.{Atom, askable}
use Rattle.model.specs.Formula.{Formula}
use Rattle.model.specs.Formula.Formula.{atom, not, and, or, possibly, always}

-- A formula in negation normal form.
pub data Normal : Type 0 where
  -- an atom, as true or as false
  literal : Bool → Atom → Normal
  -- and; or
  both either : Normal → Normal → Normal
  -- possibly; not possibly
  possible impossible : Normal → Normal

unfoldable mutual
  -- "not" passes to the other rule, possibly works on its operand as true, always on its operand as false.
  pub as_true : Formula → Normal
  as_true (atom a) = literal true a
  as_true (not f) = as_false f
  as_true (and f g) = both (as_true f) (as_true g)
  as_true (or f g) = either (as_true f) (as_true g)
  as_true (possibly f) = possible (as_true f)
  as_true (always f) = impossible (as_false f)

  -- "and" under negation is joined as "or" and the reverse.
  pub as_false : Formula → Normal
  as_false (atom a) = literal false a
  as_false (not f) = as_true f
  as_false (and f g) = either (as_false f) (as_false g)
  as_false (or f g) = both (as_false f) (as_false g)
  as_false (possibly f) = impossible (as_true f)
  as_false (always f) = possible (as_false f)

-- Can each atom be worked out under the sign in which the rules come to it?
unfoldable pub workable : Normal → Bool
workable (literal b a) = askable b a
workable (both p q) = workable p && workable q
workable (either p q) = workable p && workable q
workable (possible p) = workable p
workable (impossible p) = workable p
