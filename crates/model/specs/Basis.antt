-- The basis of a formula: the structures to which the cuts belong at which it is true.
use Rattle.std.specs.Prelude.{ℕ, zero, suc, Bool, true, false, cond, List, [], ◌∷◌, ◌++◌, map}
use Rattle.std.proofs.Math.Option.{Option, none, some}
use Rattle.model.specs.Cut.{Cut, inside}
use Rattle.model.specs.Computation.{Computation, event_count}
use Rattle.model.specs.Atom.{raise_atom}
use Rattle.model.specs.Structure.{Structure, raise, greatest, build}
use Rattle.model.specs.Rules.{Normal}
use Rattle.model.specs.Rules.Normal.{literal, both, either, possible, impossible}

-- AND: intersection by rounds

-- What came out of one start: a cut or none, and the rounds begun.
pub record Outcome : Type 0 where
  pub reached : Option Cut
  pub rounds : ℕ

-- The right half of a round: raised in the right set.
unfoldable pub then_right : Structure → Option Cut → Option Cut
then_right T none = none
then_right T (some d) = raise T d

-- A round: raised in the left set, then in the right set.
unfoldable pub round : Structure → Structure → Cut → Option Cut
round S T c = then_right T (raise S c)

-- After a round that raised c to d: the end if nothing changed, else on from d.
unfoldable pub onward : (Cut → Outcome) → Cut → Bool → Outcome
onward go d true = record { reached = some d; rounds = 1 }
onward go d false = record { reached = (go d).reached; rounds = suc (go d).rounds }

-- After a round: the end if it came to none. A round lowers no count, so it changed nothing if its outcome is contained in c.
unfoldable pub after : (Cut → Outcome) → Cut → Option Cut → Outcome
after go c none = record { reached = none; rounds = 1 }
after go c (some d) = onward go d (inside d c)

-- At most m rounds from c on.
unfoldable pub run : Structure → Structure → ℕ → Cut → Outcome
run S T zero c = record { reached = none; rounds = 0 }
run S T (suc m) c = after (run S T m) c (round S T c)

-- One start: all rounds from c on. (There are never more than events + 1: proved.)
unfoldable pub start : Computation → Structure → Structure → Cut → Outcome
start K S T c = run S T (suc (event_count K)) c

-- The sets intersected, the bars of both.
unfoldable pub intersect : Computation → Structure → Structure → List Structure
intersect K S T = build K (λ c. (start K S T c).reached) (S.bars ++ T.bars)

-- STEPS

-- What f makes of each structure, in order.
unfoldable pub each : (Structure → List Structure) → List Structure → List Structure
each f [] = []
each f (S ∷ L) = f S ++ each f L

-- and: every pair, left outer.
unfoldable pub pairs : Computation → List Structure → List Structure → List Structure
pairs K L R = each (λ S. each (intersect K S) R) L

-- c itself if it is contained in g.
unfoldable pub below : Cut → Cut → Option Cut
below g c = cond (inside c g) (some c) none

-- possibly: for each structure, all cuts contained in its greatest, no bars.
unfoldable pub lowered : Computation → List Structure → List Structure
lowered K L = each (λ S. build K (below (greatest S)) []) L

-- not possibly: one structure, all cuts, a bar at each structure's greatest cut.
unfoldable pub barred : Computation → List Structure → List Structure
barred K L = build K some (map greatest L)

-- The basis.
unfoldable pub basis : Computation → Normal → List Structure
basis K (literal b a) = build K (raise_atom K b a) []
basis K (both p q) = pairs K (basis K p) (basis K q)
basis K (either p q) = basis K p ++ basis K q
basis K (possible p) = lowered K (basis K p)
basis K (impossible p) = barred K (basis K p)
