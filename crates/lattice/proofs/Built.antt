-- What holds of each structure that a step makes, if it holds of the structures that are built.
use mathlib.Core.Path.{◌≡◌, refl}
use mathlib.Core.Bool.{Bool, true, false, cond}
use mathlib.Core.Option.{Option, none, some}
use mathlib.Core.List.{List, [], ◌∷◌}
use Rattle.model.specs.Cut.{Cut, empty, inside_any}
use Rattle.model.specs.Computation.{Computation, stations}
use Rattle.model.specs.Structure.{Structure, keep, build_on, build}
use Rattle.model.specs.Basis.{intersect, each, pairs}
use Rattle.lattice.proofs.Lists.{All, all_append}
use Rattle.lattice.proofs.Lists.All.{done, also}
use Rattle.lattice.proofs.Structures.{table}

-- Of what is built, with what the empty cut is raised to for its least cut.
pub build_all : (K : Computation) (f : Cut → Option Cut) (bars : List Cut) {G : Structure → Type 0}
    → ((l : Cut) → f (empty (stations K)) ≡ some l → G (table K f bars l)) → All G (build K f bars)
unfolding build build_on keep
build_all K f bars {G} h = go (f (empty (stations K))) refl
  where
    kept : (S : Structure) → G S → (b : Bool) → All G (cond b [] (S ∷ []))
    kept S g true = done
    kept S g false = also g done

    go : (o : Option Cut) → f (empty (stations K)) ≡ o → All G (build_on K f bars o)
    go none e = done
    go (some l) e = kept (table K f bars l) (h l e) (inside_any _ bars)

-- Of what is made of each structure.
pub each_all : (f : Structure → List Structure) {G H : Structure → Type 0} → ((S : Structure) → H S → All G (f S)) → {L : List Structure} → All H L → All G (each f L)
unfolding each
each_all f h done = done
each_all f h (also {x = S} p a) = all_append (h S p) (each_all f h a)

-- Of what is made of each pair.
pub pairs_all : (K : Computation) {G H J : Structure → Type 0} → ((S T : Structure) → H S → J T → All G (intersect K S T)) → {L R : List Structure} → All H L → All J R → All G (pairs K L R)
unfolding pairs
pairs_all K h {R = R} a b = each_all (λ S. each (intersect K S) R) (λ S p. each_all (intersect K S) (λ T q. h S T p q) b) a
