-- A sign whose operands are not all there.
use mathlib.Core.Path.{◌≡◌, refl, sym}
use mathlib.Core.List.{List, [], ◌∷◌}
use mathlib.Core.Option.{Option, none, some}
use Rattle.model.specs.Formula.{Formula, ahead, one, two}
use Rattle.codec.proofs.Cases.{none-some}
use Rattle.atoms.specs.Measured.{first}

pub one-first : (c : Formula → Formula) (o : Option (List Formula)) → first o ≡ none → first (one c o) ≡ none
unfolding first one
one-first c none h = refl
one-first c (some []) h = refl
one-first c (some (f ∷ l)) h = none-some (sym h)

pub two-first : (c : Formula → Formula → Formula) (o : Option (List Formula)) → first o ≡ none → first (two c o) ≡ none
unfolding first two
two-first c none h = refl
two-first c (some []) h = refl
two-first c (some (f ∷ l)) h = none-some (sym h)

pub two-second :
    (c : Formula → Formula → Formula) (f : Formula) (o : Option (List Formula)) → first o ≡ none → first (two c (ahead f o)) ≡ none
unfolding first two ahead
two-second c f none h = refl
two-second c f (some []) h = refl
two-second c f (some (g ∷ l)) h = none-some (sym h)
