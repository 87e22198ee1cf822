-- The shape of the structures of a basis: a row for each event, and consistent cuts throughout.
use mathlib.Core.Path.{◌≡◌, refl}
use mathlib.Core.Option.{some}
use mathlib.Core.List.{List, [], ◌∷◌, ◌++◌, map}
use lib.ListN.{length, length-map}
use Rattle.model.specs.Computation.{Computation, Consistent, full}
use Rattle.model.specs.Rules.{Normal}
use Rattle.model.specs.Rules.Normal.{literal, both, either, possible, impossible}
use Rattle.model.specs.Structure.{Structure, greatest, build}
use Rattle.model.specs.Atom.{raise_atom}
use Rattle.model.specs.Basis.{intersect, below, lowered, barred, basis}
use Rattle.lattice.proofs.Valid.{Valid}
use Rattle.lattice.proofs.Lists.{All, all_append, all_map, all_to_map}
use Rattle.lattice.proofs.Lists.All.{done}
use Rattle.lattice.proofs.Built.{build_all, each_all, pairs_all}
use Rattle.lattice.proofs.Theorem.{basis_sat}

-- A row for each event, station by station; every bar is a consistent cut.
pub record Shaped (K : Computation) (S : Structure) : Type 0 where
  pub rows_are : map length S.rows ≡ full K
  pub bars_are : All (Consistent K) S.bars

pub same_lengths : {A B : Type 0} (f : A → B) (ls : List (List A)) → map length (map (map f) ls) ≡ map length ls
same_lengths f [] = refl
same_lengths f (l ∷ ls) = rw (length-map l f, same_lengths f ls)

module _ (K : Computation) (ok : Valid K) where
  -- Of this shape are all structures of a basis.
  pub basis-shaped : (p : Normal) → All (Shaped K) (basis K p)
  unfolding basis lowered barred intersect
  basis-shaped (literal b a) = build_all K (raise_atom K b a) [] (λ l _. record { rows_are = same_lengths _ K.events; bars_are = done })
  basis-shaped (both p q) = pairs_all K (λ S T a b. build_all K _ (S.bars ++ T.bars) (λ l _. record { rows_are = same_lengths _ K.events; bars_are = all_append a.bars_are b.bars_are })) (basis-shaped p) (basis-shaped q)
  basis-shaped (either p q) = all_append (basis-shaped p) (basis-shaped q)
  basis-shaped (possible p) = each_all (λ S. build K (below (greatest S)) []) (λ S a. build_all K (below (greatest S)) [] (λ l _. record { rows_are = same_lengths _ K.events; bars_are = done })) (basis-shaped p)
  basis-shaped (impossible p) = build_all K some (map greatest (basis K p)) (λ l _. record { rows_are = same_lengths _ K.events; bars_are = all_to_map greatest (all_map (λ S g. g.top.0) (basis_sat K ok p).all_good) })
