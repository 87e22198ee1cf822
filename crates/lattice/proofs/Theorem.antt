-- The basis theorem, in two parts. The basis of a normal form has exactly the cuts that satisfy it; and the normal forms of a
-- formula are satisfied where it is true, as true, and where it is false, as false, if each atom can be worked out under its sign.
-- Neither part looks at a sign that is not used.
use mathlib.Core.Path.{◌≡◌, sym, subst}
use mathlib.Core.Logic.Iff
use mathlib.Core.Logic.{◌↔◌, ◌⊎◌, ⊎_map}
use mathlib.Core.Bool.{Bool, true, false}
use mathlib.Core.List.{List}
use Rattle.model.specs.Cut.{Cut}
use Rattle.model.specs.Computation.{Computation, Consistent, full}
use Rattle.model.specs.Atom.{Atom, askable}
use Rattle.model.specs.Formula.{Formula}
use Rattle.model.specs.Formula.Formula.{atom, not, and, or, possibly, always}
use Rattle.model.specs.Truth.{True, False, Possibly}
use Rattle.model.specs.Rules.{Normal, as_true, as_false, workable}
use Rattle.model.specs.Rules.Normal.{literal, both, either, possible, impossible}
use Rattle.model.specs.Structure.{Structure}
use Rattle.model.specs.Basis.{basis}
use Rattle.model.specs.Answer.{true_at}
use Rattle.lattice.specs.Ascending.{RowsAscend}
use Rattle.lattice.proofs.Valid.{Valid}
use Rattle.lattice.proofs.Tests.{clash, and-true, false_iff}
use Rattle.lattice.proofs.Lists.{All, all_map}
use Rattle.lattice.proofs.Bases.{Good, IsBasis, basis_iff, append-basis}
use Rattle.lattice.proofs.Ascending.{good_ascend}
use Rattle.lattice.proofs.Steps.{pairs-basis, lowered-basis, barred-basis}
use Rattle.lattice.proofs.Atoms.{is_as, literal-basis}

-- SATISFIED

-- The cut c satisfies a normal form; no cut does one whose atom cannot be worked out under its sign.
abbrev pub Sat : Computation → Normal → Cut → Type 0
Sat K (literal b a) c = (askable b a ≡ true) × (is_as K b a c ≡ true)
Sat K (both p q) c = Sat K p c × Sat K q c
Sat K (either p q) c = Sat K p c ⊎ Sat K q c
Sat K (possible p) c = Possibly K (Sat K p) c
Sat K (impossible p) c = Possibly K (Sat K p) c → ⊥

-- EQUIVALENCES UNDER THE SIGNS

pub either_iff : {A B P Q : Type 0} → A ↔ P → B ↔ Q → (A ⊎ B) ↔ (P ⊎ Q)
either_iff i k = (⊎_map i.0 k.0, ⊎_map i.1 k.1)

pub possibly_iff : (K : Computation) (P Q : Cut → Type 0) → ((d : Cut) → P d ↔ Q d) → (c : Cut) → Possibly K P c ↔ Possibly K Q c
possibly_iff K P Q h c = (λ u. (u.0, u.1, u.2, (h u.0).0 u.3), λ u. (u.0, u.1, u.2, (h u.0).1 u.3))

module _ (K : Computation) (ok : Valid K) where
  -- THE BASIS OF A NORMAL FORM

  pub basis_sat : (p : Normal) → IsBasis K (basis K p) (Sat K p)
  unfolding basis
  basis_sat (literal b a) = literal-basis K ok b a
  basis_sat (both p q) = pairs-basis K ok (basis_sat p) (basis_sat q)
  basis_sat (either p q) = append-basis (basis_sat p) (basis_sat q)
  basis_sat (possible p) = lowered-basis K ok (basis_sat p)
  basis_sat (impossible p) = barred-basis K ok (basis_sat p)

  -- Each structure of a basis is good, and its rows ascend.
  pub basis-good : (p : Normal) (L : List Structure) → L ≡ basis K p → All (Good K) L
  basis-good p L e = subst (All (Good K)) (sym e) (basis_sat p).all_good

  pub basis_ascend : (p : Normal) (L : List Structure) → L ≡ basis K p → All (RowsAscend (full K)) L
  basis_ascend p L e = all_map (good_ascend K ok) (basis-good p L e)

  -- THE NORMAL FORMS OF A FORMULA

  sides : (p q : Normal) → workable (both p q) ≡ true → (workable p ≡ true) × (workable q ≡ true)
  unfolding workable
  sides p q w = (and-true (workable p) (workable q)).0 w

  literal_iff : (b : Bool) (a : Atom) (c : Cut) → askable b a ≡ true → Sat K (literal b a) c ↔ (is_as K b a c ≡ true)
  literal_iff b a c w = (λ u. u.1, λ u. (w, u))

  -- They mean truth, and falsity. Only normal forms that stand in the one at hand are looked at.
  mutual
    unfolding as_true as_false workable

    pub sat_true : (f : Formula) → workable (as_true f) ≡ true → (c : Cut) → Sat K (as_true f) c ↔ True K f c
    sat_true (atom a) w c = literal_iff true a c w
    sat_true (not f) w c = sat_false f w c
    sat_true (and f g) w c = let s = sides (as_true f) (as_true g) w in Iff.and (sat_true f s.0 c) (sat_true g s.1 c)
    sat_true (or f g) w c = let s = sides (as_true f) (as_true g) w in either_iff (sat_true f s.0 c) (sat_true g s.1 c)
    sat_true (possibly f) w c = possibly_iff K (Sat K (as_true f)) (True K f) (λ d. sat_true f w d) c
    sat_true (always f) w c = Iff.not (possibly_iff K (Sat K (as_false f)) (False K f) (λ d. sat_false f w d) c)

    pub sat_false : (f : Formula) → workable (as_false f) ≡ true → (c : Cut) → Sat K (as_false f) c ↔ False K f c
    sat_false (atom a) w c = literal_iff false a c w
    sat_false (not f) w c = sat_true f w c
    sat_false (and f g) w c = let s = sides (as_false f) (as_false g) w in either_iff (sat_false f s.0 c) (sat_false g s.1 c)
    sat_false (or f g) w c = let s = sides (as_false f) (as_false g) w in Iff.and (sat_false f s.0 c) (sat_false g s.1 c)
    sat_false (possibly f) w c = Iff.not (possibly_iff K (Sat K (as_true f)) (True K f) (λ d. sat_true f w d) c)
    sat_false (always f) w c = possibly_iff K (Sat K (as_false f)) (False K f) (λ d. sat_false f w d) c

  -- The basis of a formula is a basis of the cuts at which it is true.
  pub basis-true : (f : Formula) → workable (as_true f) ≡ true → IsBasis K (basis K (as_true f)) (True K f)
  basis-true f w = basis_iff (λ c p. sat_true f w c) (basis_sat (as_true f))

  -- The basis of its negation is one of the cuts at which it is false.
  pub basis-false : (f : Formula) → workable (as_false f) ≡ true → IsBasis K (basis K (as_false f)) (False K f)
  basis-false f w = basis_iff (λ c p. sat_false f w c) (basis_sat (as_false f))

  -- The test says whether the formula is true at a consistent cut.
  pub tested : (f : Formula) → workable (as_true f) ≡ true → (c : Cut) → Consistent K c → (true_at K f c ≡ true) ↔ True K f c
  unfolding true_at
  tested f w c p = (basis-true f w).exact c p

  -- And when it says no, that it is not.
  pub untested : (f : Formula) → workable (as_true f) ≡ true → (c : Cut) → Consistent K c → (true_at K f c ≡ false) ↔ (True K f c → ⊥)
  untested f w c p = (
    λ h t. clash ((tested f w c p).1 t) h,
    λ n. (false_iff (true_at K f c)).1 (λ h. n ((tested f w c p).0 h)),
  )
