-- What the steps make of bases: each makes a basis of what its sign means.
use mathlib.Core.Path.{◌≡◌, refl}
use mathlib.Core.Logic.{◌↔◌, ◌⊎◌, inl, inr}
use mathlib.Core.Bool.{true, false}
use mathlib.Core.Option.{some}
use mathlib.Core.List.{List, [], ◌∷◌, ◌++◌, map}
use Rattle.model.specs.Lists.{Some}
use Rattle.model.specs.Lists.Some.{here, there}
use Rattle.model.specs.Cut.{Cut, ◌⊑◌, inside_any}
use Rattle.model.specs.Computation.{Computation, Consistent}
use Rattle.model.specs.Truth.{Possibly}
use Rattle.model.specs.Structure.{Structure, belongs, belongs_any, greatest}
use Rattle.model.specs.Basis.{each, pairs, lowered, barred, below, intersect}
use Rattle.lattice.proofs.Valid.{Valid}
use Rattle.lattice.proofs.Tests.{clash, false_iff}
use Rattle.lattice.proofs.Lists.{All, some_all, some-map, some_one, to_map, from_map, nothing}
use Rattle.lattice.proofs.Lists.All.{done, also}
use Rattle.lattice.proofs.Cuts.{trans⊑, inside_any-some, some-inside_any, inside_any-append}
use Rattle.lattice.proofs.Belonging.{belongs_iff, belongs_any-some, some-belongs_any}
use Rattle.lattice.proofs.Bases.{In, Good, IsBasis, basis_iff, build-basis, append-basis}
use Rattle.lattice.proofs.Sets.{all_regular, all_least, Below, below_regular, below-least}
use Rattle.lattice.proofs.Intersection.{intersect-basis}

-- A step on each structure.
pub each-basis : (K : Computation) (f : Structure → List Structure) (X : Structure → Cut → Type 0) → ((S : Structure) → Good K S → IsBasis K (f S) (X S))
    → {L : List Structure} → All (Good K) L → IsBasis K (each f L) (λ c. Some (λ S. X S c) L)
unfolding each belongs_any
each-basis K f X h done = record { all_good = done; exact = λ c p. (λ e. clash e refl, λ n. nothing n) }
each-basis K f X h (also {x = S} {l = L} g a) = basis_iff (λ c p. (to c, from c)) (append-basis (h S g) (each-basis K f X h a))
  where
    to : (c : Cut) → X S c ⊎ Some (λ T. X T c) L → Some (λ T. X T c) (S ∷ L)
    to c (inl u) = here u
    to c (inr v) = there v

    from : (c : Cut) → Some (λ T. X T c) (S ∷ L) → X S c ⊎ Some (λ T. X T c) L
    from c (here u) = inl u
    from c (there v) = inr v

module _ (K : Computation) (ok : Valid K) where
  -- A cut belongs to both of a pair if it is in both sets and in no bar of either.
  pair_iff : (S T : Structure) → Good K S → Good K T → (c : Cut) → Consistent K c
      → ((In K S c × In K T c) × (inside_any c (S.bars ++ T.bars) ≡ false)) ↔ ((belongs S c ≡ true) × (belongs T c ≡ true))
  pair_iff S T gs gt c p = (
    λ u. let b = (inside_any-append c S.bars T.bars).0 u.1 in ((belongs_iff S c).1 (u.0.0.1, b.0), (belongs_iff T c).1 (u.0.1.1, b.1)),
    λ u. let s = (belongs_iff S c).0 u.0 in let t = (belongs_iff T c).0 u.1 in
        (((p, s.0), (p, t.0)), (inside_any-append c S.bars T.bars).1 (s.1, t.1)),
  )

  -- And.
  pub pairs-basis : {L R : List Structure} {X Y : Cut → Type 0} → IsBasis K L X → IsBasis K R Y → IsBasis K (pairs K L R) (λ c. X c × Y c)
  unfolding pairs
  pairs-basis {L} {R} {X} {Y} a b = basis_iff (λ c p. (to c p, from c p))
      (each-basis K (λ S. each (intersect K S) R) (λ S c. Some (λ T. (belongs S c ≡ true) × (belongs T c ≡ true)) R)
      (λ S gs. each-basis K (intersect K S) (λ T c. (belongs S c ≡ true) × (belongs T c ≡ true))
      (λ T gt. basis_iff (pair_iff S T gs gt) (intersect-basis K S T gs gt ok)) b.all_good) a.all_good)
    where
      to : (c : Cut) → Consistent K c → Some (λ S. Some (λ T. (belongs S c ≡ true) × (belongs T c ≡ true)) R) L → X c × Y c
      to c p h = (
        (a.exact c p).0 (some-belongs_any L c (some-map (λ S u. some_one (λ T _ v. v.0) b.all_good u) h)),
        (b.exact c p).0 (some-belongs_any R c (some_one (λ S _ u. some-map (λ T v. v.1) u) a.all_good h)),
      )

      from : (c : Cut) → Consistent K c → X c × Y c → Some (λ S. Some (λ T. (belongs S c ≡ true) × (belongs T c ≡ true)) R) L
      from c p u = some-map (λ S s. some-map (λ T t. (s, t)) (belongs_any-some R c ((b.exact c p).1 u.1))) (belongs_any-some L c ((a.exact c p).1 u.0))

  -- A structure's greatest cut belongs to it.
  below_top : (c : Cut) {L : List Structure} → All (Good K) L → Some (λ S. c ⊑ greatest S) L → (d : Cut) × Consistent K d × (c ⊑ d) × Some (λ T. belongs T d ≡ true) L
  below_top c done x3 = elim x3 [ ]
  below_top c (also {x = S} g a) (here u) = (greatest S, g.top.0, u, here ((belongs_iff S (greatest S)).1 (g.top.1, g.free)))
  below_top c (also g a) (there v) = let r = below_top c a v in (r.0, r.1, r.2, there r.3)

  -- A cut lies below a cut of the set exactly if a structure's greatest cut contains it.
  pub reach : {L : List Structure} {X : Cut → Type 0} → IsBasis K L X → (c : Cut) → Some (λ S. c ⊑ greatest S) L ↔ Possibly K X c
  reach {L} {X} b c = (to, from)
    where
      to : Some (λ S. c ⊑ greatest S) L → Possibly K X c
      to h = let r = below_top c b.all_good h in (r.0, r.1, r.2, (b.exact r.0 r.1).0 (some-belongs_any L r.0 r.3))

      from : Possibly K X c → Some (λ S. c ⊑ greatest S) L
      from u = some_all (λ S g v. trans⊑ c u.0 (greatest S) u.2 (g.above u.0 (u.1, ((belongs_iff S u.0).0 v).0))) b.all_good (belongs_any-some L u.0 ((b.exact u.0 u.1).1 u.3))

  -- Possibly.
  pub lowered-basis : {L : List Structure} {X : Cut → Type 0} → IsBasis K L X → IsBasis K (lowered K L) (Possibly K X)
  unfolding lowered inside_any
  lowered-basis {L} {X} b = basis_iff (λ c p. (λ h. (reach b c).0 (some-map (λ S u. u.0.1) h), λ u. some-map (λ S v. ((p, v), refl)) ((reach b c).1 u)))
      (each-basis K _ (λ S c. Below K ok (greatest S) c × (inside_any c [] ≡ false)) (λ S g. build-basis K ok (below_regular K ok (greatest S)) (below (greatest S)) (below-least K ok (greatest S)) []) b.all_good)

  -- Not possibly.
  pub barred-basis : {L : List Structure} {X : Cut → Type 0} → IsBasis K L X → IsBasis K (barred K L) (λ c. Possibly K X c → ⊥)
  unfolding barred
  barred-basis {L} {X} b = basis_iff (λ c p. (
    λ u v. clash (some-inside_any c (map greatest L) (to_map greatest ((reach b c).1 v))) u.1,
    λ n. (p, (false_iff (inside_any c (map greatest L))).1 (λ q. n ((reach b c).0 (from_map greatest L (inside_any-some c (map greatest L) q))))),
  ))
      (build-basis K ok (all_regular K ok) some (all_least K ok) (map greatest L))
