-- A basis of a set of cuts, and what is built of one.
use mathlib.Core.Path.{◌≡◌, refl, subst}
use mathlib.Core.Logic.{◌↔◌, ◌⊎◌, inl, inr}
use Prim.Native.Nat.{ℕ, ◌≤◌}
use mathlib.Core.Bool.{Bool, true, false, cond}
use mathlib.Core.Option.{Option, none, some}
use mathlib.Core.List.{List, [], ◌∷◌, ◌++◌}
use Rattle.model.specs.Lists.{Some}
use Rattle.model.specs.Lists.Some.{here, there}
use Rattle.model.specs.Cut.{Cut, ◌⊑◌, inside_any, join, meet, empty}
use Rattle.model.specs.Computation.{Computation, Consistent, stations, count, clock}
use Rattle.model.specs.Structure.{Structure, row, raise, in_set, belongs, belongs_any, greatest, keep, build, build_on}
use Rattle.lattice.proofs.Valid.{Valid}
use Rattle.lattice.proofs.Tests.{clash}
use Rattle.lattice.proofs.Lists.{All, all_append, some-split, some_left, some_right, nothing}
use Rattle.lattice.proofs.Lists.All.{done, also}
use Rattle.lattice.proofs.Cuts.{empty_⊑, meet_left, meet_right, meet-greatest, inside_any_down}
use Rattle.lattice.proofs.Consistency.{same_cut, empty-consistent, meet-consistent}
use Rattle.lattice.proofs.Belonging.{belongs_iff, belongs_any-some, some-belongs_any}
use Rattle.lattice.proofs.Structures.{Least, least_iff, Regular, Represents, raise-least, in_set_iff, row_in, greatest_in, greatest-above, table, table_represents}

-- c is a consistent cut of the set.
abbrev pub In : Computation → Structure → Cut → Type 0
In K S c = Consistent K c × (in_set S c ≡ true)

-- What every structure of a basis is.
pub record Good (K : Computation) (S : Structure) : Type 0 where
  -- raise finds the least cut of the set that contains c
  pub up : (c : Cut) → Consistent K c → Least (In K S) (λ e. c ⊑ e) (raise S c)
  -- closed under join (and under meet: below)
  pub join_in : (c d : Cut) → In K S c → In K S d → In K S (join c d)
  -- the greatest cut is in the set, and contains all others
  pub top : In K S (greatest S)
  pub above : (e : Cut) → In K S e → e ⊑ greatest S
  -- the least cut and every row that is there are in the set
  pub rows_in : (j k : ℕ) (d : Cut) → row S j k ≡ some d → In K S d
  -- a row is the least cut of the set that holds its event, at 0 the least cut
  pub rows-least : (j k : ℕ) → k ≤ count K j → Least (In K S) (λ e. clock K j k ⊑ e) (row S j k)
  -- no bar contains the greatest cut
  pub free : inside_any (greatest S) S.bars ≡ false

-- A structure that represents a regular set and is not dropped is good.
pub good : (K : Computation) → Valid K → {P : Cut → Type 0} → Regular K P → (S : Structure) → Represents K S P → inside_any (greatest S) S.bars ≡ false → Good K S
good K ok {P} reg S rep free = record {
  up = λ c p. least_iff (λ e. (from e, to e)) (λ e _. (λ u. u, λ u. u)) (raise S c) (raise-least K ok reg S rep c p);
  join_in = λ c d u v. from (join c d) (reg.join_in c d (to c u) (to d v));
  top = from (greatest S) (greatest_in K ok reg S rep);
  above = λ e u. greatest-above K ok reg S rep e (to e u);
  rows_in = λ j k d e. from d (row_in K ok reg S rep j k d e);
  rows-least = λ j k h. least_iff (λ e. (from e, to e)) (λ e _. (λ u. u, λ u. u)) (row S j k) (rep.rows-least j k h);
  free = free;
}
  where
    to : (c : Cut) → In K S c → P c
    to c u = (in_set_iff K ok reg S rep c u.0).0 u.1

    from : (c : Cut) → P c → In K S c
    from c u = (reg.consistent c u, (in_set_iff K ok reg S rep c (reg.consistent c u)).1 u)

-- The set of a good structure is closed under meet too.
pub meet_in : (K : Computation) → Valid K → (S : Structure) → Good K S → (c d : Cut) → In K S c → In K S d → In K S (meet c d)
meet_in K ok S g c d u v = go (raise S (meet c d)) (g.up (meet c d) p)
  where
    p : Consistent K (meet c d)
    p = meet-consistent K ok c d u.0 v.0

    go : (o : Option Cut) → Least (In K S) (λ e. meet c d ⊑ e) o → In K S (meet c d)
    go none h = absurd (h c u (meet_left c d))
    go (some x) h = subst (In K S) (same_cut K x (meet c d) h.0.0 p (meet-greatest c d x (h.2 c u (meet_left c d)) (h.2 d v (meet_right c d))) h.1) h.0

-- L is a basis of the set X of cuts.
pub record IsBasis (K : Computation) (L : List Structure) (X : Cut → Type 0) : Type 0 where
  pub all_good : All (Good K) L
  pub exact : (c : Cut) → Consistent K c → (belongs_any L c ≡ true) ↔ X c

-- It is one of every set with the same consistent cuts.
pub basis_iff : {K : Computation} {L : List Structure} {X Y : Cut → Type 0} → ((c : Cut) → Consistent K c → X c ↔ Y c) → IsBasis K L X → IsBasis K L Y
basis_iff h b = record { all_good = b.all_good; exact = λ c p. (λ u. (h c p).0 ((b.exact c p).0 u), λ u. (b.exact c p).1 ((h c p).1 u)) }

-- A structure kept or dropped.
keep-basis : (K : Computation) → Valid K → {P : Cut → Type 0} → Regular K P → (S : Structure) → Represents K S P
    → IsBasis K (keep S) (λ c. P c × (inside_any c S.bars ≡ false))
unfolding keep belongs_any
keep-basis K ok {P} reg S rep = go (inside_any (greatest S) S.bars) refl
  where
    only : (c : Cut) → Consistent K c → Some (λ T. belongs T c ≡ true) (S ∷ []) → P c × (inside_any c S.bars ≡ false)
    only c p (here u) = ((in_set_iff K ok reg S rep c p).0 ((belongs_iff S c).0 u).0, ((belongs_iff S c).0 u).1)
    only c p (there v) = nothing v

    go : (b : Bool) → inside_any (greatest S) S.bars ≡ b → IsBasis K (cond b [] (S ∷ [])) (λ c. P c × (inside_any c S.bars ≡ false))
    go true e = record { all_good = done; exact = λ c p. (λ h. clash h refl, λ u. clash (inside_any_down c (greatest S) (greatest-above K ok reg S rep c u.0) S.bars e) u.1) }
    go false e = record {
      all_good = also (good K ok reg S rep e) done;
      exact = λ c p. (
        λ h. only c p (belongs_any-some (S ∷ []) c h),
        λ u. some-belongs_any (S ∷ []) c (here ((belongs_iff S c).1 ((in_set_iff K ok reg S rep c p).1 u.0, u.1))),
      );
    }

-- What build makes of a function that finds the least cut of P that contains a cut.
pub build-basis : (K : Computation) → Valid K → {P : Cut → Type 0} → Regular K P → (f : Cut → Option Cut)
    → ((c : Cut) → Consistent K c → Least P (λ e. c ⊑ e) (f c)) → (bars : List Cut)
    → IsBasis K (build K f bars) (λ c. P c × (inside_any c bars ≡ false))
unfolding build build_on belongs_any
build-basis K ok {P} reg f fl bars = go (f (empty (stations K))) refl
  where
    go : (o : Option Cut) → f (empty (stations K)) ≡ o → IsBasis K (build_on K f bars o) (λ c. P c × (inside_any c bars ≡ false))
    go none e = record { all_good = done; exact = λ c p. (λ h. clash h refl, λ u. absurd ((rw e at (fl (empty (stations K)) (empty-consistent K ok))) c u.0 (empty_⊑ (stations K) c))) }
    go (some l) e = keep-basis K ok reg (table K f bars l) (table_represents K ok P f fl bars l e)

-- Or.
pub append-basis : {K : Computation} {L R : List Structure} {X Y : Cut → Type 0} → IsBasis K L X → IsBasis K R Y → IsBasis K (L ++ R) (λ c. X c ⊎ Y c)
append-basis {K} {L} {R} {X} {Y} a b = record { all_good = all_append a.all_good b.all_good; exact = λ c p. (to c p, from c p) }
  where
    to : (c : Cut) → Consistent K c → belongs_any (L ++ R) c ≡ true → (X c ⊎ Y c)
    to c p h = elim (some-split L R (belongs_any-some (L ++ R) c h)) [ inl u ↦ inl ((a.exact c p).0 (some-belongs_any L c u)) | inr v ↦ inr ((b.exact c p).0 (some-belongs_any R c v)) ]

    from : (c : Cut) → Consistent K c → (X c ⊎ Y c) → belongs_any (L ++ R) c ≡ true
    from c p (inl u) = some-belongs_any (L ++ R) c (some_left R (belongs_any-some L c ((a.exact c p).1 u)))
    from c p (inr v) = some-belongs_any (L ++ R) c (some_right L (belongs_any-some R c ((b.exact c p).1 v)))
