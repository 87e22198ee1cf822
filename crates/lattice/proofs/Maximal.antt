-- The maximal true cuts are those that are listed.
use mathlib.Core.Path.{◌≡◌, refl, sym, subst}
use mathlib.Core.Logic.{◌↔◌}
use mathlib.Core.Bool.{true}
use mathlib.Core.List.{List, [], ◌∷◌, map}
use Rattle.model.specs.Lists.{Some, Member}
use Rattle.model.specs.Lists.Some.{here, there}
use Rattle.model.specs.Formula.{Formula}
use Rattle.model.specs.Cut.{Cut, ◌⊑◌}
use Rattle.model.specs.Computation.{Computation, Consistent}
use Rattle.model.specs.Truth.{True}
use Rattle.model.specs.Rules.{as_true, workable}
use Rattle.model.specs.Structure.{Structure, greatest, belongs}
use Rattle.model.specs.Basis.{basis}
use Rattle.model.specs.Answer.{tops, sort}
use Rattle.model.specs.Promise.{Maximal, Ascending}
use Rattle.lattice.proofs.Valid.{Valid}
use Rattle.lattice.proofs.Lists.{All, some_all, to_map, from_map, nothing, find, found}
use Rattle.lattice.proofs.Lists.All.{done, also}
use Rattle.lattice.proofs.Cuts.{trans⊑}
use Rattle.lattice.proofs.Consistency.{same_cut}
use Rattle.lattice.proofs.Belonging.{belongs_iff, belongs_any-some, some-belongs_any}
use Rattle.lattice.proofs.Bases.{Good}
use Rattle.lattice.proofs.Theorem.{basis_sat, basis-true}
use Rattle.lattice.proofs.Tops.{apart_same, tops_ok}
use Rattle.lattice.proofs.Order.{sort_from, sort_to, sort_ascending}

-- The greatest cuts of the structures of a formula's basis.
abbrev pub greatests : Computation → Formula → List Cut
greatests K f = map greatest (basis K (as_true f))

-- The cuts that an answer lists.
abbrev pub maximal : Computation → Formula → List Cut
maximal K f = sort (tops (greatests K f))

-- They are listed in ascending order, so each once.
pub listed_ascending : (K : Computation) (f : Formula) → Ascending (maximal K f)
listed_ascending K f = sort_ascending (tops (greatests K f)) (tops_ok (greatests K f)).apart

module _ (K : Computation) (ok : Valid K) (f : Formula) where
  greatest-true : {M : List Structure} → All (Good K) M → (c : Cut) → Some (λ S. c ≡ greatest S) M → Consistent K c × Some (λ S. belongs S c ≡ true) M
  greatest-true done c x3 = elim x3 [ ]
  greatest-true (also {x = S} {l = M'} g a) c (here e) = subst (λ z. Consistent K z × Some (λ T. belongs T z ≡ true) (S ∷ M')) (sym e) (g.top.0, here ((belongs_iff S (greatest S)).1 (g.top.1, g.free)))
  greatest-true (also g a) c (there h) = let r = greatest-true a c h in (r.0, there r.1)

  -- What is listed is consistent, and belongs to the basis.
  pub listed-belongs : (c : Cut) → Member c (maximal K f) → Consistent K c × Some (λ S. belongs S c ≡ true) (basis K (as_true f))
  listed-belongs c m = greatest-true (basis_sat K ok (as_true f)).all_good c (from_map greatest (basis K (as_true f)) ((tops_ok (greatests K f)).sub c (sort_from (tops (greatests K f)) c m)))

module _ (K : Computation) (ok : Valid K) (f : Formula) (w : workable (as_true f) ≡ true) where
  -- What is listed is true.
  pub listed-true : (c : Cut) → Member c (maximal K f) → Consistent K c × True K f c
  listed-true c m = let r = listed-belongs K ok f c m in
      (r.0, ((basis-true K ok f w).exact c r.0).0 (some-belongs_any (basis K (as_true f)) c r.1))

  -- What is true lies below a cut that is listed.
  pub true_below : (c : Cut) → Consistent K c → True K f c → Some (λ d. c ⊑ d) (maximal K f)
  true_below c p t =
      let s = some_all {G' = λ S. c ⊑ greatest S} (λ S g b. g.above c (p, ((belongs_iff S c).0 b).0)) (basis_sat K ok (as_true f)).all_good (belongs_any-some (basis K (as_true f)) c (((basis-true K ok f w).exact c p).1 t)) in
      let r = find (to_map {G = λ d. c ⊑ d} greatest s) in
      let t = find ((tops_ok (greatests K f)).cover r.0 r.1) in
      found t.0 (sort_to (tops (greatests K f)) t.0 t.1) (trans⊑ c r.0 t.0 r.2 t.2)

  listed_same : (c d : Cut) → Member c (maximal K f) → Member d (maximal K f) → c ⊑ d → c ≡ d
  listed_same c d p q = let t = tops (greatests K f) in apart_same t (tops_ok (greatests K f)).apart c d (sort_from t c p) (sort_from t d q)

  -- Listed are exactly the maximal true cuts.
  pub listed_iff : (c : Cut) → Member c (maximal K f) ↔ Maximal K f c
  listed_iff c = (to, from)
    where
      to : Member c (maximal K f) → Maximal K f c
      to m = record {
        consistent = (listed-true c m).0;
        is_true = (listed-true c m).1;
        alone = λ d p t h. let r = find (true_below d p t) in
            let e : c ≡ r.0 = listed_same c r.0 m r.1 (trans⊑ c d r.0 h r.2) in
            same_cut K d c p (listed-true c m).0 (subst (λ z. d ⊑ z) (sym e) r.2) h;
      }

      from : Maximal K f c → Member c (maximal K f)
      from x = let r = find (true_below c x.consistent x.is_true) in let u = listed-true r.0 r.1 in
          subst (λ z. Member z (maximal K f)) (x.alone r.0 u.0 u.1 r.2) r.1

  -- Nothing is listed exactly if the formula is never true.
  pub never_iff : (maximal K f ≡ []) ↔ ((c : Cut) → Consistent K c → True K f c → ⊥)
  never_iff = (λ e c p t. nothing (subst (λ l. Some (λ d. c ⊑ d) l) e (true_below c p t)), λ n. none (maximal K f) (λ c m. n c (listed-true c m).0 (listed-true c m).1))
    where
      none : (l : List Cut) → ((c : Cut) → Member c l → ⊥) → l ≡ []
      none [] h = refl
      none (c ∷ l) h = absurd (h c (here refl))
