-- Ascending order: precedes is a strict total order, and sort puts cuts in it.
use mathlib.Core.Path.{◌≡◌, refl}
use mathlib.Core.Logic.{◌⊎◌, inl, inr}
use Prim.Native.Nat.{ℕ, ◌<◌}
use native.Mathlib.Omega.{arith}
use native.Mathlib.Decide.{dec_lt}
use mathlib.Core.Bool.{Bool, true, false, cond, ◌&&◌}
use mathlib.Core.List.{List, [], ◌∷◌}
use lib.Dec.{ltb, eqb}
use borrow.Author.Tests.{ltb-true, lt-ltb, eqb-true, eq-eqb}
use Rattle.model.specs.Lists.{Member}
use Rattle.model.specs.Lists.Some.{here, there}
use Rattle.model.specs.Cut.{Cut}
use Rattle.model.specs.Answer.{precedes, insert, sort}
use Rattle.model.specs.Promise.{Ascending}
use Rattle.lattice.proofs.Tests.{clash, and-true, or-true, false_iff}
use Rattle.lattice.proofs.Lists.{nothing}
use Rattle.lattice.proofs.Cuts.{refl⊑}
use Rattle.lattice.proofs.Tops.{Apart}

cons_to : (x y : ℕ) (c d : Cut) → precedes (x ∷ c) (y ∷ d) ≡ true → (x < y) ⊎ ((x ≡ y) × (precedes c d ≡ true))
unfolding precedes
cons_to x y c d h = elim ((or-true (ltb x y) (eqb x y && precedes c d)).0 h)
    [ inl p ↦ inl (ltb-true x y p) | inr q ↦ inr (eqb-true x y ((and-true (eqb x y) (precedes c d)).0 q).0, ((and-true (eqb x y) (precedes c d)).0 q).1) ]

cons_from : (x y : ℕ) (c d : Cut) → (x < y) ⊎ ((x ≡ y) × (precedes c d ≡ true)) → precedes (x ∷ c) (y ∷ d) ≡ true
unfolding precedes
cons_from x y c d h = (or-true (ltb x y) (eqb x y && precedes c d)).1 (elim h
    [ inl p ↦ inl (lt-ltb x y p) | inr q ↦ inr ((and-true (eqb x y) (precedes c d)).1 (eq-eqb x y q.0, q.1)) ])

-- Of two different cuts one precedes the other.
pub compared : (c d : Cut) → (precedes c d ≡ true) ⊎ ((c ≡ d) ⊎ (precedes d c ≡ true))
unfolding precedes
compared [] [] = inr (inl refl)
compared [] (y ∷ d) = inl refl
compared (x ∷ c) [] = inr (inr refl)
compared (x ∷ c) (y ∷ d) = go (dec_lt x y) (dec_lt y x) (compared c d)
  where
    go : Dec (x < y) → Dec (y < x) → (precedes c d ≡ true) ⊎ ((c ≡ d) ⊎ (precedes d c ≡ true))
        → (precedes (x ∷ c) (y ∷ d) ≡ true) ⊎ ((◌≡◌ {A = Cut} (x ∷ c) (y ∷ d)) ⊎ (precedes (y ∷ d) (x ∷ c) ≡ true))
    go (yes p) q r = inl (cons_from x y c d (inl p))
    go (no p) (yes q) r = inr (inr (cons_from y x d c (inl q)))
    go (no p) (no q) (inl r) = let e : x ≡ y = omega arith in inl (cons_from x y c d (inr (e, r)))
    go (no p) (no q) (inr (inl r)) = let e : x ≡ y = omega arith in inr (inl (cc))
    go (no p) (no q) (inr (inr r)) = let e : y ≡ x = omega arith in inr (inr (cons_from y x d c (inr (e, r))))

pub precedes_trans : (c d e : Cut) → precedes c d ≡ true → precedes d e ≡ true → precedes c e ≡ true
unfolding precedes
precedes_trans [] [] e p q = clash p refl
precedes_trans [] (y ∷ d) [] p q = q
precedes_trans [] (y ∷ d) (z ∷ e) p q = refl
precedes_trans (x ∷ c) [] e p q = clash p refl
precedes_trans (x ∷ c) (y ∷ d) [] p q = q
precedes_trans (x ∷ c) (y ∷ d) (z ∷ e) p q = cons_from x z c e (go (cons_to x y c d p) (cons_to y z d e q) (precedes_trans c d e))
  where
    go : (x < y) ⊎ ((x ≡ y) × (precedes c d ≡ true)) → (y < z) ⊎ ((y ≡ z) × (precedes d e ≡ true)) → (precedes c d ≡ true → precedes d e ≡ true → precedes c e ≡ true)
        → (x < z) ⊎ ((x ≡ z) × (precedes c e ≡ true))
    go (inl u) (inl v) r = inl (omega arith)
    go (inl u) (inr v) r = inl (omega (arith, v.0))
    go (inr u) (inl v) r = inl (omega (arith, u.0))
    go (inr u) (inr v) r = inr (omega (arith, u.0, v.0), r u.1 v.1)

pub precedes_self : (c : Cut) → precedes c c ≡ false
unfolding precedes
precedes_self [] = refl
precedes_self (x ∷ c) = (false_iff (precedes (x ∷ c) (x ∷ c))).1 (λ h. elim (cons_to x x c c h) [ inl p ↦ omega arith | inr q ↦ clash q.1 (precedes_self c) ])

-- A list with one more cut has that cut and its own.
pub insert_from : (c : Cut) (l : List Cut) (d : Cut) → Member d (insert c l) → (d ≡ c) ⊎ Member d l
unfolding insert
insert_from c [] d (here p) = inl p
insert_from c [] d (there m) = nothing m
insert_from c (x ∷ l) d m = go (precedes c x) m (insert_from c l d)
  where
    go : (b : Bool) → Member d (cond b (c ∷ x ∷ l) (x ∷ insert c l)) → (Member d (insert c l) → (d ≡ c) ⊎ Member d l) → (d ≡ c) ⊎ Member d (x ∷ l)
    go true (here p) r = inl p
    go true (there m) r = inr m
    go false (here p) r = inr (here p)
    go false (there m) r = elim (r m) [ inl u ↦ inl u | inr v ↦ inr (there v) ]

insert_to : (c : Cut) (l : List Cut) (d : Cut) → (d ≡ c) ⊎ Member d l → Member d (insert c l)
unfolding insert
insert_to c [] d (inl p) = here p
insert_to c [] d (inr m) = nothing m
insert_to c (x ∷ l) d h = go (precedes c x) h (insert_to c l d)
  where
    go : (b : Bool) → (d ≡ c) ⊎ Member d (x ∷ l) → ((d ≡ c) ⊎ Member d l → Member d (insert c l)) → Member d (cond b (c ∷ x ∷ l) (x ∷ insert c l))
    go true (inl p) r = here p
    go true (inr m) r = there m
    go false (inl p) r = there (r (inl p))
    go false (inr (here p)) r = here p
    go false (inr (there m)) r = there (r (inr m))

insert_ascending : (c : Cut) (l : List Cut) → Ascending l → (Member c l → ⊥) → Ascending (insert c l)
unfolding insert
insert_ascending c [] a n = (λ d m. nothing m, tt)
insert_ascending c (x ∷ l) a n = go (precedes c x) refl (insert_ascending c l a.1 (λ m. n (there m)))
  where
    first : precedes c x ≡ true → (d : Cut) → Member d (x ∷ l) → precedes c d ≡ true
    first e d (here p) = rw p e
    first e d (there m) = precedes_trans c x d e (a.0 d m)

    turned : precedes c x ≡ false → (precedes c x ≡ true) ⊎ ((c ≡ x) ⊎ (precedes x c ≡ true)) → precedes x c ≡ true
    turned e (inl u) = clash u e
    turned e (inr (inl u)) = absurd (n (here u))
    turned e (inr (inr u)) = u

    later : precedes x c ≡ true → (d : Cut) → (d ≡ c) ⊎ Member d l → precedes x d ≡ true
    later e d (inl p) = rw p e
    later e d (inr m) = a.0 d m

    go : (b : Bool) → precedes c x ≡ b → Ascending (insert c l) → Ascending (cond b (c ∷ x ∷ l) (x ∷ insert c l))
    go true e r = (first e, a)
    go false e r = (λ d m. later (turned e (compared c x)) d (insert_from c l d m), r)

-- Sorting lists the same cuts.
pub sort_from : (l : List Cut) (d : Cut) → Member d (sort l) → Member d l
unfolding sort
sort_from [] d m = m
sort_from (c ∷ l) d m = elim (insert_from c (sort l) d m) [ inl p ↦ here p | inr q ↦ there (sort_from l d q) ]

pub sort_to : (l : List Cut) (d : Cut) → Member d l → Member d (sort l)
unfolding sort
sort_to [] d x' = elim x' [ ]
sort_to (c ∷ l) d (here p) = insert_to c (sort l) d (inl p)
sort_to (c ∷ l) d (there m) = insert_to c (sort l) d (inr (sort_to l d m))

-- Sorted, cuts that do not contain each other ascend.
pub sort_ascending : (l : List Cut) → Apart l → Ascending (sort l)
unfolding sort
sort_ascending [] a = tt
sort_ascending (c ∷ l) a = insert_ascending c (sort l) (sort_ascending l a.1) (λ m. (a.0 c (sort_from l c m)).0 (refl⊑ c))
