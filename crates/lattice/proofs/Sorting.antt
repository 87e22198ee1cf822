-- Sorting and adding change places: a cut is added to the sorted list as to the list itself, and put in its place.
use mathlib.Core.Path.{◌≡◌, refl, sym, ◌∙◌, subst}
use mathlib.Core.Logic.{◌⊎◌, inl, inr}
use mathlib.Core.Bool.{Bool, true, false, cond}
use mathlib.Core.List.{List, [], ◌∷◌}
use Rattle.model.specs.Lists.{Member}
use Rattle.model.specs.Lists.Some.{here, there}
use Rattle.model.specs.Cut.{Cut, inside, inside_any}
use Rattle.model.specs.Answer.{not_inside, add, tops, precedes, insert, sort}
use Rattle.lattice.proofs.Tests.{clash, false_iff, same_test}
use Rattle.lattice.proofs.Lists.{find, found, nothing}
use Rattle.lattice.proofs.Cuts.{inside_any-some, some-inside_any}
use Rattle.lattice.proofs.Tops.{not_inside-sub}
use Rattle.lattice.proofs.Order.{compared, precedes_trans, precedes_self, insert_from, sort_from, sort_to}

-- No cut stands after one that it precedes; equal ones may stand side by side.
abbrev Rising : List Cut → Type 0
Rising [] = Unit {0}
Rising (c ∷ l) = ((d : Cut) → Member d l → precedes d c ≡ false) × Rising l

-- What precedes the first precedes all.
precedes_all : (c x : Cut) (l : List Cut) → Rising (x ∷ l) → precedes c x ≡ true → (d : Cut) → Member d (x ∷ l) → precedes c d ≡ true
precedes_all c x l r h d (here e) = rw e h
precedes_all c x l r h d (there m) = go (compared c d)
  where
    go : (precedes c d ≡ true) ⊎ ((c ≡ d) ⊎ (precedes d c ≡ true)) → precedes c d ≡ true
    go (inl u) = u
    go (inr (inl u)) = clash (subst (λ z. precedes z x ≡ true) u h) (r.0 d m)
    go (inr (inr u)) = clash (precedes_trans d c x u h) (r.0 d m)

insert_rising : (c : Cut) (l : List Cut) → Rising l → Rising (insert c l)
unfolding insert
insert_rising c [] r = (λ d m. nothing m, tt)
insert_rising c (x ∷ l) r = go (precedes c x) refl (insert_rising c l r.1)
  where
    later : (d : Cut) → precedes c d ≡ true → precedes d c ≡ false
    later d h = (false_iff (precedes d c)).1 (λ u. clash (precedes_trans c d c h u) (precedes_self c))

    behind : precedes c x ≡ false → (d : Cut) → (d ≡ c) ⊎ Member d l → precedes d x ≡ false
    behind e d (inl p) = rw p e
    behind e d (inr m) = r.0 d m

    go : (b : Bool) → precedes c x ≡ b → Rising (insert c l) → Rising (cond b (c ∷ x ∷ l) (x ∷ insert c l))
    go true e s = (λ d m. later d (precedes_all c x l r e d m), r)
    go false e s = (λ d m. behind e d (insert_from c l d m), s)

sort_rising : (l : List Cut) → Rising (sort l)
unfolding sort
sort_rising [] = tt
sort_rising (c ∷ l) = insert_rising c (sort l) (sort_rising l)

insert-first : (c : Cut) (l : List Cut) → ((d : Cut) → Member d l → precedes c d ≡ true) → insert c l ≡ c ∷ l
unfolding insert
insert-first c [] h = refl
insert-first c (x ∷ l) h = rw (h x (here refl))

not_inside-insert : (c d : Cut) (l : List Cut) → Rising l → not_inside c (insert d l) ≡ cond (inside d c) (not_inside c l) (insert d (not_inside c l))
unfolding not_inside insert
not_inside-insert c d [] r = refl
not_inside-insert c d (x ∷ l) r = go (precedes d x) refl (not_inside-insert c d l r.1)
  where
    N : List Cut
    N = not_inside c l

    drop : (a b : Bool) → precedes d x ≡ false → cond a (cond b N (insert d N)) (x ∷ cond b N (insert d N)) ≡ cond b (cond a N (x ∷ N)) (insert d (cond a N (x ∷ N)))
    drop true true e = refl
    drop true false e = refl
    drop false true e = refl
    drop false false e = rw e

    go : (b : Bool) → precedes d x ≡ b → not_inside c (insert d l) ≡ cond (inside d c) (not_inside c l) (insert d (not_inside c l))
        → not_inside c (cond b (d ∷ x ∷ l) (x ∷ insert d l)) ≡ cond (inside d c) (not_inside c (x ∷ l)) (insert d (not_inside c (x ∷ l)))
    go true e i = rw (insert-first d (not_inside c (x ∷ l)) (λ y m. precedes_all d x l r e y (not_inside-sub c (x ∷ l) y m)))
    go false e i = rw i (drop (inside x c) (inside d c) e)

sort-not_inside : (c : Cut) (l : List Cut) → sort (not_inside c l) ≡ not_inside c (sort l)
unfolding sort not_inside
sort-not_inside c [] = refl
sort-not_inside c (x ∷ l) = go (inside x c) (sort-not_inside c l) ∙ sym (not_inside-insert c x (sort l) (sort_rising l))
  where
    go : (b : Bool) → sort (not_inside c l) ≡ not_inside c (sort l) → sort (cond b (not_inside c l) (x ∷ not_inside c l)) ≡ cond b (not_inside c (sort l)) (insert x (not_inside c (sort l)))
    go true i = i
    go false i = rw i

inside_any-sort : (c : Cut) (l : List Cut) → inside_any c (sort l) ≡ inside_any c l
inside_any-sort c l = same_test (inside_any c (sort l)) (inside_any c l)
    (λ h. let r = find (inside_any-some c (sort l) h) in some-inside_any c l (found r.0 (sort_from l r.0 r.1) r.2))
    (λ h. let r = find (inside_any-some c l h) in some-inside_any c (sort l) (found r.0 (sort_to l r.0 r.1) r.2))

-- Adding to the list and sorting is adding to the sorted list.
pub sort-add : (c : Cut) (l : List Cut) → sort (add c l) ≡ cond (inside_any c (sort l)) (sort l) (insert c (not_inside c (sort l)))
unfolding add sort
sort-add c l = rw (inside_any-sort c l, ← sort-not_inside c l) (go (inside_any c l))
  where
    go : (b : Bool) → sort (cond b l (c ∷ not_inside c l)) ≡ cond b (sort l) (insert c (sort (not_inside c l)))
    go true = refl
    go false = refl

-- The listed cuts, with one structure more.
pub sort-tops : (c : Cut) (l : List Cut) → sort (tops (c ∷ l)) ≡ cond (inside_any c (sort (tops l))) (sort (tops l)) (insert c (not_inside c (sort (tops l))))
unfolding tops
sort-tops c l = sort-add c (tops l)
